-- Lists of states of a module, however they are held.
use Rattle.std.specs.Prelude.{◌≡◌, ℕ, List, map, nat_le, slice_index_or, true, false}
use Rattle.std.specs.List.Sorted.{IsNonDecreasingBy, IsPartitionPoint}
use Rattle.mp_modules.specs.Memories.{blank}
use Rattle.mp_partition.specs.declared.runs.checkpoint.Checkpoint.{Checkpoint}
use Rattle.mp_partition.specs.declared.runs.state_list.BitCheckpoint.{BitCheckpoint}
use Rattle.mp_partition.specs.declared.runs.state_list.StateList.{StateList}
use Rattle.mp_partition.specs.declared.runs.state_list.StateList.TheVariants as held

-- the same state in its full room
abbrev pub opened : BitCheckpoint → Checkpoint
opened k = record { time = k.time; memory = k.bits }

-- the states of a list
abbrev pub states_of : StateList → List Checkpoint
states_of (held.Bits list) = map opened list.items
states_of (held.Wide list) = list.items

abbrev pub IsRising : List Checkpoint → Type 0
IsRising ks = IsNonDecreasingBy (λ (k : Checkpoint). k.time) ks

-- the time of a state
abbrev pub time_in : List Checkpoint → ℕ → ℕ
time_in ks place = (slice_index_or ks place (record { time = 0; memory = blank })).time

-- just the states before the place are of times not after this one
abbrev pub IsCut : List Checkpoint → ℕ → ℕ → Type 0
IsCut ks time place = IsPartitionPoint (λ (k : Checkpoint). nat_le k.time time ≡ true) (λ (k : Checkpoint). nat_le k.time time ≡ false) ks place
