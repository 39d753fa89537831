-- What an evaluation gives, without where it lies in memory.
use Rattle.std.specs.Prelude.{◌≡◌, ℕ, ◌<◌, ◌%◌, List, Option, None, option_map, length, nat_lt, ◌==◌, ◌&&◌, if◌then◌else◌}
use Rattle.mp_wave.specs.Waveform.{Waveform}
use Rattle.mp_modules.specs.declared.memory.Memory.{Memory}
use Rattle.mp_modules.specs.Memories.{blank}
use Rattle.mp_netlist.specs.Limits.{checkpoint_units}
use Rattle.mp_netlist.specs.Slots.{slot_at}
use Rattle.mp_partition.specs.declared.runs.checkpoint.Checkpoint.{Checkpoint}
use Rattle.mp_partition.specs.runs.Checkpoints.{kept_at}

-- the horizon, the wave of each wire, and of each module its last state and the states kept
pub record Outcome : Type 0 where
  pub horizon : ℕ
  pub waves : List (Option Waveform)
  pub ends : List (Option Memory)
  pub kept : List (Option (List Checkpoint))

abbrev pub wave_of : Outcome → ℕ → Option Waveform
wave_of run w = slot_at run.waves w

abbrev pub end_of : Outcome → ℕ → Option Memory
end_of run m = slot_at run.ends m

abbrev pub checkpoint_of : Outcome → ℕ → ℕ → Option Memory
checkpoint_of run m c = if nat_lt c run.horizon && c % checkpoint_units run.horizon == 0 then option_map (λ ks. kept_at ks c blank) (slot_at run.kept m) else None

-- there are so many slots, each with what f gives of its number
pub record AreSlots {X : Type 0} (size : ℕ) (f : ℕ → Option X) (slots : List (Option X)) : Type 0 where
  pub places : length slots ≡ size
  pub each : (k : ℕ) → k < size → slot_at slots k ≡ f k
