-- What is evaluated again after a netlist has changed: by blocks of time, and in these by windows.
use Rattle.std.specs.Prelude.{◌≡◌, ◌≢◌, ◌⊎◌, ◌↔◌, ℕ, ◌+◌, ◌-◌, ◌%◌, ◌<◌, ◌≤◌, List, Some, length, slice_index_or, min}
use Rattle.std.specs.List.{Contains}
use Rattle.mp_records.specs.declared.ids.ModuleId.{ModuleId}
use Rattle.mp_records.specs.declared.module_record.ModuleRecord.{ModuleRecord}
use Rattle.mp_records.specs.Outputs.{delay_of}
use Rattle.mp_netlist.specs.declared.driver.Driver.TheVariants.{Port}
use Rattle.mp_netlist.specs.Circuit.{Circuit, IsCircuit, module_at}
use Rattle.mp_netlist.specs.Drivers.{driver}
use Rattle.mp_netlist.specs.Delays.{least_delay}
use Rattle.mp_netlist.specs.Limits.{checkpoint_units}
use Rattle.mp_model.specs.Waves.{level, state}
use Rattle.mp_model.specs.Reach.{IsApart, IsTouched, IsReached}
use Rattle.mp_depend.specs.declared.work.work_entry.WorkEntry.{WorkEntry}
use Rattle.mp_depend.specs.work.Revisions.{IsRevision, IsKept, IsDrivenAlike}

-- in a run up to a horizon a block begins wherever states are kept
abbrev pub block_of : ℕ → ℕ → ℕ
block_of horizon t = t - t % checkpoint_units horizon

-- from a block's begin on, a window begins after each least delay
abbrev pub window_of : Circuit → ℕ → ℕ
window_of n t = t - t % checkpoint_units n.horizon % least_delay n

-- a window ends where the next one begins, with its block, or at the horizon
abbrev pub window_end : Circuit → ℕ → ℕ
window_end n from = min (from + least_delay n) (min (block_of n.horizon from + checkpoint_units n.horizon) n.horizon)

pub record IsWindow (n : Circuit) (from to : ℕ) : Type 0 where
  pub below : from < n.horizon
  pub begins : window_of n from ≡ from
  pub ends : to ≡ window_end n from

-- the module stands in both netlists with one record, and its states before the time differ
pub record Differs (old new : Circuit) (m t : ℕ) : Type 0 where
  pub part : ModuleRecord
  pub kept : IsKept old new m part
  pub last : ℕ
  pub before : last + 1 ≡ t
  pub differ : state old m last ≢ state new m last

-- the module is apart at a time from a to before b
abbrev pub IsApartIn : Circuit → Circuit → ℕ → ℕ → ℕ → Type 0
IsApartIn old new m a b = (t : ℕ) × (a ≤ t) × (t < b) × IsApart old new m t

-- the module is at work before a time: it is touched, its states differ before the time's block, or it is apart in the block before the time
abbrev pub IsAtWork : Circuit → Circuit → ℕ → ℕ → Type 0
IsAtWork old new m t = IsTouched old new m ⊎ Differs old new m (block_of new.horizon t) ⊎ IsApartIn old new m (block_of new.horizon t) t

-- a module that is at work before a window works in the window, and one that is first apart in it works from the block's begin on
abbrev pub WorksFrom : Circuit → Circuit → ℕ → ℕ → ℕ → ℕ → Type 0
WorksFrom old new m start from to =
    (IsAtWork old new m start × (from ≡ start)) ⊎ ((IsAtWork old new m start → ⊥) × IsApartIn old new m start to × (from ≡ block_of new.horizon start))

-- the module works from one time to before another, which is the end of a window
pub record IsEntry (old new : Circuit) (m from to : ℕ) : Type 0 where
  pub start : ℕ
  pub window : IsWindow new start to
  pub works : WorksFrom old new m start from to

-- an entry that ends earlier comes first, and of two that end together the one of the lesser module
abbrev pub ComesBefore : WorkEntry → WorkEntry → Type 0
ComesBefore e f = (e.to < f.to) ⊎ ((e.to ≡ f.to) × (e.«module».0 < f.«module».0))

-- all work, in order
pub record IsWork (old new : Circuit) (work : List WorkEntry) : Type 0 where
  pub entries : (e : WorkEntry) → Contains work e ↔ IsEntry old new e.«module».0 e.from e.to
  pub order : (k : ℕ) (d : WorkEntry) → k + 1 < length work → ComesBefore (slice_index_or work k d) (slice_index_or work (k + 1) d)

-- there is no other such list
abbrev pub IsOnlyWork : Type 0
IsOnlyWork = (old new : Circuit) (work other : List WorkEntry) → IsWork old new work → IsWork old new other → work ≡ other

-- whatever is worked on is reached before the work's end
abbrev pub WorksOnlyReached : Type 0
WorksOnlyReached = (old new : Circuit) → IsCircuit old → IsCircuit new → IsRevision old new →
    (m from to : ℕ) → IsEntry old new m from to → IsReached old new m to

-- a module that isn't touched works up to a time only where its states differ before the last block, or it is apart in this block
abbrev pub WorksWhileDifferent : Type 0
WorksWhileDifferent = (old new : Circuit) → IsCircuit new → (m from to : ℕ) (r : ModuleRecord) → IsKept old new m r → IsEntry old new m from to →
    Differs old new m (block_of new.horizon (to - 1)) ⊎ IsApartIn old new m (block_of new.horizon (to - 1)) to

-- where a module that isn't touched doesn't work in a window, its states agree from the block's begin to the window's end
abbrev pub AgreesOutside : Type 0
AgreesOutside = (old new : Circuit) → IsCircuit old → IsCircuit new → IsRevision old new → (m : ℕ) (r : ModuleRecord) → IsKept old new m r →
    (start to : ℕ) → IsWindow new start to → ((from : ℕ) → IsEntry old new m from to → ⊥) →
    (t : ℕ) → block_of new.horizon start ≤ t → t < to → state old m t ≡ state new m t

-- of two entries of a module the one that ends earlier ends before the other begins, and two that end together are one
abbrev pub WorksOnce : Type 0
WorksOnce = (old new : Circuit) → IsCircuit new → (m from to after end : ℕ) → IsEntry old new m from to → IsEntry old new m after end →
    (to < end → to ≤ after) × (to ≡ end → from ≡ after)

-- a touched module works in each window, and in nothing else
abbrev pub WorksThroughout : Type 0
WorksThroughout = (old new : Circuit) (m from to : ℕ) → IsTouched old new m → IsEntry old new m from to ↔ IsWindow new from to

-- each time below the horizon lies in the window of the time
abbrev pub WindowsCover : Type 0
WindowsCover = (n : Circuit) → IsCircuit n → (t : ℕ) → t < n.horizon →
    IsWindow n (window_of n t) (window_end n (window_of n t)) × (window_of n t ≤ t) × (t < window_end n (window_of n t))

-- of two windows the one that begins later begins where the other ends, or after it
abbrev pub WindowsApart : Type 0
WindowsApart = (n : Circuit) → IsCircuit n → (start to later end : ℕ) → IsWindow n start to → IsWindow n later end → start < later → to ≤ later

-- so the level of a wire that the same drives, through a port of such a module, is the same from the block's begin to the window's end,
-- both put off by the port's delay
abbrev pub LevelsAgreeOutside : Type 0
LevelsAgreeOutside = (old new : Circuit) → IsCircuit old → IsCircuit new → IsRevision old new → (w : ℕ) → IsDrivenAlike old new w →
    (m : ModuleId) (p : ℕ) (r : ModuleRecord) → driver new w ≡ Port m p → module_at new m.0 ≡ Some r →
    (start to : ℕ) → IsWindow new start to → ((from : ℕ) → IsEntry old new m.0 from to → ⊥) →
    (t : ℕ) → block_of new.horizon start + delay_of r p ≤ t → t < to + delay_of r p → level old w t ≡ level new w t
