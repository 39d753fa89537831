-- From when on a wire has the levels of the old run.
use Rattle.std.specs.Prelude.{◌≡◌, ◌⊎◌, ℕ, ◌+◌, ◌<◌, ◌≤◌, Bool, true, false, Some, length, ◌==◌, if◌then◌else◌}
use Rattle.mp_records.specs.declared.ids.ModuleId.{ModuleId}
use Rattle.mp_records.specs.declared.module_record.ModuleRecord.{ModuleRecord}
use Rattle.mp_records.specs.Outputs.{delay_of}
use Rattle.mp_netlist.specs.declared.driver.Driver.TheVariants.{Port}
use Rattle.mp_netlist.specs.Circuit.{Circuit, IsCircuit, module_at}
use Rattle.mp_netlist.specs.Drivers.{driver, is_port}
use Rattle.mp_model.specs.Waves.{level}
use Rattle.mp_kernel.specs.timers.TimerWheels.{never}
use Rattle.mp_depend.specs.work.Revisions.{IsRevision, IsDrivenAlike}
use Rattle.mp_active.specs.agreement.Sleeping.{AreSleeping}

-- the time from which on an output with a delay has the levels of the old run, where its module has slept since a time: from 0 on, if it has never been active
abbrev pub slept_from : ℕ → ℕ → ℕ
slept_from since delay = if since == 0 then 0 else since + delay

-- the wire is driven alike, or was never added
abbrev pub IsAsBefore : Circuit → Circuit → ℕ → Type 0
IsAsBefore old new w = IsDrivenAlike old new w ⊎ (length new.wires ≤ w)

-- a wire that an active module drives never has them, one that a sleeping module drives has them its delay after that fell asleep, and any other
-- has them always, where it is as before, or never
pub record AreSources (old new : Circuit) (active : ℕ → Bool) (since until : ℕ → ℕ) : Type 0 where
  pub awake : (w p : ℕ) (m : ModuleId) → driver new w ≡ Port m p → active m.0 ≡ true → until w ≡ never
  pub asleep : (w p : ℕ) (m : ModuleId) (r : ModuleRecord) → driver new w ≡ Port m p → active m.0 ≡ false → module_at new m.0 ≡ Some r → until w ≡ slept_from (since m.0) (delay_of r p)
  pub others : (w : ℕ) → is_port (driver new w) ≡ false → (until w ≡ never) ⊎ ((until w ≡ 0) × IsAsBefore old new w)

-- after the unit t, the wire of a sleeping module has the levels of the old run from right before that time on, as far as they rest on states up to t
abbrev pub SleepersDriveAlike : Type 0
SleepersDriveAlike = (old new : Circuit) → IsCircuit old → IsCircuit new → IsRevision old new → (active : ℕ → Bool) (since until : ℕ → ℕ) (t : ℕ) →
    AreSleeping old new active since t → AreSources old new active since until → (w p : ℕ) (m : ModuleId) (r : ModuleRecord) → driver new w ≡ Port m p → active m.0 ≡ false → module_at new m.0 ≡ Some r →
    (u : ℕ) → until w ≤ u + 1 → u ≤ t + delay_of r p → level old w u ≡ level new w u

-- from that time on so has any wire, up to the next unit
abbrev pub WiresAgree : Type 0
WiresAgree = (old new : Circuit) → IsCircuit old → IsCircuit new → IsRevision old new → (active : ℕ → Bool) (since until : ℕ → ℕ) (t : ℕ) → t + 1 < never →
    AreSleeping old new active since t → AreSources old new active since until → (w u : ℕ) → until w ≤ u → u ≤ t + 1 → level old w u ≡ level new w u
