-- Modules that sleep aren't at work.
use Rattle.std.specs.Prelude.{◌≡◌, ◌⊎◌, ℕ, ◌+◌, ◌≤◌, Some}
use Rattle.mp_records.specs.declared.module_record.ModuleRecord.{ModuleRecord}
use Rattle.mp_netlist.specs.Circuit.{Circuit, IsCircuit, module_at}
use Rattle.mp_model.specs.Reach.{IsTouched}
use Rattle.mp_depend.specs.work.Revisions.{IsRevision, IsKept}
use Rattle.mp_depend.specs.work.Work.{Differs, IsApartIn}
use Rattle.mp_active.specs.agreement.Sleeping.{IsSleeping}

-- a module that sleeps isn't touched; its states don't differ before a time since which it has slept, or later; and from then on it isn't apart
abbrev pub SleepersRest : Type 0
SleepersRest = (old new : Circuit) → IsCircuit old → IsCircuit new → IsRevision old new → (since t m c to : ℕ) (r : ModuleRecord) → IsSleeping old new since t m r → since ≤ c → c ≤ t + 1 → to ≤ t + 1 →
    (IsTouched old new m ⊎ Differs old new m c ⊎ IsApartIn old new m c to) → ⊥

-- a module that stands in the new netlist and isn't touched has one record in both
abbrev pub UntouchedAreKept : Type 0
UntouchedAreKept = (old new : Circuit) (m : ℕ) (r : ModuleRecord) → module_at new m ≡ Some r → (IsTouched old new m → ⊥) → IsKept old new m r
