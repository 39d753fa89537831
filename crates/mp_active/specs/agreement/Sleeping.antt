-- Modules that sleep while a netlist is evaluated again: they go on as in the old run.
use Rattle.std.specs.Prelude.{◌≡◌, ℕ, ◌+◌, ◌≤◌, Bool, false, Some}
use Rattle.mp_records.specs.declared.module_record.ModuleRecord.{ModuleRecord}
use Rattle.mp_netlist.specs.Circuit.{Circuit, IsCircuit, module_at}
use Rattle.mp_model.specs.Waves.{state}
use Rattle.mp_model.specs.Reach.{IsApart}
use Rattle.mp_depend.specs.work.Revisions.{IsRevision, IsKept, AgreeBefore}

-- after the unit t the module stands in both netlists with one record; its states agreed before a time, since which it hasn't been apart
pub record IsSleeping (old new : Circuit) (since t m : ℕ) (r : ModuleRecord) : Type 0 where
  pub kept : IsKept old new m r
  pub begun : since ≤ t + 1
  pub agreed : AgreeBefore old new m since
  pub quiet : (u : ℕ) → since ≤ u → u ≤ t → IsApart old new m u → ⊥

-- so it is of each module that stands and isn't active
abbrev pub AreSleeping : Circuit → Circuit → (ℕ → Bool) → (ℕ → ℕ) → ℕ → Type 0
AreSleeping old new active since t = (m : ℕ) (r : ModuleRecord) → module_at new m ≡ Some r → active m ≡ false → IsSleeping old new (since m) t m r

-- its states agree
abbrev pub SleepersAgree : Type 0
SleepersAgree = (old new : Circuit) → IsCircuit old → IsCircuit new → IsRevision old new → (since t m : ℕ) (r : ModuleRecord) → IsSleeping old new since t m r →
    (u : ℕ) → since ≤ u + 1 → u ≤ t → state old m u ≡ state new m u

-- it sleeps on in a unit in which it isn't apart
abbrev pub SleepersSleepOn : Type 0
SleepersSleepOn = (old new : Circuit) (since t m : ℕ) (r : ModuleRecord) → IsSleeping old new since t m r → (IsApart old new m (t + 1) → ⊥) → IsSleeping old new since (t + 1) m r

-- a module with one record in both netlists, whose states agree after t, can sleep from the next unit on
abbrev pub ModulesFallAsleep : Type 0
ModulesFallAsleep = (old new : Circuit) (t m : ℕ) (r : ModuleRecord) → IsKept old new m r → state old m t ≡ state new m t → IsSleeping old new (t + 1) t m r
