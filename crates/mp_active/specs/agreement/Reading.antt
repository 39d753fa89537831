-- What modules read in the two runs.
use Rattle.std.specs.Prelude.{◌≡◌, ◌↔◌, ℕ, ◌-◌, List, All, map, Some}
use Rattle.mp_records.specs.declared.module_record.ModuleRecord.{ModuleRecord}
use Rattle.mp_netlist.specs.Circuit.{Circuit, IsCircuit, module_at}
use Rattle.mp_model.specs.Levels.{inputs_by}
use Rattle.mp_model.specs.Waves.{level}
use Rattle.mp_model.specs.Reach.{IsApart}
use Rattle.mp_simulation.specs.bits.PortEvents.{source_of}
use Rattle.mp_depend.specs.work.Revisions.{IsRevision, IsKept}
use Rattle.mp_active.specs.agreement.Sleeping.{IsSleeping}

-- the level at a time of what is so much later than a wire, and before time 0 that of time 0
abbrev pub late : Circuit → ℕ × ℕ → ℕ → ℕ
late n source u = level n source.0 (u - source.1)

-- these have the same levels in both runs
abbrev pub AreAlike : Circuit → Circuit → ℕ → List (ℕ × ℕ) → Type 0
AreAlike old new u sources = All (λ source. late old source u ≡ late new source u) sources

-- what a module's inputs have
abbrev pub InputsAreLate : Type 0
InputsAreLate = (n : Circuit) → IsCircuit n → (m u : ℕ) (r : ModuleRecord) → module_at n m ≡ Some r → inputs_by n (level n) r u ≡ map (λ source. late n source u) (map source_of r.inputs)

-- a module that isn't touched isn't apart just where its inputs are alike
abbrev pub QuietWhereAlike : Type 0
QuietWhereAlike = (old new : Circuit) → IsCircuit old → IsCircuit new → IsRevision old new → (m u : ℕ) (r : ModuleRecord) → IsKept old new m r →
    (IsApart old new m u → ⊥) ↔ AreAlike old new u (map source_of r.inputs)

-- the inputs of a module that sleeps are alike after t
abbrev pub SleepersReadAlike : Type 0
SleepersReadAlike = (old new : Circuit) → IsCircuit old → IsCircuit new → IsRevision old new → (since t m : ℕ) (r : ModuleRecord) → IsSleeping old new since t m r →
    AreAlike old new t (map source_of r.inputs)
