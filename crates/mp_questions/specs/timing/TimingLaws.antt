-- What holds of those who wait, and of margins.
use Rattle.std.specs.Prelude.{◌≡◌, ◌≢◌, ◌↔◌, ℕ, ◌≤◌, Option, Some, option_map}
use Rattle.std.specs.List.{Contains}
use Rattle.mp_modules.specs.declared.finding_code.FindingCode.TheVariants.{Setup}
use Rattle.mp_modules.specs.declared.kind.Kind.TheVariants as kinds
use Rattle.mp_modules.specs.CElement.{bubbled}
use Rattle.mp_modules.specs.Tables.{rendezvous}
use Rattle.mp_records.specs.declared.module_record.ModuleRecord.{ModuleRecord}
use Rattle.mp_records.specs.declared.bundle_record.BundleRecord.{BundleRecord}
use Rattle.mp_netlist.specs.Circuit.{Circuit, IsCircuit, module_at, bundle_at}
use Rattle.mp_model.specs.Waves.{level}
use Rattle.mp_model.specs.Findings.{bundle_place, findings}
use Rattle.mp_questions.specs.timing.Events.{event_times}
use Rattle.mp_questions.specs.timing.Measures.{setups}
use Rattle.mp_questions.specs.timing.Waits.{heard, given}

-- the levels at the inputs of a C, behind their bubbles
abbrev pub first_level : Circuit → ModuleRecord → ℕ → ℕ
first_level n r t = bubbled (rendezvous r.params).bubble_a (heard n r 0 t)

abbrev pub second_level : Circuit → ModuleRecord → ℕ → ℕ
second_level n r t = bubbled (rendezvous r.params).bubble_b (heard n r 1 t)

-- a C waits for the input with one of these levels: they differ, and that one agrees with the output
pub record IsMissing (n : Circuit) (m t : ℕ) (mine other : ℕ → ℕ) : Type 0 where
  pub differ : mine t ≢ other t
  pub agrees : mine t ≡ given n m 0 t

abbrev pub StaysFrom : (ℕ → ℕ) → ℕ → ℕ → Type 0
StaysFrom f t end = (u : ℕ) → t ≤ u → u ≤ end → f u ≡ f t

-- a C that waits for an input keeps its output for as long as this input stays
pub record KeepsOutput : Type 0 where
  pub first : (n : Circuit) (m : ℕ) (r : ModuleRecord) (t end : ℕ) → IsCircuit n → module_at n m ≡ Some r → r.kind ≡ kinds.C → IsMissing n m t (first_level n r) (second_level n r)
      → StaysFrom (first_level n r) t end → StaysFrom (given n m 0) t end
  pub second : (n : Circuit) (m : ℕ) (r : ModuleRecord) (t end : ℕ) → IsCircuit n → module_at n m ≡ Some r → r.kind ≡ kinds.C → IsMissing n m t (second_level n r) (first_level n r)
      → StaysFrom (second_level n r) t end → StaysFrom (given n m 0) t end

-- the least time for which the data of a bundle's requests stood, over all times
abbrev pub least_setup : Circuit → BundleRecord → Option ℕ
least_setup n b = option_map (λ e. e.least) (setups (level n b.payload.0) (event_times (level n b.request.0) 0 n.horizon))

-- it isn't above the bundle's own setup exactly where the report finds a setup at the bundle
abbrev pub TellsShortSetups : Type 0
TellsShortSetups = (n : Circuit) (k : ℕ) (b : BundleRecord) → bundle_at n k ≡ Some b
    → ((s : ℕ) × (least_setup n b ≡ Some s) × (s ≤ b.setup)) ↔ ((t : ℕ) × Contains (findings n) (record { time = t; place = bundle_place k; code = Setup }))
