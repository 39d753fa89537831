-- What late data come from.
use Rattle.std.specs.Prelude.{◌≡◌, ◌≤◌, [], Some}
use Rattle.std.specs.List.{Contains}
use Rattle.mp_records.specs.declared.bundle_record.BundleRecord.{BundleRecord}
use Rattle.mp_netlist.specs.Circuit.{Circuit, IsCircuit, bundle_at}
use Rattle.mp_questions.specs.declared.causes.wire_change.WireChange.{WireChange}
use Rattle.mp_questions.specs.causes.Changes.{change_at}
use Rattle.mp_questions.specs.causes.Causes.{DrivingPort, Outside, Start, cause_of}
use Rattle.mp_questions.specs.late.Sources.{sources, leads}
use Rattle.mp_questions.specs.late.Lateness.{all_late}
use Rattle.mp_questions.specs.declared.late.late.Late.{Late}

-- no change that leads to another is later than that one
abbrev pub LeadsAreNoLater : Type 0
LeadsAreNoLater = (n : Circuit) (c d : WireChange) → IsCircuit n → Contains (leads n c) d → d.time ≤ c.time

-- the change of a bundle's data that is late
pub record IsLateChange (n : Circuit) (c : WireChange) : Type 0 where
  pub late : Late
  pub found : Contains (all_late n) late
  pub bundle : BundleRecord
  pub stands : bundle_at n late.bundle.0 ≡ Some bundle
  pub change : c ≡ change_at n bundle.payload late.time

-- what is set from outside is never late
abbrev pub StimuliAreNeverLate : Type 0
StimuliAreNeverLate = (n : Circuit) (c : WireChange) → IsCircuit n → IsLateChange n c → cause_of n c ≡ Outside → ⊥

-- what is late and comes from no other change is the start of a module
abbrev pub OnlyStartsAreLateAlone : Type 0
OnlyStartsAreLateAlone = (n : Circuit) (c : WireChange) → IsCircuit n → IsLateChange n c → sources n c ≡ [] → (g : DrivingPort) × (cause_of n c ≡ Start g)
