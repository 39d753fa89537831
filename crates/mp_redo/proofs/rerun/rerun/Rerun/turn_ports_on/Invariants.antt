use Rattle.std.proofs.Common.{◌≡◌, ℕ, ◌<◌, true, Some}
use Rattle.mp_records.specs.Inputs.{input_in}
use Rattle.mp_records.specs.Outputs.{output_in}
use Rattle.mp_partition.specs.regions.Readers.{Reads}
use Rattle.mp_redo.specs.rerun.Reruns.{IsRerunAt, on_of}
use Rattle.mp_redo.specs.rerun.Waking.{HasTurnedOn}
use Rattle.mp_redo.proofs.rerun.rerun.Rerun.turn_ports_on.Given as goal

-- the wires of the first inputs are on
abbrev pub invariant-loop-input : goal.invariant-loop-input
invariant-loop-input l = record {
  turned : HasTurnedOn l.fn.self l.self;
  is : (latest : ℕ) → IsRerunAt l.change.old.now l.change.new.now l.change.run.now latest l.now l.fn.self → IsRerunAt l.change.old.now l.change.new.now l.change.run.now latest l.now l.self;
  on : (k : ℕ) → k < l.input-index → on_of l.self (input_in l.input-items k).wire.0 ≡ true;
}

-- those of all inputs are, and those of the first outputs
abbrev pub invariant-loop-output : goal.invariant-loop-output
invariant-loop-output l = record {
  turned : HasTurnedOn l.fn.self l.self;
  is : (latest : ℕ) → IsRerunAt l.change.old.now l.change.new.now l.change.run.now latest l.now l.fn.self → IsRerunAt l.change.old.now l.change.new.now l.change.run.now latest l.now l.self;
  read : (w : ℕ) → Reads l.change.new.now l.fn.id.0 w → on_of l.self w ≡ true;
  on : (k w : ℕ) → k < l.output-index → (output_in l.output-items k).wire ≡ Some (record { 0 = w }) → on_of l.self w ≡ true;
}
