use Rattle.std.proofs.Common.{◌≡◌, ℕ, ◌<◌, ◌++◌, true, List, length, get_or}
use Rattle.mp_records.specs.declared.ids.WireId.{WireId}
use Rattle.mp_records.specs.declared.ports.Input.{Input}
use Rattle.mp_steady.specs.Reaching.{AreReached}
use Rattle.mp_steady.specs.WireSets.{has_wire, numbers}
use Rattle.mp_steady.proofs.control.Reached.add_inputs.Given as goal

-- the wires of the inputs so far
abbrev pub invariant-loop-input : goal.invariant-loop-input
invariant-loop-input l = record {
  reached : AreReached l.of.netlist.now l.self.marks.items l.self.order.items;
  more : (more : List WireId) × (l.self.order.items ≡ l.fn.self.order.items ++ more);
  upto : (k : ℕ) (d : Input) → k < l.input-index → k < length l.input-items → has_wire (numbers l.self.order.items) (get_or l.input-items k d).wire.0 ≡ true;
}
