use Rattle.std.proofs.Common.{◌≡◌, ℕ, false, drop}
use Rattle.mp_netlist.specs.Drivers.{port_from}
use Rattle.mp_netlist.specs.DrivenWires.{may_be_driven}
use Rattle.mp_netlist.proofs.wire_knowledge.note_outputs.Given as goal

-- what isn't marked was not marked before, and is not among those so far
abbrev pub invariant-loop-p : goal.invariant-loop-p
invariant-loop-p l = record {
  kept : (w : ℕ) → may_be_driven l.driven.items w ≡ false → may_be_driven l.fn.driven.items w ≡ false;
  noted : (w : ℕ) → may_be_driven l.driven.items w ≡ false → port_from l.p (drop l.p l.outputs) w ≡ port_from 0 l.outputs w;
}
