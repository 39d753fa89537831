use Rattle.std.proofs.Common.{ℕ, List, subst}
use Rattle.mp_kernel.specs.declared.events.output_port.OutputPort.{OutputPort}
use Rattle.mp_simulation.specs.run.Numbering.{AreCopiesOf, is_bit}
use Rattle.mp_simulation.proofs.run.layout.first_copies.Goals as goal

pub returns : goal.returns
returns c =
    let n = c.args.netlist.now in
    let wiring = c.args.wiring.now in
    record {
      next = subst (λ (ws : List ℕ). AreCopiesOf (is_bit n) ws wiring.next.items c.in_ok-next.next.items) c.as_slice-wires.ensures.value
          (subst (λ (xs : List OutputPort). AreCopiesOf (is_bit n) c.as_slice-wires.result.now xs c.in_ok-next.next.items) c.as_slice.ensures.value c.in_ok-next.ensures);
      units = c.in_ok-wheel.ensures.places;
      empty = c.in_ok-wheel.ensures.empty;
    }
