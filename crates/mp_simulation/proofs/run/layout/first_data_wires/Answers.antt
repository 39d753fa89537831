use Rattle.std.proofs.Common.{ℕ, List, map, subst, ap, ◌∙◌}
use Rattle.mp_kernel.specs.declared.events.output_port.OutputPort.{OutputPort}
use Rattle.mp_simulation.specs.units.DataLevels.{is_data}
use Rattle.mp_simulation.specs.run.Numbering.{AreCopiesOf, level_of_wire}
use Rattle.mp_simulation.proofs.run.layout.first_data_wires.Goals as goal

pub returns : goal.returns
returns c = record {
  levels = c.in_ok-levels_of.ensures ∙ ap (map (level_of_wire c.args.netlist.now)) c.as_slice-numbers.ensures.value;
  next = subst (λ (ws : List ℕ). AreCopiesOf (is_data c.args.netlist.now) ws c.args.wiring.now.next.items c.in_ok-data_copies.field-0.items) c.as_slice-numbers.ensures.value
      (subst (λ (xs : List OutputPort). AreCopiesOf (is_data c.args.netlist.now) c.as_slice-numbers.result.now xs c.in_ok-data_copies.field-0.items) c.as_slice.ensures.value c.in_ok-data_copies.ensures);
  waves = c.in_ok-first_buildings.ensures;
  wheel = c.wheel.view_is;
}
