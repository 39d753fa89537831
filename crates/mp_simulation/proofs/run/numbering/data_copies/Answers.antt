use Rattle.std.proofs.Common.{◌<◌, cond, length, ap, ◌∙◌, arith}
use Rattle.std.proofs.lemmas.List.{get_or_default}
use Rattle.mp_kernel.specs.declared.events.output_port.OutputPort.{OutputPort}
use Rattle.mp_kernel.specs.events.Firing.{no_port, copy_at}
use Rattle.mp_simulation.specs.units.DataLevels.{is_data}
use Rattle.mp_simulation.proofs.lemmas.run.NumberingLemmas.{copies_more, all_copies}
use Rattle.mp_simulation.proofs.run.numbering.data_copies.Goals as goal

pub loop-x-preserved : goal.loop-x-preserved
loop-x-preserved c =
    let n = c.args.netlist.now in
    let next = c.args.next.now in
    let within : c.loop-x.x < length c.args.next.now = omega arith in
    copies_more (is_data n) c.args.wires.now next c.loop-x.x c.loop-x.copies.items c.push.new.self.items c.kept_if.result
    (c.kept_if.ensures
    ∙ ap (λ (p : OutputPort). cond c.has_data-is_data.result p no_port) (get_or_default next c.loop-x.x _ no_port within)
    ∙ ap (λ b. cond b (copy_at next c.loop-x.x) no_port) c.has_data-is_data.ensures)
    c.loop-x.invariant c.in_ok-push.ensures.items

pub returns : goal.returns
returns c = all_copies (is_data c.args.netlist.now) c.args.wires.now c.args.next.now c.loop-x.x c.loop-x.copies.items (omega arith) c.loop-x.invariant
