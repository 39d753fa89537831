use Rattle.std.proofs.Common.{arith}
use Rattle.mp_redo.proofs.lemmas.apart.PartLemmas.{parts_are_by_slots}
use Rattle.mp_redo.proofs.lemmas.parts.RemovalLemmas.{all_removed}
use Rattle.mp_redo.proofs.parts.part_netlist.part_netlist.Goals as goal

pub returns : goal.returns
returns c =
    let n = c.args.netlist.now in
    let end = c.module_slots-m-end.ensures.value in
    parts_are_by_slots n c.args.homes.now c.args.part c.loop-m.found (all_removed n c.args.homes.now c.args.part c.loop-m.m c.loop-m.found (omega (arith, end)) c.loop-m.invariant)
