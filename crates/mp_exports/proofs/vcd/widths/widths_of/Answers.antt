use Rattle.mp_exports.proofs.lemmas.vcd.Names.{◌≡◌, map, ap, ◌∙◌, arith, width_of, take_all}
use Rattle.mp_exports.proofs.lemmas.vcd.AgendaLemmas.{width_is}
use Rattle.mp_exports.proofs.lemmas.vcd.StandingLemmas.{narrow}
use Rattle.mp_exports.proofs.vcd.widths.widths_of.Goals as goal

pub returns-clause-narrow : goal.returns-clause-narrow
returns-clause-narrow c = λ w.
    let n = c.args.netlist.now in
    let are : c.loop-number.widths.items ≡ map width_of n.wires = c.loop-number.invariant ∙ ap (map width_of) (take_all c.loop-number.number n.wires (omega (arith, c.loop-number-test.false, c.wire_slots-number-end.ensures.value))) in
    omega (arith, width_is n c.loop-number.widths.items w are, narrow n c.horizon-horizon.ensures.form w)
