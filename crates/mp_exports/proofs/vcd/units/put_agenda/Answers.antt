use Rattle.mp_exports.proofs.lemmas.vcd.Names.{ap, rules, flat_map, writes_failed, unit_text, left_as, left_failed}
use Rattle.mp_exports.proofs.lemmas.vcd.StandingLemmas.{times_step}
use Rattle.mp_exports.proofs.vcd.units.put_agenda.Goals as goal

pub returns-in_err-put_unit : goal.returns-in_err-put_unit
returns-in_err-put_unit g c =
    let is = c.from_residual.ensures.0 in
    left_failed _ (left_as (ap (flat_map (unit_text c.args.of.netlist.now)) (times_step c.loop-time.time c.args.to (search rules))) c.loop-time.invariant) _ is (writes_failed _ is c.in_err-put_unit.ensures)
