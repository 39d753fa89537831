use Rattle.mp_exports.proofs.lemmas.vcd.Names.{rules, writes_failed, part_line, left_as, left_failed}
use Rattle.mp_exports.proofs.lemmas.vcd.StandingLemmas.{lines_step}
use Rattle.mp_exports.proofs.vcd.preamble.WireLinesText.put_to.Goals as goal

pub returns-in_err-put_part : goal.returns-in_err-put_part
returns-in_err-put_part g c =
    let n = c.args.self.now.netlist.now in
    let is = c.from_residual.ensures.0 in
    left_failed _ (left_as (lines_step (part_line n c.args.self.now.part) n.wires c.loop-number.number (search rules)) c.loop-number.invariant) _ is (writes_failed _ is c.in_err-put_part.ensures)
