use Rattle.mp_exports.proofs.lemmas.vcd.Names.{◌≤◌, [], refl, rules, arith, puts_as, WriteFailed, unit_text, left_as, left_then, left_failed}
use Rattle.mp_exports.proofs.lemmas.vcd.StandingLemmas.{times_divide, unmade}
use Rattle.mp_exports.proofs.vcd.time_chunk.TimeChunk.put.Goals as goal

pub returns-in_err-agenda : goal.returns-in_err-agenda
returns-in_err-agenda g c = left_failed {xs = []} _ c.loop-from.invariant.left _ c.from_residual-in_err-agenda.ensures.0 (unmade _ [] c.from_residual-in_err-agenda.ensures.1)

pub returns-in_err-put_agenda : goal.returns-in_err-put_agenda
returns-in_err-put_agenda g c =
    let p = c.args.self.now in
    let piece = rw c.in_ok-agenda.ensures.from at c.in_err-put_agenda.ensures in
    let r = c.from_residual-in_err-put_agenda.result in
    left_failed _ (left_as (times_divide (unit_text p.of.netlist.now) c.loop-from.from c.min-to.result p.to (search rules) (search rules)) c.loop-from.invariant.left) r c.from_residual-in_err-put_agenda.ensures.0
    (puts_as r WriteFailed c.from_residual-in_err-put_agenda.ensures.1 refl piece)

pub loop-from-preserved : goal.loop-from-preserved
loop-from-preserved g c =
    let p = c.args.self.now in
    let order : c.loop-from.from ≤ c.min-to.result = search rules in
    let piece = rw c.in_ok-agenda.ensures.from at c.in_ok-put_agenda.ensures in
    record {
      some = omega (arith, order, c.loop-from.invariant.some);
      within = search rules;
      left = left_then (left_as (times_divide (unit_text p.of.netlist.now) c.loop-from.from c.min-to.result p.to order (search rules)) c.loop-from.invariant.left) piece;
    }
