use Rattle.std.proofs.Common.{subst}
use Rattle.mp_streams.specs.Outgoing.{Writes}
use Rattle.mp_streams.proofs.OutLemmas.{puts_sooner, puts_then, writes_failed}
use Rattle.mp_questions.proofs.lemmas.timing.WaitLemmas.{first_kept, second_kept, owner_first, owner_second}
use Rattle.mp_questions.proofs.timing.waits.put_arbiter.Goals as goal

pub returns-in_err-put_input-in-First : goal.returns-in_err-put_input-in-First
returns-in_err-put_input-in-First g c =
    let at = c.args.at.now in
    let n = at.netlist.now in
    let m = c.args.id.0 in
    let r = c.args.found.now in
    let w = c.follow-watch.result in
    let is = c.follow-watch.ensures in
    subst (Writes c.from_residual.result c.args.out.now c.put_input.new.out) (owner_first n m r at.time w is c.in-First.is)
    (writes_failed _ c.from_residual.ensures.0 (puts_sooner (second_kept n m r at.time w is) c.in_err-put_input-in-First.ensures))

pub returns-in_err-put_input-in-Second : goal.returns-in_err-put_input-in-Second
returns-in_err-put_input-in-Second g c =
    let at = c.args.at.now in
    let n = at.netlist.now in
    let m = c.args.id.0 in
    let r = c.args.found.now in
    let w = c.follow-watch.result in
    let is = c.follow-watch.ensures in
    subst (Writes c.from_residual-in_err-put_input-in-Second.result c.args.out.now c.put_input-in-Second.new.out) (owner_second n m r at.time w is c.in-Second.is)
    (writes_failed _ c.from_residual-in_err-put_input-in-Second.ensures.0 (puts_sooner (first_kept n m r at.time w is) c.in_err-put_input-in-Second.ensures))

pub returns-in_ok-put_input-in-First : goal.returns-in_ok-put_input-in-First
returns-in_ok-put_input-in-First g c =
    let at = c.args.at.now in
    subst (Writes c.put_second_kept.result c.args.out.now c.put_second_kept.new.out) (owner_first at.netlist.now c.args.id.0 c.args.found.now at.time c.follow-watch.result c.follow-watch.ensures c.in-First.is)
    (puts_then c.in_ok-put_input-in-First.ensures c.put_second_kept.ensures)

pub returns-in_ok-put_input-in-Second : goal.returns-in_ok-put_input-in-Second
returns-in_ok-put_input-in-Second g c =
    let at = c.args.at.now in
    subst (Writes c.put_first_kept.result c.args.out.now c.put_first_kept.new.out) (owner_second at.netlist.now c.args.id.0 c.args.found.now at.time c.follow-watch.result c.follow-watch.ensures c.in-Second.is)
    (puts_then c.in_ok-put_input-in-Second.ensures c.put_first_kept.ensures)
