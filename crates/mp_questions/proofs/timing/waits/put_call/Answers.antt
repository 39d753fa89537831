use Rattle.std.proofs.Common.{subst, ⊎_elim}
use Rattle.mp_streams.specs.Outgoing.{Writes}
use Rattle.mp_questions.proofs.lemmas.timing.WaitLemmas.{call_first, call_second}
use Rattle.mp_questions.proofs.timing.waits.put_call.Goals as goal

pub returns-in-First : goal.returns-in-First
returns-in-First g c =
    let at = c.args.at.now in
    let n = at.netlist.now in
    let r = c.args.found.now in
    let w = c.follow-watch.result in
    ⊎_elim
    (λ served. subst (Writes c.put_input.result c.args.out.now c.put_input.new.out) (call_first n c.args.id.0 r at.time w c.follow-watch.ensures served) c.put_input.ensures)
    (λ served. subst (Writes c.put_input.result c.args.out.now c.put_input.new.out) (call_second n c.args.id.0 r at.time w c.follow-watch.ensures served) c.put_input.ensures)
    c.in-First.is
