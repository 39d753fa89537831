use Rattle.std.proofs.Common.{Ok, ap, subst}
use Rattle.mp_streams.specs.Outgoing.{Writes}
use Rattle.mp_streams.proofs.OutLemmas.{puts_none}
use Rattle.mp_questions.specs.timing.Waits.{heard, missing_line}
use Rattle.mp_questions.proofs.lemmas.timing.WaitLemmas.{first_line, second_line}
use Rattle.mp_questions.proofs.timing.waits.put_rendezvous.Goals as goal

pub returns-in_default : goal.returns-in_default
returns-in_default g c m stands =
    let at = c.args.at.now in
    subst (Writes {T = Unit {0}} (Ok tt) c.args.out.now c.args.out.now) (ap (missing_line at.netlist.now c.args.found.now at.time) (c.in_default.ensures.value m stands)) (puts_none c.args.out.now)

pub returns-then-port-eq0 : goal.returns-then-port-eq0
returns-then-port-eq0 g c m stands =
    let at = c.args.at.now in
    let n = at.netlist.now in
    let r = c.args.found.now in
    subst (Writes c.put_input.result c.args.out.now c.put_input.new.out)
    (first_line n m r at.time c.in-Some.port c.since.result (c.in-Some.ensures.value m stands) c.if-port-eq0.true (c.since.ensures.value (heard n r 1) n.horizon c.of-ears.ensures.second at.within))
    c.put_input.ensures

pub returns : goal.returns
returns g c m stands =
    let at = c.args.at.now in
    let n = at.netlist.now in
    let r = c.args.found.now in
    subst (Writes c.put_input-2.result c.args.out.now c.put_input-2.new.out)
    (second_line n m r at.time c.in-Some.port c.since-2.result (c.in-Some.ensures.value m stands) c.if-port-eq0.false c.in-Some.ensures.within (c.since-2.ensures.value (heard n r 0) n.horizon c.of-ears.ensures.first at.within))
    c.put_input-2.ensures
