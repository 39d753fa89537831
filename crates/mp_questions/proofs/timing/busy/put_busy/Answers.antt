use Rattle.std.proofs.Common.{ℕ, List, codes, Ok, ap, subst, ◌∙◌}
use Rattle.mp_streams.specs.Outgoing.{Writes}
use Rattle.mp_streams.proofs.OutLemmas.{puts_none}
use Rattle.mp_model.specs.Waves.{level}
use Rattle.mp_questions.specs.timing.Waits.{since_line}
use Rattle.mp_questions.proofs.lemmas.timing.WaitLemmas.{idle, busy}
use Rattle.mp_questions.proofs.timing.busy.put_busy.Goals as goal

pub returns-then-level_at : goal.returns-then-level_at
returns-then-level_at g c =
    let at = c.args.at.now in
    let n = at.netlist.now in
    let b = c.args.bundle.now in
    let is =
    idle n b at.time c.level_at.result c.level_at-2.result (c.level_at.ensures (level n b.request.0) n.horizon c.prompt-request.ensures at.within)
    (c.level_at-2.ensures (level n b.acknowledge.0) n.horizon c.prompt-acknowledge.ensures at.within) c.if-level_at.true in
    subst (Writes {T = Unit {0}} (Ok tt) c.args.out.now c.args.out.now) is (puts_none c.args.out.now)

pub returns : goal.returns
returns g c =
    let at = c.args.at.now in
    let n = at.netlist.now in
    let b = c.args.bundle.now in
    let is =
    busy n b at.time c.level_at.result c.level_at-2.result (c.level_at.ensures (level n b.request.0) n.horizon c.prompt-request.ensures at.within)
    (c.level_at-2.ensures (level n b.acknowledge.0) n.horizon c.prompt-acknowledge.ensures at.within) c.wire_name-what.result.now c.since.result c.if-level_at.false c.wire_name-what.ensures
    (c.since.ensures.value (level n b.request.0) n.horizon c.prompt-request.ensures at.within) in
    let named = ap (λ (l : List ℕ). since_line l (codes " bundle waits for ") c.wire_name-what.result.now c.since.result) c.as_str-name.ensures in
    subst (Writes c.put_since.result c.args.out.now c.put_since.new.out) (named ∙ is) c.put_since.ensures
