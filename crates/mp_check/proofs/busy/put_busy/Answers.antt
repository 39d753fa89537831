use Rattle.std.proofs.Common.{◌≡◌, Bool, [], Ok, cond, ap, sym, subst, ◌∙◌}
use Rattle.mp_streams.specs.Outgoing.{Writes}
use Rattle.mp_streams.proofs.OutLemmas.{puts_none}
use Rattle.mp_model.specs.Waves.{level}
use Rattle.mp_questions.specs.timing.Events.{since}
use Rattle.mp_check.specs.Dead.{last_unit}
use Rattle.mp_check.specs.Over.{busy_line}
use Rattle.mp_check.proofs.OverLemmas.{idle, busy, busy_since}
use Rattle.mp_check.proofs.busy.put_busy.Goals as goal

pub returns-then-level_at : goal.returns-then-level_at
returns-then-level_at g c =
    let end = c.args.end.now in
    let n = end.at.netlist.now in
    let b = c.args.bundle.now in
    let last : end.at.time ≡ last_unit n = end.last in
    let is =
    idle n b (last_unit n) c.level_at.result c.level_at-2.result
    (c.level_at.ensures (level n b.request.0) n.horizon c.prompt-request.ensures end.at.within ∙ ap (level n b.request.0) last)
    (c.level_at-2.ensures (level n b.acknowledge.0) n.horizon c.prompt.ensures end.at.within ∙ ap (level n b.acknowledge.0) last) c.if-level_at.true in
    subst (λ (so : Bool). Writes {T = Unit {0}} (Ok tt) c.args.out.now c.args.out.now (cond so (busy_line n b) [])) (sym is) (puts_none c.args.out.now)

pub returns : goal.returns
returns g c =
    let end = c.args.end.now in
    let n = end.at.netlist.now in
    let b = c.args.bundle.now in
    let last : end.at.time ≡ last_unit n = end.last in
    let is =
    busy n b (last_unit n) c.level_at.result c.level_at-2.result
    (c.level_at.ensures (level n b.request.0) n.horizon c.prompt-request.ensures end.at.within ∙ ap (level n b.request.0) last)
    (c.level_at-2.ensures (level n b.acknowledge.0) n.horizon c.prompt.ensures end.at.within ∙ ap (level n b.acknowledge.0) last) c.if-level_at.false in
    let time : c.since.result ≡ since (level n b.request.0) (last_unit n) =
    c.since.ensures.value (level n b.request.0) n.horizon c.prompt-request.ensures end.at.within ∙ ap (since (level n b.request.0)) last in
    subst (λ (so : Bool). Writes c.put_to.result c.args.out.now c.put_to.new.out (cond so (busy_line n b) [])) (sym is)
    (subst (Writes c.put_to.result c.args.out.now c.put_to.new.out) (busy_since n b c.as_str.result.now c.since.result c.as_str.ensures time) c.put_to.ensures)
