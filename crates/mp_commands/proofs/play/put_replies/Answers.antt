use Rattle.std.specs.Prelude.{◌≡◌, ◌<◌}
use Rattle.mp_meeting.proofs.SittingLemmas.{lines_of-none}
use Rattle.mp_commands.proofs.Names.{[], length, subst, rules, err_from_is_err_and, puts_none, lines_of}
use Rattle.mp_commands.proofs.PlayLemmas.{ArePlayed, one_more, replies_all, replies_part}
use Rattle.mp_commands.proofs.play.put_replies.Goals as goal

pub loop-rest-init : goal.loop-rest-init
loop-rest-init g c = record { done = []; put = puts_none c.args.out.now; goes_on = λ later are. are }

pub returns-in_err-put_reply : goal.returns-in_err-put_reply
returns-in_err-put_reply g c =
    let first = c.args.session.now in
    let lines = lines_of c.args.script.now in
    let some : 0 < length c.loop-rest.rest.now = search rules in
    let here = subst (λ l. ArePlayed first c.loop-rest.session lines l c.args.out.now c.loop-rest.out) (c.first_line.ensures.lines some) c.loop-rest.invariant in
    let replied = c.in_err-put_reply.ensures in
    let p = err_from_is_err_and c.from_residual.result c.from_residual.ensures.1 in
    rw (p.1, p.2) (replies_part c.in_err-put_reply.field-0.0 first _ c.put_reply.new.session lines (lines_of c.first_line.result.1.now) _ _ _ c.put_reply.new.out replied.0 here replied.1 replied.2)

pub loop-rest-preserved : goal.loop-rest-preserved
loop-rest-preserved g c =
    let first = c.args.session.now in
    let lines = lines_of c.args.script.now in
    let some : 0 < length c.loop-rest.rest.now = search rules in
    let here = subst (λ l. ArePlayed first c.loop-rest.session lines l c.args.out.now c.loop-rest.out) (c.first_line.ensures.lines some) c.loop-rest.invariant in
    let replied = c.in_ok-put_reply.ensures in
    one_more first _ c.put_reply.new.session lines (lines_of c.first_line.result.1.now) _ _ _ c.put_reply.new.out replied.0 here replied.1 replied.2

pub returns : goal.returns
returns g c =
    let first = c.args.session.now in
    let lines = lines_of c.args.script.now in
    let none : length c.loop-rest.rest.now ≡ 0 = search rules in
    let all = subst (λ l. ArePlayed first c.loop-rest.session lines l c.args.out.now c.loop-rest.out) (lines_of-none c.loop-rest.rest.now none) c.loop-rest.invariant in
    replies_all first c.loop-rest.session lines _ _ all
