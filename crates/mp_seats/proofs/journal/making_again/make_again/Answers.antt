use Rattle.std.proofs.Common.{◌≡◌, ◌<◌, [], ℕ, List, Some, length, map, refl, ap, subst, ◌∙◌, rules}
use Rattle.std.proofs.lemmas.List.{append-nil}
use Rattle.mp_text.specs.lexing.Lines.{lines_of}
use Rattle.mp_text.specs.ScriptLines.{line_at}
use Rattle.mp_meeting.proofs.SittingLemmas.{lines_of-none}
use Rattle.mp_seats.specs.journal.Scripts.{IsMadeLine}
use Rattle.mp_seats.proofs.lemmas.journal.MakingLemmas.{SoFar, one_line}
use Rattle.mp_seats.proofs.journal.making_again.make_again.Goals as goal

pub loop-rest-preserved : goal.loop-rest-preserved
loop-rest-preserved g c =
    let start = g.S.EditSession.story c.args.session.now in
    let all = map line_at (lines_of c.args.text.now) in
    let old = g.S.EditSession.story c.loop-rest.session in
    let new = g.S.EditSession.story c.make_line.new.session in
    let line = c.first_line.result.0.now in
    let some : 0 < length c.loop-rest.rest.now = search rules in
    let here = subst (λ (lines : List (List ℕ)). SoFar start all (map line_at lines) old) (c.first_line.ensures.lines some) c.loop-rest.invariant in
    let made : IsMadeLine old new (line_at line) = search rules in
    one_line start all (line_at line) (map line_at (lines_of c.first_line.result.1.now)) old new here made

pub returns : goal.returns
returns g c =
    let start = g.S.EditSession.story c.args.session.now in
    let all = map line_at (lines_of c.args.text.now) in
    let now = g.S.EditSession.story c.loop-rest.session in
    let none : length c.loop-rest.rest.now ≡ 0 = search rules in
    let here = subst (λ (lines : List (List ℕ)). SoFar start all (map line_at lines) now) (lines_of-none c.loop-rest.rest.now none) c.loop-rest.invariant in
    (here.edits, here.others [] refl ∙ ap (λ l. Some l) (append-nil here.edits), here.is)
