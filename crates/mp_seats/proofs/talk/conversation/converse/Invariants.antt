use Rattle.std.proofs.Common.{◌≡◌, []}
use Rattle.mp_seats.proofs.lemmas.talk.TalkLemmas.{IsTalking}
use Rattle.mp_seats.proofs.talk.conversation.converse.Given as goal

-- the lines so far were answered
abbrev pub invariant-loop : goal.invariant-loop
invariant-loop g l =
    (goal.iterator-loop g).can_next l.iterator' × (goal.iterator-loop g).is_finite l.iterator'
    × IsTalking g.A.Answerer.Answers l.fn.lines l.lines l.fn.who l.who l.fn.out l.out × (l.out.held ≡ []) × (l.lines.faults ≡ l.fn.lines.faults)
