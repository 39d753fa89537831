use Rattle.std.proofs.Common.{◌≡◌, ◌++◌, map, take}
use Rattle.mp_questions.specs.causes.Links.{link_to}
use Rattle.mp_questions.proofs.causes.cause_link.push_events.Given as goal

-- the links so far stand behind the others
abbrev pub invariant-loop-event : goal.invariant-loop-event
invariant-loop-event l = l.links.items ≡ l.fn.links.items ++ map (link_to l.effect) (take l.event-index l.events)
