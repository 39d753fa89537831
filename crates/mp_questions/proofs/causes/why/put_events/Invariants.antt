use Rattle.std.proofs.Common.{Ok, take}
use Rattle.std.specs.List.{flat_map}
use Rattle.mp_streams.specs.Outgoing.{Writes}
use Rattle.mp_questions.specs.causes.Why.{event_text}
use Rattle.mp_questions.proofs.causes.why.put_events.Given as goal

-- the events so far are written
abbrev pub invariant-loop-event : goal.invariant-loop-event
invariant-loop-event g l = Writes {T = Unit {0}} (Ok tt) l.fn.out l.out (flat_map (event_text l.netlist) (take l.event-index l.events))
