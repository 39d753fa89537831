use Rattle.std.proofs.Common.{◌≡◌, length, take, drop}
use Rattle.mp_kernel.specs.events.Adding.{IsAdding, AreAdded}
use Rattle.mp_kernel.proofs.events.adding.add_events.Given as goal

abbrev pub invariant-loop-entry : goal.invariant-loop-entry
invariant-loop-entry l =
    IsAdding l.states.items l.due.items (drop l.entry-index l.entries) ×
    AreAdded l.initial.states.items l.states.items (take l.entry-index l.entries) ×
    (length l.states.items ≡ length l.initial.states.items)
