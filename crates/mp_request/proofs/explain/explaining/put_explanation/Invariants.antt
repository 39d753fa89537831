use Rattle.std.proofs.Common.{◌≡◌, Ok, take}
use Rattle.mp_streams.specs.Outgoing.{Writes}
use Rattle.mp_request.specs.explain.Explanations.{explanation, is_known}
use Rattle.mp_request.proofs.explain.explaining.put_explanation.Given as goal

-- what is told of the entries so far is written
abbrev pub invariant-loop-entry : goal.invariant-loop-entry
invariant-loop-entry g l =
    Writes {T = Unit {0}} (Ok tt) l.fn.out l.out (explanation l.word (take l.entry-index l.guide)) × (l.is_known ≡ is_known l.word (take l.entry-index l.guide))
