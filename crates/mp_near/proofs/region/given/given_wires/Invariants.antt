use Rattle.mp_near.proofs.lemmas.region.GivenLemmas.{AreNoted}
use Rattle.mp_near.proofs.region.given.given_wires.Given as goal

-- those so far
abbrev pub invariant-loop-wire : goal.invariant-loop-wire
invariant-loop-wire l = AreNoted l.new l.modules l.wires l.wire-index l.given.items
