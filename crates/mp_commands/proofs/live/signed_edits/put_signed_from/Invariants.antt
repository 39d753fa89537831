use Rattle.mp_streams.proofs.LeftLemmas.{Left}
use Rattle.mp_commands.specs.live.SignedEdits.{signed_from}
use Rattle.mp_commands.proofs.live.signed_edits.put_signed_from.Given as goal

-- the lines of the edits from this place on are left to write
abbrev pub invariant-loop-place : goal.invariant-loop-place
invariant-loop-place g l = Left (signed_from l.authors l.edits l.first) l.fn.out l.out (signed_from l.authors l.edits l.place)
