use Rattle.mp_engine.specs.ActivityProbes.{IsLookedAt}
use Rattle.mp_engine.proofs.quiet.look_at.Given as goal

-- the units before the last look are over
abbrev pub invariant-loop-look : goal.invariant-loop-look
invariant-loop-look g l = IsLookedAt l.region l.looks.to l.run
