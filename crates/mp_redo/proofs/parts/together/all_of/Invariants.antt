use Rattle.std.specs.Prelude.{◌≡◌, Ok}
use Rattle.mp_phase.specs.Phase.{AreDone}
use Rattle.mp_redo.proofs.parts.together.all_of.Given as goal

-- the parts so far are there
abbrev pub invariant-loop-one : goal.invariant-loop-one
invariant-loop-one l = AreDone (λ one part. one ≡ Ok part) l.yielded l.parts.items
