use Rattle.mp_text.proofs.lemmas.lexing.Names.{◌≡◌, ◌++◌, length, lines_of, parts_of, lines_of_each}
use Rattle.mp_text.proofs.lexing.division.parts.Given as goal

-- the parts so far, and those of the rest
abbrev pub invariant-loop-parts : goal.invariant-loop-parts
invariant-loop-parts l = parts_of (lines_of l.input) ≡ lines_of_each l.parts.items ++ parts_of (lines_of l.rest)

abbrev pub decreases-loop-parts : goal.decreases-loop-parts
decreases-loop-parts l = length l.rest
