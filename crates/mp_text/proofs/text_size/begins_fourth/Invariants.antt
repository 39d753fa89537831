use Rattle.mp_text.proofs.Names.{◌≡◌, length, lines_of, first_words}
use Rattle.mp_text.proofs.text_size.begins_fourth.Given as goal

-- the lines that are left have the same first words
abbrev pub invariant-loop-rest : goal.invariant-loop-rest
invariant-loop-rest l = first_words (lines_of l.rest) ≡ first_words (lines_of l.text)

abbrev pub decreases-loop-rest : goal.decreases-loop-rest
decreases-loop-rest l = length l.rest
