use Rattle.mp_commands.proofs.lemmas.answers.Names.{Left, edits_from}
use Rattle.mp_commands.proofs.answers.edit_answers.put_edits.Given as goal

-- the lines of the edits from this place on are left to write
abbrev pub invariant-loop-place : goal.invariant-loop-place
invariant-loop-place g l = Left (edits_from l.edits l.first) l.fn.out l.out (edits_from l.edits l.place)
