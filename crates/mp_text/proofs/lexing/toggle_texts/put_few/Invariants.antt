use Rattle.mp_text.proofs.lemmas.lexing.Names.{drop, toggle_changes, changes_text, Left}
use Rattle.mp_text.proofs.lexing.toggle_texts.put_few.Given as goal

-- what is left to write are the changes at the times that are left
abbrev pub invariant-loop-time : goal.invariant-loop-time
invariant-loop-time g l = Left (changes_text (toggle_changes l.fn.level l.times)) l.fn.out l.out (changes_text (toggle_changes l.level (drop l.time-index l.times)))
