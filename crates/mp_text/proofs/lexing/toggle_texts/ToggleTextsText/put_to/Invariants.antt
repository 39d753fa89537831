use Rattle.mp_text.proofs.lemmas.lexing.Names.{◌-◌, ◌≤◌, drop, length, toggle_changes, changes_text, Left}
use Rattle.mp_text.proofs.lexing.toggle_texts.ToggleTextsText.put_to.Given as goal

-- what is left to write are the changes from a place on
abbrev pub invariant-loop-place : goal.invariant-loop-place
invariant-loop-place g l =
    (l.place ≤ length l.times) × Left (changes_text (toggle_changes l.self.level l.self.times.now)) l.fn.out l.out (changes_text (toggle_changes l.level (drop l.place l.times)))

abbrev pub decreases-loop-place : goal.decreases-loop-place
decreases-loop-place g l = length l.times - l.place
