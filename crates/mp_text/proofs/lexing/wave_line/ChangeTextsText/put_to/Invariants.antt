use Rattle.mp_text.proofs.lemmas.lexing.Names.{Ok, take, Writes, changes_text}
use Rattle.mp_text.proofs.lexing.wave_line.ChangeTextsText.put_to.Given as goal

-- the changes so far are written
abbrev pub invariant-loop-time : goal.invariant-loop-time
invariant-loop-time g l = Writes {T = Unit {0}} (Ok tt) l.fn.out l.out (changes_text (take l.time-index l.self.changes.now))
