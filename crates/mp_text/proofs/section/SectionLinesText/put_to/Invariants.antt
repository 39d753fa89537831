use Rattle.mp_text.proofs.Names.{section_text, Left}
use Rattle.mp_text.proofs.WriteLemmas.{lines_from}
use Rattle.mp_text.proofs.section.SectionLinesText.put_to.Given as goal

-- the lines of the slots from the number on are left
abbrev pub invariant-loop-number : goal.invariant-loop-number
invariant-loop-number g l = Left (section_text l.self.netlist.now l.self.section) l.fn.out l.out (lines_from l.self.netlist.now l.self.section l.number)
