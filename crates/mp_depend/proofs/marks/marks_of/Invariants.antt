use Rattle.std.proofs.Common.{take}
use Rattle.mp_depend.proofs.MarkLemmas.{AreMarked}
use Rattle.mp_depend.proofs.marks.marks_of.Given as goal

-- those of the modules so far
abbrev pub invariant-loop-id : goal.invariant-loop-id
invariant-loop-id l = AreMarked (take l.id-index l.ids) l.count l.marks.items
