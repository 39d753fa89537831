use Rattle.std.proofs.Common.{length}
use Rattle.mp_near.specs.reach.Marks.{AreGrown}
use Rattle.mp_near.proofs.lemmas.reach.MarkLemmas.{AreRead}
use Rattle.mp_near.proofs.reach.ports.mark_read.Given as goal

-- the wires of the inputs so far are marked
abbrev pub invariant-loop-input : goal.invariant-loop-input
invariant-loop-input l = record {
  grown : AreGrown l.fn.marks.items l.marks.items;
  read : AreRead l.inputs l.input-index (length l.fn.marks.items) l.marks.items;
}
