use Rattle.std.proofs.Common.{length}
use Rattle.mp_near.specs.reach.Marks.{AreGrown}
use Rattle.mp_near.proofs.lemmas.reach.MarkLemmas.{AreDriven, AreOnlyDriven}
use Rattle.mp_near.proofs.reach.ports.mark_driven.Given as goal

-- the wires of the outputs so far are marked
abbrev pub invariant-loop-output : goal.invariant-loop-output
invariant-loop-output l = record {
  grown : AreGrown l.fn.marks.items l.marks.items;
  driven : AreDriven l.outputs l.output-index (length l.fn.marks.items) l.marks.items;
  only : AreOnlyDriven l.outputs l.fn.marks.items l.marks.items;
}
