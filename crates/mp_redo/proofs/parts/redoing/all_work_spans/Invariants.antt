use Rattle.mp_redo.specs.apart.PartWorkSpans.{AreWorkSpansBelow}
use Rattle.mp_redo.specs.parts.Changes.{homes_in}
use Rattle.mp_redo.proofs.parts.redoing.all_work_spans.Given as goal

-- those so far
abbrev pub invariant-loop-k : goal.invariant-loop-k
invariant-loop-k l = AreWorkSpansBelow l.change.old.now l.change.new.now (homes_in l.change) l.k l.all.items
