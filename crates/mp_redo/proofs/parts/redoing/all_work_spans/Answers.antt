use Rattle.std.proofs.Common.{List, ◌++◌, ap, ◌∙◌, arith}
use Rattle.mp_depend.specs.declared.work.work_span.WorkSpan.{WorkSpan}
use Rattle.mp_redo.proofs.lemmas.parts.WholeLemmas.{none_below, one_below, all_below}
use Rattle.mp_redo.proofs.parts.redoing.all_work_spans.Goals as goal

pub loop-k-init : goal.loop-k-init
loop-k-init c = none_below c.args.change.now c.requires.change c.new-all.result.items c.new-all.ensures.items

pub loop-k-preserved : goal.loop-k-preserved
loop-k-preserved c =
    one_below c.args.change.now c.requires.change c.args.parts.now c.requires.parts c.index-parts-k.result c.loop-k.k c.loop-k.all.items c.extend_from_slice.new.self.items c.loop-k-test.true
    (c.in_ok-extend_from_slice.ensures.items ∙ ap (λ (xs : List WorkSpan). c.loop-k.all.items ++ xs) c.as_slice.ensures.value) c.loop-k.invariant

pub returns : goal.returns
returns c = all_below c.args.change.now c.requires.change c.loop-k.k c.loop-k.all.items (omega arith) c.loop-k.invariant
