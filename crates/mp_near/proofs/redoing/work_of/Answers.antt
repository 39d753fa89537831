use Rattle.std.proofs.Common.{◌≡◌, ℕ, ◌<◌, List, length, map, sym, subst}
use Rattle.mp_depend.specs.work.WorkSpans.{work_span_at}
use Rattle.mp_near.specs.region.Regions.{with_number}
use Rattle.mp_near.proofs.lemmas.runs.WorkLemmas.{span_there, spans_up}
use Rattle.mp_near.proofs.redoing.work_of.Goals as goal

pub all_work_spans-requires : goal.all_work_spans-requires
all_work_spans-requires c =
    subst (λ (xs : List ℕ). (j : ℕ) → j < length c.args.work_spans.now → (work_span_at c.args.work_spans.now j).«module».0 < length xs) (sym c.as_slice-modules.ensures.value)
    (span_there c.args.change.now c.requires.change c.args.region.now c.requires.region c.args.work_spans.now c.requires.work_spans)

pub of_change-requires : goal.of_change-requires
of_change-requires c =
    let far = length c.args.change.now.new.now.modules in
    let spans = c.args.work_spans.now in
    spans_up c.args.change.now c.requires.change c.args.region.now c.requires.region c.requires.least spans c.in_ok-all.all.items c.requires.work_spans
    (subst (λ (xs : List ℕ). c.in_ok-all.all.items ≡ map (with_number far xs) spans) c.as_slice-modules.ensures.value (c.in_ok-all.ensures far))
