use Rattle.std.proofs.Common.{◌∷◌, [], take, slice_index_or, ap, sym, subst, ◌∙◌}
use Rattle.std.proofs.lemmas.List.{take_more, map-append}
use Rattle.mp_partition.specs.runs.Marks.{AreAdded}
use Rattle.mp_partition.proofs.lemmas.runs.MarkLemmas.{added_more}
use Rattle.mp_engine.specs.region_runs.StateHistories.{id_of, ids_of}
use Rattle.mp_engine.proofs.region_runs.state_history.mark_numbers.Goals as goal

pub loop-number-preserved : goal.loop-number-preserved
loop-number-preserved c =
    let numbers = c.args.numbers.now in
    let i = c.loop-number.number-index in
    subst (λ xs. AreAdded xs c.args.marks.now.items c.mark.new.marks.items c.args.due.now.items c.mark.new.due.items)
    (sym (ap ids_of (take_more numbers i 0 c.loop-number-test.true) ∙ map-append id_of (take i numbers) (slice_index_or numbers i 0 ∷ [])))
    (added_more (ids_of (take i numbers)) (id_of (slice_index_or numbers i 0) ∷ []) _ _ _ _ _ _ c.loop-number.invariant c.in_ok-mark.ensures)
