use Rattle.std.proofs.Common.{◌≡◌, ℕ, List, slice_index_or, ap, sym, subst, ◌∙◌}
use Rattle.mp_netlist.specs.Slots.{slot_at}
use Rattle.mp_depend.specs.recording.Endings.{HasCheckpoints}
use Rattle.mp_partition.specs.regions.Regions.{partition_of}
use Rattle.mp_redo.specs.parts.Changes.{homes_in}
use Rattle.mp_redo.proofs.lemmas.parts.OkLemmas.{on_ok}
use Rattle.mp_redo.proofs.lemmas.parts.WholeLemmas.{states_there, states_absent}
use Rattle.mp_redo.proofs.parts.whole_run.whole_checkpoint.Goals as goal

pub returns-in-Some : goal.returns-in-Some
returns-in-Some c =
    let change = c.args.change.now in
    let n = change.new.now in
    let m = c.args.id.0 in
    let found = c.index-parts-part.result in
    let home : c.partition_of-part.result ≡ partition_of (homes_in change) m = c.partition_of-part.ensures ∙ ap (λ (xs : List ℕ). partition_of xs m) c.as_slice.ensures.value in
    on_ok c.shared_checkpoints.result _ _ (λ kept is. subst (HasCheckpoints n m) (sym (is ∙ ap (λ k. slot_at (slice_index_or c.args.parts.now k found).run.kept m) home))
    (states_there change c.requires.change c.args.parts.now c.requires.parts found m c.in-Some.field-0.now (sym c.in-Some.ensures.value))) c.shared_checkpoints.ensures

pub returns-in-None : goal.returns-in-None
returns-in-None c = states_absent c.args.change.now c.requires.change c.args.id.0 (sym c.in-None.ensures.value)
