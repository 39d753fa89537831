use Rattle.std.proofs.Common.{◌≡◌, ℕ, List, ap, sym, subst, ◌∙◌, arith}
use Rattle.mp_depend.specs.recording.Endings.{HasCheckpoints}
use Rattle.mp_partition.specs.regions.Regions.{partition_of}
use Rattle.mp_redo.specs.parts.Changes.{homes_in, old_part}
use Rattle.mp_redo.proofs.lemmas.parts.OkLemmas.{on_ok}
use Rattle.mp_redo.proofs.lemmas.parts.OldPartLemmas.{states_within, states_nowhere, none_elsewhere, none_within}
use Rattle.mp_redo.proofs.parts.part_run.part_checkpoint.Goals as goal

pub returns-then-partition_of-part : goal.returns-then-partition_of-part
returns-then-partition_of-part c =
    let change = c.args.change.now in
    let m = c.args.id.0 in
    let at : c.partition_of.result ≡ partition_of (homes_in change) m = c.partition_of.ensures ∙ ap (λ (xs : List ℕ). partition_of xs m) c.as_slice.ensures.value in
    let differ = c.if-partition_of-part.true in
    states_nowhere change c.requires c.args.part m (none_elsewhere change c.requires c.args.part m (λ same. let no : ⊥ = omega (arith, differ, at, same) in no))

pub returns-in-Some : goal.returns-in-Some
returns-in-Some c =
    let change = c.args.change.now in
    let m = c.args.id.0 in
    let k = c.args.part in
    let at : c.partition_of.result ≡ partition_of (homes_in change) m = c.partition_of.ensures ∙ ap (λ (xs : List ℕ). partition_of xs m) c.as_slice.ensures.value in
    let same = c.if-partition_of-part.false in
    on_ok c.shared_checkpoints.result _ _ (λ kept is. subst (HasCheckpoints (old_part change k) m) (sym is) (states_within change c.requires k m c.in-Some.field-0.now (omega (arith, same, at)) (sym c.in-Some.ensures.value))) c.shared_checkpoints.ensures

pub returns-in-None : goal.returns-in-None
returns-in-None c =
    let change = c.args.change.now in
    let m = c.args.id.0 in
    let k = c.args.part in
    let at : c.partition_of.result ≡ partition_of (homes_in change) m = c.partition_of.ensures ∙ ap (λ (xs : List ℕ). partition_of xs m) c.as_slice.ensures.value in
    let same = c.if-partition_of-part.false in
    states_nowhere change c.requires k m (none_within change c.requires k m (omega (arith, same, at)) (sym c.in-None.ensures.value))
