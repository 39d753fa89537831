use Rattle.std.proofs.Common.{◌≡◌, ℕ, List, ap, sym, ◌∙◌, arith}
use Rattle.mp_partition.specs.regions.Regions.{partition_of}
use Rattle.mp_redo.specs.parts.Changes.{homes_in}
use Rattle.mp_redo.proofs.lemmas.parts.OldPartLemmas.{end_within, end_elsewhere}
use Rattle.mp_redo.proofs.parts.part_run.part_end.Goals as goal

pub returns-then-partition_of-part : goal.returns-then-partition_of-part
returns-then-partition_of-part c =
    let change = c.args.change.now in
    let m = c.args.id.0 in
    let at : c.partition_of.result ≡ partition_of (homes_in change) m = c.partition_of.ensures ∙ ap (λ (xs : List ℕ). partition_of xs m) c.as_slice.ensures.value in
    let differ = c.if-partition_of-part.true in
    sym (end_elsewhere change c.requires c.args.part m (λ same. let no : ⊥ = omega (arith, differ, at, same) in no))

pub returns : goal.returns
returns c =
    let change = c.args.change.now in
    let m = c.args.id.0 in
    let at : c.partition_of.result ≡ partition_of (homes_in change) m = c.partition_of.ensures ∙ ap (λ (xs : List ℕ). partition_of xs m) c.as_slice.ensures.value in
    let same = c.if-partition_of-part.false in
    c.end_memory.ensures ∙ end_within change c.requires c.args.part m (omega (arith, same, at))
