use Rattle.std.proofs.Common.{◌≡◌, ℕ, List, slice_index_or, ap, ◌∙◌}
use Rattle.mp_partition.specs.regions.Regions.{partition_of}
use Rattle.mp_partition.specs.runs.Outcomes.{end_of}
use Rattle.mp_redo.specs.parts.Changes.{homes_in}
use Rattle.mp_redo.proofs.lemmas.parts.WholeLemmas.{end_there}
use Rattle.mp_redo.proofs.parts.whole_run.whole_end.Goals as goal

pub returns : goal.returns
returns c =
    let change = c.args.change.now in
    let m = c.args.id.0 in
    let found = c.index-parts-part.result in
    let home : c.partition_of-part.result ≡ partition_of (homes_in change) m = c.partition_of-part.ensures ∙ ap (λ (xs : List ℕ). partition_of xs m) c.as_slice.ensures.value in
    c.end_memory.ensures ∙ ap (λ k. end_of (slice_index_or c.args.parts.now k found).run m) home
    ∙ end_there change c.requires.change c.args.parts.now c.requires.parts found m
