use Rattle.std.proofs.Common.{◌≡◌, List, ℕ, slice_index_or, ap, ◌∙◌}
use Rattle.mp_netlist.specs.Slots.{slot_at}
use Rattle.mp_partition.specs.declared.merging.part_run.PartRun.{PartRun}
use Rattle.mp_partition.specs.regions.Regions.{partition_of}
use Rattle.mp_partition.proofs.lemmas.merging.MergeLemmas.{divided_end}
use Rattle.mp_partition.proofs.merging.merging.end_of.Goals as goal

pub returns : goal.returns
returns c =
    let n = c.args.netlist.now in
    let m = c.args.id.0 in
    let runs = c.args.runs.now in
    let division = c.args.division.now in
    let run = c.index-runs-part.result in
    let home : c.partition_of-part.result ≡ partition_of division.homes.items m = c.partition_of-part.ensures ∙ ap (λ (xs : List ℕ). partition_of xs m) c.as_slice.ensures.value in
    c.end_in.ensures ∙ ap (λ (x : PartRun). slot_at x.ends.items m) c.index-runs-part.is ∙ ap (λ k. slot_at (slice_index_or runs k run).ends.items m) home
    ∙ divided_end n c.requires.form division.homes.items division.wires.items division.heard.items division.parts m runs run c.requires.division c.requires.runs c.requires.low
