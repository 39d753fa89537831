use Rattle.std.proofs.Common.{◌≡◌, ◌+◌, ◌<◌, ℕ, [], List, Option, map, option_map, length, slice_index_or, ap, sym, subst, ◌∙◌, arith}
use Rattle.std.specs.Arc.{arc_value}
use Rattle.std.proofs.lemmas.List.{get_or-map, map_push}
use Rattle.mp_netlist.specs.Slots.{slot_at}
use Rattle.mp_partition.specs.declared.runs.checkpoint.Checkpoint.{Checkpoint}
use Rattle.mp_partition.specs.declared.merging.part_run.PartRun.{PartRun}
use Rattle.mp_partition.specs.runs.Outcomes.{AreSlots}
use Rattle.mp_partition.specs.merging.PartRuns.{kept_in}
use Rattle.mp_partition.specs.regions.Regions.{partition_of}
use Rattle.mp_partition.proofs.lemmas.runs.OutcomeLemmas.{slots_push}
use Rattle.mp_partition.proofs.lemmas.merging.MergeLemmas.{divided_checkpoints}
use Rattle.mp_partition.proofs.merging.merging.merged_checkpoints.Goals as goal

pub loop-m-preserved : goal.loop-m-preserved
loop-m-preserved c =
    let m = c.loop-m.m in
    let runs = c.args.runs.now in
    let division = c.args.division.now in
    let run = c.index-runs-part.result in
    let slot = option_map arc_value c.in_ok-shared_checkpoints.field-0 in
    let home : c.partition_of-part.result ≡ partition_of division.homes.items m = c.partition_of-part.ensures ∙ ap (λ (xs : List ℕ). partition_of xs m) c.as_slice.ensures.value in
    let low : partition_of division.homes.items m < length runs = (let few = c.requires.division.few m in let places = c.requires.runs.places in omega (arith, few, places)) in
    let is : slot ≡ slot_at (slice_index_or (map kept_in runs) (partition_of division.homes.items m) []) m =
    c.in_ok-shared_checkpoints.ensures ∙ ap (λ (x : PartRun). slot_at (kept_in x) m) c.index-runs-part.is ∙ ap (λ k. slot_at (kept_in (slice_index_or runs k run)) m) home
    ∙ ap (λ (xs : List (Option (List Checkpoint))). slot_at xs m) (sym (get_or-map kept_in runs (partition_of division.homes.items m) run [] low)) in
    subst (AreSlots (m + 1) (λ k. slot_at (slice_index_or (map kept_in runs) (partition_of division.homes.items k) []) k))
    (sym (ap (map (option_map arc_value)) c.in_ok-push.ensures.items ∙ map_push (option_map arc_value) c.loop-m.kept.items c.in_ok-shared_checkpoints.field-0))
    (slots_push m (λ k. slot_at (slice_index_or (map kept_in runs) (partition_of division.homes.items k) []) k) (map (option_map arc_value) c.loop-m.kept.items) slot is c.loop-m.invariant)

pub returns : goal.returns
returns c =
    let n = c.args.netlist.now in
    let runs = c.args.runs.now in
    let division = c.args.division.now in
    let all : c.loop-m.m ≡ length n.modules = omega arith in
    divided_checkpoints n c.requires.form division.homes.items division.wires.items division.heard.items division.parts runs _ c.requires.division c.requires.runs
    (subst (λ k. AreSlots k (λ m. slot_at (slice_index_or (map kept_in runs) (partition_of division.homes.items m) []) m) (map (option_map arc_value) c.loop-m.kept.items)) all c.loop-m.invariant)
