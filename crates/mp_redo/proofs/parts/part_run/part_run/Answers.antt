use Rattle.std.proofs.Common.{List, Option, length, map, option_map, sym, subst}
use Rattle.std.specs.Arc.{arc_value}
use Rattle.mp_wave.specs.Waveform.{Waveform}
use Rattle.mp_netlist.specs.Circuit.{wire_at}
use Rattle.mp_model.specs.Waves.{slot_wave}
use Rattle.mp_partition.specs.runs.Outcomes.{AreSlots}
use Rattle.mp_partition.specs.runs.Runs.{IsRun, end_memory}
use Rattle.mp_redo.proofs.lemmas.apart.PartLemmas.{parts_have_places}
use Rattle.mp_redo.proofs.lemmas.apart.RunSlotLemmas.{runs_are_by_slots}
use Rattle.mp_redo.specs.parts.Changes.{homes_in, old_part}
use Rattle.mp_redo.proofs.parts.part_run.part_run.Goals as goal

pub returns : goal.returns
returns c =
    let change = c.args.change.now in
    let part = old_part change c.args.part in
    let places = parts_have_places change.old.now (homes_in change) c.args.part in
    let waves = subst (λ (xs : List (Option Waveform)). AreSlots (length part.wires) (λ w. slot_wave part w (wire_at part w)) xs) (sym c.new.ensures)
    (subst (λ size. AreSlots size (λ w. slot_wave part w (wire_at part w)) (map (option_map arc_value) c.in_ok-waves.waves.items)) (sym places.wires) c.in_ok-waves.ensures) in
    let ends = subst (λ size. AreSlots size (end_memory part) c.in_ok-ends.ends.items) (sym places.modules) c.in_ok-ends.ensures in
    subst (IsRun part) (sym c.new-2.ensures) (runs_are_by_slots part _ (record { horizon = c.horizon.ensures.value; waves = waves; ends = ends; kept = c.in_ok-kept.ensures }))
