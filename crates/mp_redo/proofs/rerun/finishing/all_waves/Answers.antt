use Rattle.std.proofs.Common.{◌≡◌, ◌+◌, ◌<◌, ◌≤◌, IsSome, Option, Some, [], length, map, option_map, ap, sym, subst, ◌∙◌, arith}
use Rattle.std.specs.Arc.{arc_value}
use Rattle.std.specs.Vec.Iter.{into_iter_items, into_iter_len}
use Rattle.std.proofs.lemmas.List.{map_push}
use Rattle.mp_wave.specs.Waveform.{Waveform}
use Rattle.mp_wave.specs.Building.{Building}
use Rattle.mp_netlist.specs.Circuit.{wire_at}
use Rattle.mp_model.specs.Waves.{slot_wave}
use Rattle.mp_kernel.specs.events.Toggling.{wave_at}
use Rattle.mp_partition.specs.runs.Outcomes.{AreSlots}
use Rattle.mp_partition.proofs.lemmas.runs.OutcomeLemmas.{slots_push}
use Rattle.mp_simulation.specs.units.DataWaves.{no_building, building_at}
use Rattle.mp_simulation.specs.run.Runs.{wave_for}
use Rattle.mp_simulation.proofs.lemmas.run.FoundLemmas.{next_item, one_item}
use Rattle.mp_redo.specs.rerun.Finishing.{until_in}
use Rattle.mp_redo.specs.rerun.Splicing.{IsSplicedAt}
use Rattle.mp_redo.proofs.lemmas.rerun.FinishingLemmas.{from_start}
use Rattle.mp_redo.proofs.rerun.finishing.all_waves.Goals as goal

pub wave_in-requires-clause-old : goal.wave_in-requires-clause-old
wave_in-requires-clause-old c none = c.requires.waves.old c.loop-w.w (from_start (until_in c.args.sources.now c.loop-w.w) c.args.end (sym c.old_from-from.ensures ∙ none))

pub wave_in-requires-clause-shown : goal.wave_in-requires-clause-shown
wave_in-requires-clause-shown c long =
    let n = c.args.change.now.new.now in
    let s = c.args.simulation in
    let w = c.loop-w.w in
    let before = c.loop-w.invariant in
    let toggles_left = before.toggles_left in
    let levels_left = before.levels_left in
    let waves_are = c.requires.waves.toggles in
    let built_are = c.requires.waves.built in
    let low : c.loop-w.w < length c.args.change.now.new.now.wires = omega arith in
    let some_toggles : 0 < into_iter_len c.loop-w.toggles = omega arith in
    let some_levels : 0 < into_iter_len c.loop-w.levels = omega arith in
    let toggles_some : IsSome c.next-toggled.result = c.next-toggled.ensures.variant.1 some_toggles in
    let levels_some : IsSome c.next-level.result = c.next-level.ensures.variant.1 some_levels in
    let toggle = next_item c.next-toggled.result (into_iter_items c.next-toggled.new.self) s.bits.simulator.waves w (record { initial = 0; changes = [] }) toggles_some (omega arith) (sym before.toggles ∙ c.next-toggled.ensures.items) in
    let level = next_item c.next-level.result (into_iter_items c.next-level.new.self) s.wires.waves.items w no_building levels_some (omega arith) (sym before.levels ∙ c.next-level.ensures.items) in
    let there : wave_for (wire_at n w) c.next-toggled.result c.next-level.result ≡ wave_for (wire_at n w) (Some (wave_at s.bits.simulator.waves w)) (Some (building_at s.wires.waves.items w)) =
    ap (λ (t : Option Waveform). wave_for (wire_at n w) t c.next-level.result) toggle.0
    ∙ ap (λ (b : Option Building). wave_for (wire_at n w) (Some (wave_at s.bits.simulator.waves w)) b) level.0 in
    there ∙ c.requires.waves.shown w low (subst (λ k. n.horizon ≤ k) c.old_from-from.ensures long)

pub wave_in-requires-clause-spliced : goal.wave_in-requires-clause-spliced
wave_in-requires-clause-spliced c later early stands =
    let n = c.args.change.now.new.now in
    let s = c.args.simulation in
    let w = c.loop-w.w in
    let before = c.loop-w.invariant in
    let toggles_left = before.toggles_left in
    let levels_left = before.levels_left in
    let waves_are = c.requires.waves.toggles in
    let built_are = c.requires.waves.built in
    let low : c.loop-w.w < length c.args.change.now.new.now.wires = omega arith in
    let some_toggles : 0 < into_iter_len c.loop-w.toggles = omega arith in
    let some_levels : 0 < into_iter_len c.loop-w.levels = omega arith in
    let toggles_some : IsSome c.next-toggled.result = c.next-toggled.ensures.variant.1 some_toggles in
    let levels_some : IsSome c.next-level.result = c.next-level.ensures.variant.1 some_levels in
    let toggle = next_item c.next-toggled.result (into_iter_items c.next-toggled.new.self) s.bits.simulator.waves w (record { initial = 0; changes = [] }) toggles_some (omega arith) (sym before.toggles ∙ c.next-toggled.ensures.items) in
    let level = next_item c.next-level.result (into_iter_items c.next-level.new.self) s.wires.waves.items w no_building levels_some (omega arith) (sym before.levels ∙ c.next-level.ensures.items) in
    let there : wave_for (wire_at n w) c.next-toggled.result c.next-level.result ≡ wave_for (wire_at n w) (Some (wave_at s.bits.simulator.waves w)) (Some (building_at s.wires.waves.items w)) =
    ap (λ (t : Option Waveform). wave_for (wire_at n w) t c.next-level.result) toggle.0
    ∙ ap (λ (b : Option Building). wave_for (wire_at n w) (Some (wave_at s.bits.simulator.waves w)) b) level.0 in
    let run = c.args.change.now.run.now in
    let e = c.old_from-from.ensures in
    let is = c.requires.waves.spliced w low (subst (λ k. 0 < k) e later) (subst (λ k. k < n.horizon) e early) stands in
    subst (λ (o : Option Waveform). IsSplicedAt n run w c.old_from-from.result o) (sym there)
    (subst (λ k. IsSplicedAt n run w k (wave_for (wire_at n w) (Some (wave_at s.bits.simulator.waves w)) (Some (building_at s.wires.waves.items w)))) (sym e) is)

pub loop-w-preserved : goal.loop-w-preserved
loop-w-preserved c =
    let n = c.args.change.now.new.now in
    let s = c.args.simulation in
    let w = c.loop-w.w in
    let before = c.loop-w.invariant in
    let toggles_left = before.toggles_left in
    let levels_left = before.levels_left in
    let waves_are = c.requires.waves.toggles in
    let built_are = c.requires.waves.built in
    let low : c.loop-w.w < length c.args.change.now.new.now.wires = omega arith in
    let some_toggles : 0 < into_iter_len c.loop-w.toggles = omega arith in
    let some_levels : 0 < into_iter_len c.loop-w.levels = omega arith in
    let toggles_some : IsSome c.next-toggled.result = c.next-toggled.ensures.variant.1 some_toggles in
    let levels_some : IsSome c.next-level.result = c.next-level.ensures.variant.1 some_levels in
    let one_toggle = one_item c.next-toggled.result toggles_some in
    let one_level = one_item c.next-level.result levels_some in
    let less_toggles = c.next-toggled.ensures.len in
    let less_levels = c.next-level.ensures.len in
    let toggle = next_item c.next-toggled.result (into_iter_items c.next-toggled.new.self) s.bits.simulator.waves w (record { initial = 0; changes = [] }) toggles_some (omega arith) (sym before.toggles ∙ c.next-toggled.ensures.items) in
    let level = next_item c.next-level.result (into_iter_items c.next-level.new.self) s.wires.waves.items w no_building levels_some (omega arith) (sym before.levels ∙ c.next-level.ensures.items) in
    record {
      toggles = toggle.1;
      toggles_left = omega arith;
      levels = level.1;
      levels_left = omega arith;
      made =
          subst (AreSlots (w + 1) (λ k. slot_wave n k (wire_at n k)))
          (sym (ap (map (option_map arc_value)) c.in_ok-push.ensures.items ∙ map_push (option_map arc_value) c.loop-w.found.items c.in_ok-wave_in.field-0))
          (slots_push w (λ k. slot_wave n k (wire_at n k)) (map (option_map arc_value) c.loop-w.found.items) (option_map arc_value c.in_ok-wave_in.field-0) c.in_ok-wave_in.ensures before.made);
    }
