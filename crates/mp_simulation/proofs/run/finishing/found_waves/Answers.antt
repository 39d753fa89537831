use Rattle.std.proofs.Common.{◌≡◌, ◌+◌, ◌<◌, Option, IsSome, [], length, ap, ◌∙◌, sym, arith}
use Rattle.std.proofs.lemmas.List.{length_push}
use Rattle.std.specs.Vec.Iter.{into_iter_items, into_iter_len}
use Rattle.mp_wave.specs.Waveform.{Waveform}
use Rattle.mp_simulation.specs.units.DataWaves.{no_building}
use Rattle.mp_simulation.proofs.lemmas.run.RunLemmas.{waves_more, all_waves}
use Rattle.mp_simulation.proofs.lemmas.run.FoundLemmas.{next_item, one_item, one_wave}
use Rattle.mp_simulation.proofs.run.finishing.found_waves.Goals as goal

pub loop-w-preserved : goal.loop-w-preserved
loop-w-preserved c =
    let n = c.args.netlist.now in
    let s = c.args.simulation in
    let w = c.loop-w.w in
    let before = c.loop-w.invariant in
    let toggles_left = before.toggles_left in
    let levels_left = before.levels_left in
    let waves_are = c.requires.over.waves in
    let built_are = c.requires.over.wires.wires in
    let low : c.loop-w.w < length c.args.netlist.now.wires = omega arith in
    let some_toggles : 0 < into_iter_len c.loop-w.toggles = omega arith in
    let some_levels : 0 < into_iter_len c.loop-w.levels = omega arith in
    let toggles_some : IsSome c.next-toggled.result = c.next-toggled.ensures.variant.1 some_toggles in
    let levels_some : IsSome c.next-level.result = c.next-level.ensures.variant.1 some_levels in
    let one_toggle = one_item c.next-toggled.result toggles_some in
    let one_level = one_item c.next-level.result levels_some in
    let less_toggles = c.next-toggled.ensures.len in
    let less_levels = c.next-level.ensures.len in
    let toggle = next_item c.next-toggled.result (into_iter_items c.next-toggled.new.self) s.bits.simulator.waves w (record { initial = 0; changes = [] }) toggles_some (omega arith) (sym before.toggles ∙ c.next-toggled.ensures.items) in
    let level = next_item c.next-level.result (into_iter_items c.next-level.new.self) s.wires.waves.items w no_building levels_some (omega arith) (sym before.levels ∙ c.next-level.ensures.items) in
    record {
      toggles = toggle.1;
      toggles_left = omega arith;
      levels = level.1;
      levels_left = omega arith;
      count = ap (length {A = Option Waveform}) c.in_ok-push.ensures.items ∙ length_push c.loop-w.found.items c.wave_of.result ∙ ap (λ k. k + 1) before.count;
      each = waves_more n w c.loop-w.found.items c.push.new.self.items c.wave_of.result before.count c.in_ok-push.ensures.items
          (c.wave_of.ensures ∙ one_wave n c.requires.form s c.requires.over w c.next-toggled.result c.next-level.result low toggle.0 level.0) before.each;
    }

pub returns : goal.returns
returns c =
    let n = c.args.netlist.now in
    let count = c.loop-w.invariant.count in
    let all : c.loop-w.w ≡ length c.args.netlist.now.wires = omega arith in
    all_waves n c.loop-w.found.items (count ∙ all) (λ k low. c.loop-w.invariant.each k (omega arith))
