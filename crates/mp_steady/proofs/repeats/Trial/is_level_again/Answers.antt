use Rattle.std.proofs.Common.{◌≡◌, ℕ, ◌-◌, ◌≤◌, max, nat_le, ap, ◌∙◌, arith}
use Rattle.mp_wave.specs.Waveform.{level_of}
use Rattle.mp_model.specs.Waves.{level}
use Rattle.mp_steady.specs.Periods.{last_unit, repeats_from}
use Rattle.mp_steady.specs.WireSets.{numbers}
use Rattle.mp_steady.proofs.TimesLemmas.{later_within, wave_form, wave_repeats}
use Rattle.mp_steady.proofs.repeats.Trial.is_level_again.Goals as goal

pub overflow_sub-from : goal.overflow_sub-from
overflow_sub-from c =
    let trial = c.args.self.now in
    let heard = c.heard_from.ensures trial.set.of.netlist.now (numbers trial.set.wires.now) trial.are_times in
    omega (arith, heard, c.requires.few)

pub repeats_from-requires : goal.repeats_from-requires
repeats_from-requires c =
    let trial = c.args.self.now in
    record {
      form = wave_form trial.set.of.netlist.now c.args.wire.0 c.wave_of-wave.result.now c.wave_of-wave.ensures;
      short = omega (arith, trial.are_times.end, c.requires.few, c.horizon-horizon.ensures.high, c.horizon-horizon.ensures.value);
    }

pub returns : goal.returns
returns c =
    let trial = c.args.self.now in
    let n = trial.set.of.netlist.now in
    let wires = numbers trial.set.wires.now in
    let units = c.args.units in
    let w = c.args.wire.0 in
    let v = c.wave_of-wave.result.now in
    let from = c.heard_from.result - units in
    let few : units ≤ last_unit n = omega (arith, c.requires.few) in
    let since : ℕ = repeats_from (level n w) units (last_unit n - units) in
    let is : c.repeats_from.result ≡ max from since =
    c.repeats_from.ensures ∙ ap (λ e. max from (repeats_from (level_of v) units (e - units))) trial.are_times.end ∙ ap (max from) (wave_repeats n w units v c.wave_of-wave.ensures few) in
    ap (λ a. nat_le a from) is ∙ later_within since from ∙ ap (λ h. nat_le since (h - units)) (c.heard_from.ensures n wires trial.are_times)
