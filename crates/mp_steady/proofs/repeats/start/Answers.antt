use Rattle.std.proofs.Common.{ℕ, ◌-◌, List, max, slice_index_or, ap, sym, ◌∙◌, arith}
use Rattle.std.proofs.lemmas.List.{take_all}
use Rattle.mp_records.specs.declared.ids.WireId.{WireId}
use Rattle.mp_wave.specs.Waveform.{level_of}
use Rattle.mp_model.specs.Waves.{level}
use Rattle.mp_steady.specs.Periods.{greatest, last_unit, repeats_from}
use Rattle.mp_steady.specs.WireSets.{numbers}
use Rattle.mp_steady.proofs.ListLemmas.{greatest_more}
use Rattle.mp_steady.proofs.TimesLemmas.{wave_form, wave_repeats}
use Rattle.mp_steady.proofs.repeats.start.Goals as goal

abbrev none : WireId
none = record { 0 = 0 }

pub repeats_from-from-requires : goal.repeats_from-from-requires
repeats_from-from-requires c = record {
  form = wave_form c.args.set.of.netlist.now (slice_index_or c.args.set.wires.now c.loop-wire.wire-index none).0 c.wave_of.result.now c.wave_of.ensures;
  short = omega (arith, c.requires.times.end, c.requires.few, c.horizon-horizon.ensures.high, c.horizon-horizon.ensures.value);
}

pub loop-wire-preserved : goal.loop-wire-preserved
loop-wire-preserved c =
    let n = c.args.set.of.netlist.now in
    let units = c.args.units in
    let wires = c.args.set.wires.now in
    let i = c.loop-wire.wire-index in
    let from = c.loop-wire.from in
    let w : ℕ = (slice_index_or wires i none).0 in
    let v = c.wave_of.result.now in
    let f : ℕ → ℕ = (λ u. repeats_from (level n u) units (last_unit n - units)) in
    c.repeats_from-from.ensures ∙ ap (λ e. max from (repeats_from (level_of v) units (e - units))) c.requires.times.end
    ∙ ap (max from) (wave_repeats n w units v c.wave_of.ensures c.requires.few) ∙ ap (λ a. max a (f w)) c.loop-wire.invariant ∙ sym (greatest_more f wires i none c.loop-wire-test.true)

pub returns : goal.returns
returns c =
    let n = c.args.set.of.netlist.now in
    let units = c.args.units in
    let wires = c.args.set.wires.now in
    c.loop-wire.invariant
    ∙ ap (λ (ws : List WireId). greatest (λ u. repeats_from (level n u) units (last_unit n - units)) (numbers ws)) (take_all c.loop-wire.wire-index wires (omega (arith, c.loop-wire-test.false)))
