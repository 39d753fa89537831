use Rattle.std.proofs.Common.{refl}
use Rattle.mp_records.specs.declared.ids.WireId.{WireId}
use Rattle.mp_streams.proofs.OutLemmas.{puts_none, puts_as}
use Rattle.mp_picture.specs.wave_json.WaveJson.{signal_item}
use Rattle.mp_picture.proofs.lemmas.wave_json.ItemLemmas.{items_next, items_still, items_stopped}
use Rattle.mp_picture.proofs.wave_json.wave_json.put_signals.Goals as goal

abbrev none : WireId
none = record { 0 = 0 }

pub loop-wire-init : goal.loop-wire-init
loop-wire-init g c = (puts_none c.args.out.now, refl)

pub loop-wire-preserved : goal.loop-wire-preserved
loop-wire-preserved g c =
    let picture = c.args.picture.now in
    let t = signal_item picture.netlist.now picture.columns picture.numerals in
    let i = c.loop-wire.wire-index in (
      items_next t picture.wires.now i none c.loop-wire-test.true c.loop-wire.invariant.1 c.loop-wire.invariant.0 c.in_ok-is_first.ensures.written,
      items_still t picture.wires.now i none c.loop-wire-test.true c.loop-wire.is_first _ c.loop-wire.invariant.1 c.in_ok-is_first.ensures.first,
    )

pub returns-in_err-is_first : goal.returns-in_err-is_first
returns-in_err-is_first g c =
    let picture = c.args.picture.now in
    puts_as _ c.in_err-is_first.field-0.0 c.from_residual.ensures.1 refl
    (items_stopped (signal_item picture.netlist.now picture.columns picture.numerals) picture.wires.now c.loop-wire.wire-index none c.loop-wire-test.true
    c.loop-wire.invariant.1 c.loop-wire.invariant.0 c.in_err-is_first.ensures.written)
