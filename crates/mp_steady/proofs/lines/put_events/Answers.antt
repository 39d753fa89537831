use Rattle.std.proofs.Common.{ap, ◌∙◌}
use Rattle.std.specs.List.{flat_map}
use Rattle.std.proofs.lemmas.List.{take_all}
use Rattle.mp_streams.proofs.OutLemmas.{puts_next, puts_stopped, writes_failed}
use Rattle.mp_records.specs.declared.ids.WireId.{WireId}
use Rattle.mp_questions.proofs.lemmas.causes.WhyLemmas.{puts_text}
use Rattle.mp_steady.specs.SteadyLines.{events_line}
use Rattle.mp_steady.proofs.LineLemmas.{lines_are}
use Rattle.mp_steady.proofs.lines.put_events.Goals as goal

abbrev none : WireId
none = record { 0 = 0 }

pub returns-in_err-put_wire : goal.returns-in_err-put_wire
returns-in_err-put_wire g c =
    let n = c.args.of.set.of.netlist.now in
    let wires = c.args.of.set.wires.now in
    writes_failed _ c.from_residual.ensures.0
    (puts_text (lines_are n c.args.of.units wires)
    (puts_stopped (λ (w : WireId). events_line n c.args.of.units w.0) wires c.loop-wire.wire-index none c.loop-wire-test.true c.loop-wire.invariant c.in_err-put_wire.ensures))

pub loop-wire-preserved : goal.loop-wire-preserved
loop-wire-preserved g c =
    puts_next (λ (w : WireId). events_line c.args.of.set.of.netlist.now c.args.of.units w.0) c.args.of.set.wires.now c.loop-wire.wire-index none c.loop-wire-test.true c.loop-wire.invariant c.in_ok-put_wire.ensures

pub returns : goal.returns
returns g c =
    let n = c.args.of.set.of.netlist.now in
    let wires = c.args.of.set.wires.now in
    puts_text (ap (flat_map (λ (w : WireId). events_line n c.args.of.units w.0)) (take_all c.loop-wire.wire-index wires c.loop-wire-test.false) ∙ lines_are n c.args.of.units wires) c.loop-wire.invariant
