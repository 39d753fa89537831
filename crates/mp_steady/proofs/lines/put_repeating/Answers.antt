use Rattle.std.proofs.Common.{◌++◌, refl}
use Rattle.std.specs.List.{flat_map}
use Rattle.mp_streams.proofs.OutLemmas.{puts_as, puts_sooner, puts_then}
use Rattle.mp_streams.specs.declared.write_error.WriteError.TheVariants.{WriteFailed}
use Rattle.mp_steady.specs.Cycles.{cycle}
use Rattle.mp_steady.specs.SteadyLines.{cycle_text, events_line}
use Rattle.mp_steady.specs.WireSets.{numbers}
use Rattle.mp_steady.proofs.lines.put_repeating.Goals as goal

pub returns-in_err-put_first : goal.returns-in_err-put_first
returns-in_err-put_first g c =
    let n = c.args.of.set.of.netlist.now in
    let wires = numbers c.args.of.set.wires.now in
    puts_as _ WriteFailed c.from_residual.ensures.1 refl (puts_sooner (flat_map (events_line n c.args.of.units) wires ++ cycle_text n (cycle n wires c.args.of.units)) c.in_err-put_first.ensures)

pub returns-in_err-put_events : goal.returns-in_err-put_events
returns-in_err-put_events g c =
    let n = c.args.of.set.of.netlist.now in
    puts_as _ WriteFailed c.from_residual-in_err-put_events.ensures.1 refl
    (puts_then c.in_ok-put_first.ensures (puts_sooner (cycle_text n (cycle n (numbers c.args.of.set.wires.now) c.args.of.units)) c.in_err-put_events.ensures))

pub returns : goal.returns
returns g c = puts_then c.in_ok-put_first.ensures (puts_then c.in_ok-put_events.ensures c.put_critical.ensures)
