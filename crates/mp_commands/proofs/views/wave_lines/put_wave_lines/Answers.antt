use Rattle.std.proofs.Common.{◌≡◌, ◌+◌, ◌≤◌, length, ◌++◌, append_assoc, ap, ◌∙◌, arith}
use Rattle.mp_streams.proofs.OutLemmas.{puts_none, puts_then, puts_sooner, writes_failed}
use Rattle.mp_netlist.specs.Circuit.{wire_at}
use Rattle.mp_model.specs.Waves.{wave}
use Rattle.mp_commands.specs.views.Outputs.{slot_line, lines_below, waves_text}
use Rattle.mp_commands.proofs.lemmas.views.OutputLemmas.{lines_below-zero, lines_below-next, lines_below-front}
use Rattle.mp_commands.proofs.views.wave_lines.put_wave_lines.Goals as goal

pub loop-number-init : goal.loop-number-init
loop-number-init g c = rw (lines_below-zero c.args.of.now.netlist.now) (puts_none c.args.out.now)

pub loop-number-preserved : goal.loop-number-preserved
loop-number-preserved g c = rw (lines_below-next c.args.of.now.netlist.now c.loop-number.number) (puts_then c.loop-number.invariant c.in_ok-put_wave_line.ensures)

pub returns-in_err-put_wave_line : goal.returns-in_err-put_wave_line
returns-in_err-put_wave_line g c =
    let n = c.args.of.now.netlist.now in
    let w = c.loop-number.number in
    let line = slot_line (wire_at n w) (wave n w) in
    let within : w + 1 ≤ length n.wires = omega arith in
    let front = lines_below-front n (w + 1) within in
    let whole : waves_text n ≡ lines_below n w ++ (line ++ front.0) =
    front.1 ∙ ap (λ l. l ++ front.0) (lines_below-next n w) ∙ append_assoc (lines_below n w) line front.0 in
    rw whole (writes_failed c.from_residual.result c.from_residual.ensures.0 (puts_then c.loop-number.invariant (puts_sooner front.0 c.in_err-put_wave_line.ensures)))
