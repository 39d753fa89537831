use Rattle.std.specs.Prelude.{◌≡◌, ◌+◌}
use Rattle.mp_commands.proofs.Names.{[], drop, ap, arith, rules, drop_all, left_whole, left_none, lines_from}
use Rattle.mp_commands.proofs.DeskLemmas.{line_put, line_failed}
use Rattle.mp_commands.proofs.outcome_lines.put_lines.Goals as goal

pub loop-place-init : goal.loop-place-init
loop-place-init g c = left_whole c.args.out.now (lines_from g.L.NumberedLine.line 1 c.args.things.now)

pub returns-in_err-put_line : goal.returns-in_err-put_line
returns-in_err-put_line g c =
    line_failed g.L.NumberedLine.line c.args.out.now c.loop-place.out c.put_line.new.out c.args.things.now c.loop-place.place _ c.in_err-put_line.ensures (search rules) (omega arith) c.loop-place.invariant
    c.from_residual.result c.from_residual.ensures.0

pub loop-place-preserved : goal.loop-place-preserved
loop-place-preserved g c =
    line_put g.L.NumberedLine.line c.args.out.now c.loop-place.out c.put_line.new.out c.args.things.now c.loop-place.place _ c.in_ok-put_line.ensures (search rules) (omega arith) c.loop-place.invariant

pub returns : goal.returns
returns g c =
    let end : drop c.loop-place.place c.args.things.now ≡ [] = drop_all c.loop-place.place c.args.things.now (omega arith) in
    left_none (ap (lines_from g.L.NumberedLine.line (c.loop-place.place + 1)) end) c.loop-place.invariant
