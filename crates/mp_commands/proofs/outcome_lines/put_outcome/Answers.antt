use Rattle.std.specs.Prelude.{◌≡◌}
use Rattle.mp_commands.proofs.Names.{rules, puts_then, puts_sooner, writes_failed, present, viewer_line, lines_from}
use Rattle.mp_commands.specs.views.Outputs.{waves_text}
use Rattle.mp_commands.proofs.outcome_lines.put_outcome.Goals as goal

pub returns-in_err-put_lines-clause-written : goal.returns-in_err-put_lines-clause-written
returns-in_err-put_lines-clause-written g c =
    let outcome = c.args.outcome.now in
    let rest = lines_from viewer_line 1 outcome.numbers.items in
    let put = rw c.as_slice.ensures.value at c.in_err-put_lines.ensures in
    writes_failed c.from_residual.result c.from_residual.ensures.0 (puts_sooner (waves_text (present (g.S.EditSession.story outcome.session))) (puts_sooner rest put))

pub returns-in_err-put_lines-2-clause-written : goal.returns-in_err-put_lines-2-clause-written
returns-in_err-put_lines-2-clause-written g c =
    let outcome = c.args.outcome.now in
    let r = c.from_residual-in_err-put_lines-2 in
    let first = rw c.as_slice.ensures.value at c.in_ok-put_lines.ensures in
    let put = rw c.as_slice-2.ensures.value at c.in_err-put_lines-2.ensures in
    writes_failed r.result r.ensures.0 (puts_sooner (waves_text (present (g.S.EditSession.story outcome.session))) (puts_then first put))

pub returns-clause-written : goal.returns-clause-written
returns-clause-written g c =
    let first = rw c.as_slice.ensures.value at c.in_ok-put_lines.ensures in
    let second = rw c.as_slice-2.ensures.value at c.in_ok-put_lines-2.ensures in
    let story : c.deref.result.now ≡ g.S.EditSession.story c.args.outcome.now.session = search rules in
    let last = rw (c.now.ensures.value, story) at c.put_wave_lines.ensures in
    puts_then (puts_then first second) last
