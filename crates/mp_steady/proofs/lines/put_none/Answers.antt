use Rattle.std.proofs.Common.{ℕ, List, ◌++◌, ap, codes}
use Rattle.std.specs.Fmt.{decimal}
use Rattle.mp_streams.proofs.OutLemmas.{puts_sooner, puts_then, writes_failed}
use Rattle.mp_questions.proofs.lemmas.causes.WhyLemmas.{puts_text}
use Rattle.mp_steady.specs.Periods.{last_set, longest_period}
use Rattle.mp_steady.specs.SteadyLines.{stimuli_text}
use Rattle.mp_steady.proofs.lines.put_none.Goals as goal

abbrev begin : ℕ → List ℕ
begin horizon = codes "doesn't repeat before " ++ (decimal horizon ++ codes ": ")

abbrev end : ℕ → List ℕ
end longest = codes "no period of up to " ++ (decimal longest ++ codes "\n")

pub returns-in_err-put_to : goal.returns-in_err-put_to
returns-in_err-put_to g c = λ wires are.
    let n = c.args.netlist.now in
    writes_failed _ c.from_residual.ensures.0 (puts_sooner (stimuli_text (last_set n wires) ++ end (longest_period n wires)) (puts_text (ap begin c.horizon.ensures.value) c.in_err-put_to.ensures))

pub returns-in_err-put_stimuli : goal.returns-in_err-put_stimuli
returns-in_err-put_stimuli g c = λ wires are.
    let n = c.args.netlist.now in
    writes_failed _ c.from_residual-in_err-put_stimuli.ensures.0
    (puts_then (puts_text (ap begin c.horizon.ensures.value) c.in_ok-put_to.ensures)
    (puts_sooner (end (longest_period n wires)) (puts_text (ap stimuli_text are.last_set) c.in_err-put_stimuli.ensures)))

pub returns : goal.returns
returns g c = λ wires are.
    let n = c.args.netlist.now in
    puts_then (puts_text (ap begin c.horizon.ensures.value) c.in_ok-put_to.ensures)
    (puts_then (puts_text (ap stimuli_text are.last_set) c.in_ok-put_stimuli.ensures) (puts_text (ap end (c.longest_period.ensures n wires are)) c.put_to-2.ensures))
