use Rattle.std.proofs.Common.{List, [], ℕ, cond, is_some, refl, ap, sym, ◌∙◌, codes}
use Rattle.mp_streams.proofs.OutLemmas.{puts_as, puts_sooner, puts_then, puts_unmade}
use Rattle.mp_streams.specs.declared.write_error.WriteError.TheVariants.{OutOfMemory}
use Rattle.mp_questions.proofs.lemmas.causes.WhyLemmas.{puts_text}
use Rattle.mp_steady.specs.SteadyLines.{control_text}
use Rattle.mp_steady.specs.WireSets.{control, numbers}
use Rattle.mp_steady.proofs.LineLemmas.{is_said, puts_done, steady_is, text_said, text_splits, text_unsaid}
use Rattle.mp_steady.proofs.lines.put_steady.Goals as goal

abbrev over : List ℕ
over = codes "nothing changes after "

pub returns-in_err-all : goal.returns-in_err-all
returns-in_err-all g c = puts_unmade _ OutOfMemory _ _ c.from_residual.ensures.1 refl

pub returns-in_err-times : goal.returns-in_err-times
returns-in_err-times g c =
    let n = c.args.of.netlist.now in
    let wires = numbers c.as_slice.result.now in
    let other = control_text n (control n) in
    let is = steady_is n over [] wires refl refl (ap numbers c.as_slice.ensures.value ∙ c.in_ok-all.ensures.value) in
    puts_as _ c.in_err-times.field-0.0 c.from_residual-in_err-times.ensures.1 refl
    (puts_text (sym (text_splits n over [] wires other) ∙ is) (puts_sooner (cond (is_said n wires) [] other) c.in_err-times.ensures.text))

pub returns-in-Some : goal.returns-in-Some
returns-in-Some g c =
    let n = c.args.of.netlist.now in
    let wires = numbers c.as_slice.result.now in
    let is = steady_is n over [] wires refl refl (ap numbers c.as_slice.ensures.value ∙ c.in_ok-all.ensures.value) in
    let text = text_unsaid n over [] wires (control_text n (control n)) (sym (ap is_some c.in-Some.is) ∙ c.in_ok-times.ensures.found) ∙ is in
    puts_text text (puts_then c.in_ok-times.ensures.text c.put_control.ensures)

pub returns : goal.returns
returns g c =
    let n = c.args.of.netlist.now in
    let wires = numbers c.as_slice.result.now in
    let is = steady_is n over [] wires refl refl (ap numbers c.as_slice.ensures.value ∙ c.in_ok-all.ensures.value) in
    puts_text (text_said n over [] wires (control_text n (control n)) (sym (ap is_some c.in-None.is) ∙ c.in_ok-times.ensures.found) ∙ is) (puts_done c.in_ok-times.ensures.text)
