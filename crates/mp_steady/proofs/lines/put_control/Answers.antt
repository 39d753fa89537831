use Rattle.std.proofs.Common.{List, [], ℕ, cond, is_some, refl, ap, sym, subst, ◌∙◌, codes}
use Rattle.std.specs.Prelude.{IfSome}
use Rattle.mp_streams.proofs.OutLemmas.{puts_as, puts_sooner, puts_then, puts_unmade}
use Rattle.mp_streams.specs.declared.write_error.WriteError.TheVariants.{WriteFailed, OutOfMemory}
use Rattle.mp_questions.proofs.lemmas.causes.WhyLemmas.{puts_ok, puts_text}
use Rattle.mp_steady.specs.RunTimes.{AreTimes}
use Rattle.mp_steady.specs.SteadyLines.{control_text, none_text}
use Rattle.mp_steady.specs.WireSets.{numbers}
use Rattle.mp_steady.proofs.LineLemmas.{control_is, is_said, puts_done, some_wires, text_said, text_splits, text_unsaid}
use Rattle.mp_steady.proofs.lines.put_control.Goals as goal

abbrev over : List ℕ
over = codes "control stands still after "

abbrev word : List ℕ
word = codes "control "

pub returns-in_err-control : goal.returns-in_err-control
returns-in_err-control g c = puts_unmade _ OutOfMemory _ _ c.from_residual.ensures.1 refl

pub returns-in_err-times : goal.returns-in_err-times
returns-in_err-times g c =
    let n = c.args.of.netlist.now in
    let wires = numbers c.as_slice.result.now in
    let some = some_wires c.as_slice.result.now _ c.as_slice.ensures.len (sym c.is_empty.ensures ∙ c.if-is_empty.false) in
    let is = control_is n over word wires refl refl some ∙ ap (control_text n) (ap numbers c.as_slice.ensures.value ∙ c.in_ok-control.ensures.value) in
    puts_as _ c.in_err-times.field-0.0 c.from_residual-in_err-times.ensures.1 refl
    (puts_text (sym (text_splits n over word wires (none_text n wires)) ∙ is) (puts_sooner (cond (is_said n wires) [] (none_text n wires)) c.in_err-times.ensures.text))

pub returns-in_err-put_none-in-Some : goal.returns-in_err-put_none-in-Some
returns-in_err-put_none-in-Some g c =
    let n = c.args.of.netlist.now in
    let wires = numbers c.as_slice.result.now in
    let some = some_wires c.as_slice.result.now _ c.as_slice.ensures.len (sym c.is_empty.ensures ∙ c.if-is_empty.false) in
    let is = control_is n over word wires refl refl some ∙ ap (control_text n) (ap numbers c.as_slice.ensures.value ∙ c.in_ok-control.ensures.value) in
    let times = subst (λ o. IfSome o (AreTimes n wires)) c.in-Some.is c.in_ok-times.ensures.times in
    let text = text_unsaid n over word wires (none_text n wires) (sym (ap is_some c.in-Some.is) ∙ c.in_ok-times.ensures.found) ∙ is in
    puts_as _ WriteFailed c.from_residual-in_err-put_none-in-Some.ensures.1 refl (puts_text text (puts_then c.in_ok-times.ensures.text (c.in_err-put_none-in-Some.ensures wires times)))

pub returns-in-Some : goal.returns-in-Some
returns-in-Some g c =
    let n = c.args.of.netlist.now in
    let wires = numbers c.as_slice.result.now in
    let some = some_wires c.as_slice.result.now _ c.as_slice.ensures.len (sym c.is_empty.ensures ∙ c.if-is_empty.false) in
    let is = control_is n over word wires refl refl some ∙ ap (control_text n) (ap numbers c.as_slice.ensures.value ∙ c.in_ok-control.ensures.value) in
    let times = subst (λ o. IfSome o (AreTimes n wires)) c.in-Some.is c.in_ok-times.ensures.times in
    let text = text_unsaid n over word wires (none_text n wires) (sym (ap is_some c.in-Some.is) ∙ c.in_ok-times.ensures.found) ∙ is in
    puts_text text (puts_then c.in_ok-times.ensures.text (puts_ok (c.in_ok-put_none-in-Some.ensures wires times)))

pub returns : goal.returns
returns g c =
    let n = c.args.of.netlist.now in
    let wires = numbers c.as_slice.result.now in
    let some = some_wires c.as_slice.result.now _ c.as_slice.ensures.len (sym c.is_empty.ensures ∙ c.if-is_empty.false) in
    let is = control_is n over word wires refl refl some ∙ ap (control_text n) (ap numbers c.as_slice.ensures.value ∙ c.in_ok-control.ensures.value) in
    puts_text (text_said n over word wires (none_text n wires) (sym (ap is_some c.in-None.is) ∙ c.in_ok-times.ensures.found) ∙ is) (puts_done c.in_ok-times.ensures.text)
