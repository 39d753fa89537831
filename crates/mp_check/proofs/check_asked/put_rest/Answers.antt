use Rattle.std.proofs.Common.{◌∙◌, List, Bool, subst, sym}
use Rattle.mp_streams.proofs.OutLemmas.{puts_then, puts_sooner, writes_failed}
use Rattle.mp_questions.proofs.lemmas.causes.WhyLemmas.{puts_text}
use Rattle.mp_check.specs.CheckTexts.{selected_notes}
use Rattle.mp_check.specs.ReadWires.{AreRead}
use Rattle.mp_check.specs.Selections.{selected}
use Rattle.mp_check.proofs.CheckLemmas.{deadlocks_are}
use Rattle.mp_check.proofs.check_asked.put_rest.Goals as goal

pub put_notes-requires : goal.put_notes-requires
put_notes-requires g c = subst (λ (marks : List Bool). AreRead c.args.end.now.at.netlist.now marks) (sym c.as_slice-2.ensures.value) c.requires.read_are

pub returns-in_err-put_deadlocks : goal.returns-in_err-put_deadlocks
returns-in_err-put_deadlocks g c =
    let n = c.args.end.now.at.netlist.now in
    let s = selected c.args.selection in
    writes_failed _ c.from_residual.ensures.0
    (puts_sooner (selected_notes n s) (puts_text (deadlocks_are n s (c.as_slice.ensures.value ∙ c.requires.deadlocks_are)) c.in_err-put_deadlocks.ensures))

pub returns : goal.returns
returns g c =
    let n = c.args.end.now.at.netlist.now in
    let s = selected c.args.selection in
    puts_then (puts_text (deadlocks_are n s (c.as_slice.ensures.value ∙ c.requires.deadlocks_are)) c.in_ok-put_deadlocks.ensures) c.put_notes.ensures
