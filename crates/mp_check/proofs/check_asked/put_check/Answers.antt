use Rattle.std.proofs.Common.{List, ap, refl, sym, subst}
use Rattle.mp_streams.specs.declared.write_error.WriteError.TheVariants.{WriteFailed}
use Rattle.mp_streams.proofs.OutLemmas.{puts_as, puts_ok, puts_then, puts_sooner}
use Rattle.mp_netlist.specs.declared.driver.Driver.{Driver}
use Rattle.mp_netlist.specs.Circuit.{Circuit}
use Rattle.mp_depend.specs.Drivers.{AreDrivers}
use Rattle.mp_questions.proofs.lemmas.causes.WhyLemmas.{puts_text}
use Rattle.mp_check.specs.CheckTexts.{check_text}
use Rattle.mp_check.specs.Checks.{IsCheckOf}
use Rattle.mp_check.specs.Selections.{selected}
use Rattle.mp_check.proofs.CheckLemmas.{rest_at}
use Rattle.mp_check.proofs.check_asked.put_check.Goals as goal

pub new-end-requires-clause-drivers : goal.new-end-requires-clause-drivers
new-end-requires-clause-drivers g c = subst (λ (list : List Driver). AreDrivers c.args.netlist.now list) (sym c.as_slice.ensures.value) c.requires.check.drivers_are

pub put_rest-requires : goal.put_rest-requires
put_rest-requires g c = subst (λ (m : Circuit). IsCheckOf m c.args.check.now) (sym c.new-end.ensures.netlist) c.requires.check

pub returns-in_err-put_problems-clause-written : goal.returns-in_err-put_problems-clause-written
unfolding check_text
returns-in_err-put_problems-clause-written g c =
    let n = c.args.netlist.now in
    let s = selected c.args.asked.selection in
    puts_as _ _ c.from_residual.ensures.1 refl (puts_sooner (rest_at s n) c.in_err-put_problems.ensures.written)

pub returns-in_err-put_rest-clause-written : goal.returns-in_err-put_rest-clause-written
unfolding check_text
returns-in_err-put_rest-clause-written g c =
    let n = c.args.netlist.now in
    let s = selected c.args.asked.selection in
    puts_as _ WriteFailed c.from_residual-in_err-put_rest.ensures.1 refl (puts_then c.in_ok-put_problems.ensures.written (puts_text (ap (rest_at s) c.new-end.ensures.netlist) c.in_err-put_rest.ensures))

pub returns-clause-written : goal.returns-clause-written
unfolding check_text
returns-clause-written g c =
    let s = selected c.args.asked.selection in
    puts_then c.in_ok-put_problems.ensures.written (puts_ok (puts_text (ap (rest_at s) c.new-end.ensures.netlist) c.in_ok-put_rest.ensures))
