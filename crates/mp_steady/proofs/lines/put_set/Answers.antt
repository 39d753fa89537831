use Rattle.std.proofs.Common.{refl, sym, ◌∙◌, arith}
use Rattle.mp_streams.proofs.OutLemmas.{puts_unmade}
use Rattle.mp_streams.specs.declared.write_error.WriteError.TheVariants.{OutOfMemory}
use Rattle.mp_steady.specs.WireSets.{numbers}
use Rattle.mp_steady.proofs.PeriodLemmas.{period_is}
use Rattle.mp_steady.proofs.lines.put_set.Goals as goal

pub returns-in_err-units-clause-text : goal.returns-in_err-units-clause-text
returns-in_err-units-clause-text g c = puts_unmade _ OutOfMemory _ _ c.from_residual-in_err-units.ensures.1 refl

pub invariant_of-put_repeating-clause-some : goal.invariant_of-put_repeating-clause-some
invariant_of-put_repeating-clause-some g c = (period_is c.args.of.netlist.now (numbers c.args.wires.now) c.in-Some.units (sym c.in_ok-units.ensures ∙ c.in-Some.is)).0

pub invariant_of-put_repeating-clause-few : goal.invariant_of-put_repeating-clause-few
invariant_of-put_repeating-clause-few g c =
    let few = (period_is c.args.of.netlist.now (numbers c.args.wires.now) c.in-Some.units (sym c.in_ok-units.ensures ∙ c.in-Some.is)).1 in
    omega (arith, few, c.of-times.ensures.end)
