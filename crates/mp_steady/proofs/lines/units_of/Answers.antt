use Rattle.std.proofs.Common.{◌-◌, ap, sym, arith}
use Rattle.mp_questions.specs.causes.Shares.{time_of}
use Rattle.mp_questions.proofs.lemmas.causes.ChainLemmas.{followed_time}
use Rattle.std.proofs.Common.{Some}
use Rattle.mp_steady.proofs.lines.units_of.Goals as goal

pub overflow_sub-result : goal.overflow_sub-result
overflow_sub-result c =
    let early = followed_time c.args.tracer.now.levels.netlist.now c.requires.form c.args.change c.requires.from (Some c.in-Some.found) (sym c.in-Some.ensures.value) in
    omega (arith, early.1)

pub returns-in-Some-clause-value : goal.returns-in-Some-clause-value
returns-in-Some-clause-value c = ap (λ o. c.args.change.time - time_of o) c.in-Some.ensures.value

pub returns-in-None-clause-value : goal.returns-in-None-clause-value
returns-in-None-clause-value c = let is = ap (λ o. c.args.change.time - time_of o) c.in-None.ensures.value in omega (arith, is)
