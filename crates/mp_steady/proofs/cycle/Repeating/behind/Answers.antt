use Rattle.std.proofs.Common.{◌≡◌, ◌<◌, Some, ap, sym, subst, ◌∙◌, arith}
use Rattle.mp_netlist.specs.Circuit.{Circuit, IsCircuit}
use Rattle.mp_questions.specs.causes.Causes.{cause_of, followed}
use Rattle.mp_steady.specs.Periods.{last_unit}
use Rattle.mp_steady.proofs.CycleLemmas.{IsWithin, followed_within, moved, moved_within, not_moved}
use Rattle.mp_steady.proofs.cycle.Repeating.behind.Goals as goal
use Rattle.mp_steady.proofs.cycle.Repeating.behind.Goals.{In-Some}

pub followed-requires-clause-form : goal.followed-requires-clause-form
followed-requires-clause-form c = subst IsCircuit (sym c.requires.tracer) c.horizon-horizon.ensures.form

pub followed-requires-clause-within : goal.followed-requires-clause-within
followed-requires-clause-within c = subst (λ (k : Circuit). c.args.change.time < k.horizon) (sym c.requires.tracer) c.requires.within

follows : (c : In-Some) → followed (cause_of c.args.self.set.of.netlist.now c.args.change) ≡ Some c.in-Some.found
follows c = sym (c.in-Some.ensures.value ∙ ap (λ k. followed (cause_of k c.args.change)) c.requires.tracer)

within : (c : In-Some) → IsWithin c.args.self.set.of.netlist.now c.in-Some.found
within c = followed_within c.args.self.set.of.netlist.now c.horizon-horizon.ensures.form c.args.change c.in-Some.found (record { from = c.requires.from; within = c.requires.within }) (follows c)

pub in_last-requires : goal.in_last-requires
in_last-requires c = let is = within (goal.at.in_last-requires c).In-Some in omega (arith, is.within)

pub returns-in-Some-clause-value : goal.returns-in-Some-clause-value
returns-in-Some-clause-value c =
    moved c.args.self.set.of.netlist.now c.args.self.units c.in_last.result c.args.change c.in-Some.found c.in_last.ensures (follows (goal.at.returns-in-Some-clause-value c).In-Some)

pub returns-in-Some-clause-within : goal.returns-in-Some-clause-within
returns-in-Some-clause-within c =
    let n = c.args.self.set.of.netlist.now in
    let is = within (goal.at.returns-in-Some-clause-within c).In-Some in
    let low = c.horizon-horizon.ensures.low in
    let end = c.horizon-horizon.ensures.value in
    let time = moved_within (last_unit n) c.args.self.units c.in-Some.found.time c.in_last.result c.args.self.some is.from (omega (arith, is.within)) c.in_last.ensures in
    (time.0, omega (arith, time.1, low, end))

pub returns-in-None-clause-value : goal.returns-in-None-clause-value
returns-in-None-clause-value c =
    not_moved c.args.self.set.of.netlist.now c.args.self.units c.args.change (sym (c.in-None.ensures.value ∙ ap (λ k. followed (cause_of k c.args.change)) c.requires.tracer))
