use Rattle.std.proofs.Common.{◌≡◌, ℕ, ◌+◌, ◌-◌, List, sym, subst, ◌∙◌, arith}
use Rattle.mp_simulation.specs.bits.Simulators.{CanApply}
use Rattle.mp_simulation.specs.bits.Simulations.{copy_slot}
use Rattle.mp_simulation.specs.bits.WholeRuns.{AreSet}
use Rattle.mp_simulation.specs.run.Stimuli.{rest_of, AreAhead, AreFrom}
use Rattle.mp_simulation.specs.run.Evaluations.{IsEvaluated}
use Rattle.mp_simulation.proofs.lemmas.run.NarrowLemmas.{all_bits}
use Rattle.mp_simulation.proofs.lemmas.run.RestLemmas.{idled}
use Rattle.mp_simulation.proofs.lemmas.run.RunLemmas.{fit, passed}
use Rattle.mp_simulation.proofs.run.waves_run.run_bits.Goals as goal

pub pass_unit-requires-clause-fit : goal.pass_unit-requires-clause-fit
pass_unit-requires-clause-fit c =
    let n = c.args.netlist.now in
    let s = c.loop-time.simulation in
    let t = c.loop-time.time - 1 in
    let ok = c.horizon-horizon.ensures.form in
    let some = c.loop-time.invariant.some in
    let now : c.loop-time.time ≡ c.loop-time.time - 1 + 1 = omega arith in
    let is = c.loop-time.invariant.evaluated in
    let begun = c.in_ok-advance.ensures.ahead n t ok now c.loop-time.invariant.ahead in
    let sets = subst (λ (xs : List ℕ). AreSet n is.scope xs (t + 1)) (sym c.bits.ensures) (begun.present.bits is.scope (λ w. is.traces w ∙ sym (all_bits n c.requires.narrow w))) in
    subst (λ k. CanApply s.simulator c.bits.result.now (copy_slot s.copies 0) k) (sym now) (fit n ok t s c.bits.result.now is sets)

pub unit_after-time-requires-clause-ahead : goal.unit_after-time-requires-clause-ahead
unit_after-time-requires-clause-ahead c =
    let n = c.args.netlist.now in
    let t = c.loop-time.time - 1 in
    let some = c.loop-time.invariant.some in
    let now : c.loop-time.time ≡ c.loop-time.time - 1 + 1 = omega arith in
    let begun = c.in_ok-advance.ensures.ahead n t c.horizon-horizon.ensures.form now c.loop-time.invariant.ahead in
    subst (λ k. AreFrom (k + 1) (rest_of c.advance.new.self)) (sym now) begun.ahead.listed

pub loop-time-preserved : goal.loop-time-preserved
loop-time-preserved c =
    let n = c.args.netlist.now in
    let s = c.loop-time.simulation in
    let t = c.loop-time.time - 1 in
    let ok = c.horizon-horizon.ensures.form in
    let some = c.loop-time.invariant.some in
    let now : c.loop-time.time ≡ c.loop-time.time - 1 + 1 = omega arith in
    let is = c.loop-time.invariant.evaluated in
    let begun = c.in_ok-advance.ensures.ahead n t ok now c.loop-time.invariant.ahead in
    let sets = subst (λ (xs : List ℕ). AreSet n is.scope xs (t + 1)) (sym c.bits.ensures) (begun.present.bits is.scope (λ w. is.traces w ∙ sym (all_bits n c.requires.narrow w))) in
    let over = passed n ok t s c.bits.result.now is sets c.pass_unit.new.self c.in_ok-pass_unit.ensures.sound c.in_ok-pass_unit.ensures.waves
    (λ scope before whole are_set running. c.in_ok-pass_unit.ensures.passed n scope before t ok now whole are_set running) in
    let rest = rest_of c.advance.new.self in
    let at : IsEvaluated n c.loop-time.time c.pass_unit.new.self = subst (λ k. IsEvaluated n k c.pass_unit.new.self) (sym now) over in
    let ahead : AreAhead n c.loop-time.time rest = subst (λ k. AreAhead n k rest) (sym now) begun.ahead in
    let later = c.unit_after-time.ensures.later in
    let all = idled n ok c.requires.narrow rest c.pass_unit.new.self c.loop-time.time c.unit_after-time.result later (λ beyond. c.is_seen_idle-rests.ensures (c.unit_after-time.ensures.rests beyond)) at ahead c.unit_after-time.ensures.ahead in
    record {
      some = omega arith;
      most = c.unit_after-time.ensures.most;
      evaluated = all.0;
      ahead = all.1;
    }
