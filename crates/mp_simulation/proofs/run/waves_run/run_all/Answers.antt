use Rattle.std.proofs.Common.{◌≡◌, ℕ, ◌+◌, ◌-◌, List, sym, subst, arith}
use Rattle.mp_kernel.specs.declared.datapath.level_change.LevelChange.{LevelChange}
use Rattle.mp_simulation.specs.units.NetlistSimulations.{IsSimulated, AreStimuli}
use Rattle.mp_simulation.specs.run.Stimuli.{rest_of, AreAhead, AreFrom}
use Rattle.mp_simulation.proofs.lemmas.run.RestLemmas.{rested}
use Rattle.mp_simulation.proofs.run.waves_run.run_all.Goals as goal

pub pass_unit-requires-clause-fit : goal.pass_unit-requires-clause-fit
pass_unit-requires-clause-fit c =
    let n = c.args.netlist.now in
    let t = c.loop-time.time - 1 in
    let ok = c.horizon-horizon.ensures.form in
    let some = c.loop-time.invariant.some in
    let now : c.loop-time.time ≡ c.loop-time.time - 1 + 1 = omega arith in
    let begun = c.in_ok-advance.ensures.ahead n t ok now c.loop-time.invariant.ahead in
    let set = subst (λ (xs : List ℕ). AreStimuli n xs c.levels.result.now (t + 1)) (sym c.bits.ensures)
    (subst (λ (xs : List LevelChange). AreStimuli n c.advance.new.self.bits.items xs (t + 1)) (sym c.levels.ensures) begun.present) in
    record {
      n = n;
      ok = ok;
      t = t;
      now = now;
      is = c.loop-time.invariant.simulated;
      stimuli = subst (λ k. AreStimuli n c.bits.result.now c.levels.result.now k) (sym now) set;
    }

pub unit_after-time-requires-clause-ahead : goal.unit_after-time-requires-clause-ahead
unit_after-time-requires-clause-ahead c =
    let n = c.args.netlist.now in
    let t = c.loop-time.time - 1 in
    let some = c.loop-time.invariant.some in
    let now : c.loop-time.time ≡ c.loop-time.time - 1 + 1 = omega arith in
    let begun = c.in_ok-advance.ensures.ahead n t c.horizon-horizon.ensures.form now c.loop-time.invariant.ahead in
    subst (λ k. AreFrom (k + 1) (rest_of c.advance.new.self)) (sym now) begun.ahead.listed

pub loop-time-preserved : goal.loop-time-preserved
loop-time-preserved c =
    let n = c.args.netlist.now in
    let t = c.loop-time.time - 1 in
    let ok = c.horizon-horizon.ensures.form in
    let some = c.loop-time.invariant.some in
    let now : c.loop-time.time ≡ c.loop-time.time - 1 + 1 = omega arith in
    let begun = c.in_ok-advance.ensures.ahead n t ok now c.loop-time.invariant.ahead in
    let set = subst (λ (xs : List ℕ). AreStimuli n xs c.levels.result.now (t + 1)) (sym c.bits.ensures)
    (subst (λ (xs : List LevelChange). AreStimuli n c.advance.new.self.bits.items xs (t + 1)) (sym c.levels.ensures) begun.present) in
    let over = c.in_ok-pass_unit.ensures n t ok now c.loop-time.invariant.simulated (subst (λ k. AreStimuli n c.bits.result.now c.levels.result.now k) (sym now) set) in
    let rest = rest_of c.advance.new.self in
    let at : IsSimulated n c.loop-time.time c.pass_unit.new.self = subst (λ k. IsSimulated n k c.pass_unit.new.self) (sym now) over in
    let ahead : AreAhead n c.loop-time.time rest = subst (λ k. AreAhead n k rest) (sym now) begun.ahead in
    let later = c.unit_after-time.ensures.later in
    let all = rested n ok rest c.pass_unit.new.self c.loop-time.time c.unit_after-time.result later (λ beyond. c.is_seen_at_rest-rests.ensures (c.unit_after-time.ensures.rests beyond)) at ahead c.unit_after-time.ensures.ahead in
    record {
      some = omega arith;
      most = c.unit_after-time.ensures.most;
      simulated = all.0;
      ahead = all.1;
    }
