use Rattle.std.proofs.Common.{ℕ, List, sym, subst}
use Rattle.mp_kernel.specs.declared.datapath.level_change.LevelChange.{LevelChange}
use Rattle.mp_simulation.specs.units.NetlistSimulations.{AreStimuli, CanPass}
use Rattle.mp_redo.proofs.lemmas.rerun.KeptLemmas.{kept_then}
use Rattle.mp_redo.proofs.rerun.rerun.Rerun.run_unit.Goals as goal

pub apply-requires-clause-fit : goal.apply-requires-clause-fit
apply-requires-clause-fit c =
    let s = c.args.self.now in
    subst (λ (xs : List ℕ). CanPass xs c.as_slice-2.result.now c.args.time s.simulation) (sym c.as_slice.ensures.value)
    (subst (λ (cs : List LevelChange). CanPass s.set.bits.items cs c.args.time s.simulation) (sym c.as_slice-2.ensures.value) c.requires.fit)

pub fire-requires : goal.fire-requires
fire-requires c =
    let s = c.args.self.now in
    let fit = c.requires.fit in
    let stimuli = subst (λ (xs : List ℕ). AreStimuli fit.n xs c.as_slice-2.result.now c.args.time) (sym c.as_slice.ensures.value)
    (subst (λ (cs : List LevelChange). AreStimuli fit.n s.set.bits.items cs c.args.time) (sym c.as_slice-2.ensures.value) fit.stimuli) in
    record { n = fit.n; ok = fit.ok; t = fit.t; is = c.in_ok-apply.ensures.applied fit.n fit.t fit.ok fit.now fit.is stimuli }

pub returns-clause-numbers : goal.returns-clause-numbers
returns-clause-numbers c = kept_then c.args.self.now.simulation c.apply.new.self c.fire.new.self c.in_ok-apply.ensures.numbers c.in_ok-fire.ensures.numbers

pub returns-clause-simulated : goal.returns-clause-simulated
returns-clause-simulated c = λ n t ok now is sets.
    let s = c.args.self.now in
    let stimuli = subst (λ (xs : List ℕ). AreStimuli n xs c.as_slice-2.result.now c.args.time) (sym c.as_slice.ensures.value)
    (subst (λ (cs : List LevelChange). AreStimuli n s.set.bits.items cs c.args.time) (sym c.as_slice-2.ensures.value) sets) in
    c.in_ok-fire.ensures.fired n t ok (c.in_ok-apply.ensures.applied n t ok now is stimuli)
