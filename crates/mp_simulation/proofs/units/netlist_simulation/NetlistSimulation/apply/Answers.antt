use Rattle.std.proofs.Common.{◌≡◌, ◌==◌, ℕ, ◌+◌, ◌∷◌, ◌∙◌, [], true, List, length, refl, sym, subst, arith}
use Rattle.std.proofs.lemmas.Bool.{eqb-true}
use Rattle.mp_kernel.specs.declared.datapath.level_change.LevelChange.{LevelChange}
use Rattle.mp_simulation.specs.units.NetlistSimulations.{AreStimuli}
use Rattle.mp_simulation.proofs.units.netlist_simulation.NetlistSimulation.apply.Goals as goal

none_when : {A : Type 0} (xs : List A) → (length xs == 0) ≡ true → xs ≡ []
none_when [] is = refl
none_when (x ∷ xs) is = let same = eqb-true (length (x ∷ xs)) 0 is in absurd (omega arith)

pub returns-then-is_still-clause-applied : goal.returns-then-is_still-clause-applied
returns-then-is_still-clause-applied c n t ok now is sets =
    let one : c.args.set.now ≡ [] = none_when c.args.set.now (sym c.is_empty.ensures ∙ c.if-is_empty.true) in
    let two : c.args.levels.now ≡ [] = none_when c.args.levels.now (sym c.is_empty-then-is_empty.ensures ∙ c.if-is_empty-2.true) in
    c.skip_unit.ensures.applied n t ok is
    (subst (λ (xs : List ℕ). AreStimuli n xs [] (t + 1)) one
    (subst (λ (cs : List LevelChange). AreStimuli n c.args.set.now cs (t + 1)) two (subst (λ k. AreStimuli n c.args.set.now c.args.levels.now k) now sets)))

pub returns-then-is_still-clause-numbers : goal.returns-then-is_still-clause-numbers
returns-then-is_still-clause-numbers c = c.skip_unit.ensures.numbers
