use Rattle.std.proofs.Common.{◌≡◌, ℕ, ◌++◌, [], List, take, ◌-◌, ap, Option, Some, None, refl, subst, ◌∙◌}
use Rattle.std.specs.Prelude.{MatchOption}
use Rattle.std.specs.Option.{option_to_list}
use Rattle.mp_holding.specs.sets.Elimination.{IsGood, everywhere}
use Rattle.mp_holding.proofs.lemmas.sets.LeftLemmas.{taken_good, taken_low, good_is_greatest}
use Rattle.mp_holding.proofs.sets.elimination.greatest_closed_set.Goals as goal

pub look_at_readers-requires-clause-number : goal.look_at_readers-requires-clause-number
look_at_readers-requires-clause-number c =
    let shape = c.args.shape in
    let needs = c.args.needs.now in
    let marks = c.loop-number.left.marks.items in
    let rest = c.pop.new.self.items in
    taken_low shape needs c.in-Some.number marks rest (subst (λ (l : List ℕ). IsGood shape needs everywhere marks l) c.in-Some.ensures.items c.loop-number.invariant)

pub look_at_readers-requires-clause-good : goal.look_at_readers-requires-clause-good
look_at_readers-requires-clause-good c =
    let shape = c.args.shape in
    let needs = c.args.needs.now in
    let marks = c.loop-number.left.marks.items in
    let rest = c.pop.new.self.items in
    taken_good shape needs c.in-Some.number marks rest (subst (λ (l : List ℕ). IsGood shape needs everywhere marks l) c.in-Some.ensures.items c.loop-number.invariant)

none_taken : (o : Option ℕ) (P : Type 0) (Q : ℕ → Type 0) → ((x : ℕ) → o ≡ Some x → ⊥) → MatchOption o P Q → P
none_taken None P Q other is = is
none_taken (Some x) P Q other is = absurd (other x refl)

nothing_left : (o : Option ℕ) (before rest : List ℕ) → ((x : ℕ) → o ≡ Some x → ⊥) → before ≡ rest ++ option_to_list o → rest ≡ [] → before ≡ []
nothing_left None before rest other is none = is ∙ ap (λ l. l ++ []) none
nothing_left (Some x) before rest other is none = absurd (other x refl)

pub returns-clause-members : goal.returns-clause-members
returns-clause-members c =
    let other = c.in_default.not-Some in
    let none = none_taken c.pop.result _ _ other c.pop.ensures.cases in
    let rest : c.pop.new.self.items ≡ [] = c.pop.ensures.rest ∙ ap (λ n. take (n - 1) c.loop-number.left.gone.items) none.0 in
    let empty = nothing_left c.pop.result c.loop-number.left.gone.items c.pop.new.self.items other c.pop.ensures.items rest in
    good_is_greatest c.args.shape c.args.needs.now c.loop-number.left.marks.items c.loop-number.left.gone.items empty c.loop-number.invariant
