use Rattle.std.proofs.Common.{◌≡◌, ◌≢◌, ℕ, zero, suc, ◌<◌, ◌≤◌, false, true, List, [], ◌∷◌, All, ap, sym, subst, arith, rules}
use Rattle.std.specs.Prelude.{◌==◌}
use Rattle.std.specs.List.{AllPairs, Contains, dedup, dedup_from}
use Rattle.std.proofs.lemmas.Bool.{both_ways, cond_both, eq-eqb, eqb-true}
use Rattle.std.proofs.lemmas.Cmp.{on_equiv, nat_eq_equiv}
use Rattle.std.proofs.lemmas.List.Elements.{All-cons, All-head, All-tail}
use Rattle.std.proofs.lemmas.List.Filters.{All-dedup, dedup_is}
use Rattle.std.proofs.lemmas.List.Kept.{AllPairs-cons, Contains-dedup, Contains-from_dedup}
use Rattle.std.proofs.lemmas.List.Sorted.{Contains-permutation, IsNonDecreasingBy-from_sort_by_key, IsPermutation-sym}
use Rattle.std.specs.List.Sorted.{IsNonDecreasingBy}
use Rattle.mp_records.specs.declared.ids.ModuleId.{ModuleId}
use Rattle.mp_redo.specs.rerun.Joining.{AreByNumber}
use Rattle.mp_redo.proofs.rerun.joining.list_once.Goals as goal

same_id : (x y : ModuleId) → (x.0 == y.0) ≡ true → x ≡ y
same_id x y same = ap (λ (k : ℕ). (let id : ModuleId = record { 0 = k } in id)) (eqb-true x.0 y.0 same)

other_number : (a b : ℕ) → (a == b) ≡ false → a ≢ b
other_number a b other same = both_ways (a == b) other (eq-eqb a b same)

-- what is left of numbers that don't fall is listed once, from the number k on
once_from : (xs : List ModuleId) (k : ModuleId) → All (λ (y : ModuleId). k.0 ≤ y.0) xs → AllPairs (λ (a b : ModuleId). a.0 ≤ b.0) xs → AreByNumber (dedup_from (λ (a b : ModuleId). a.0 == b.0) k xs)
once_from [] k above up = λ i j d below inside. (let no : ⊥ = omega (arith, below, inside) in absurd no)
once_from (x ∷ xs) k above up =
    let low : k.0 ≤ x.0 = All-head (λ (y : ModuleId). k.0 ≤ y.0) x xs above in
    let rest : AllPairs (λ (a b : ModuleId). a.0 ≤ b.0) xs = λ i j d below inside. up (suc i) (suc j) d (omega (arith, below)) (omega (arith, inside)) in
    let from_x : All (λ (y : ModuleId). x.0 ≤ y.0) xs = λ j d inside. up zero (suc j) d (omega arith) (omega (arith, inside)) in
    cond_both (x.0 == k.0) (dedup_from (λ (a b : ModuleId). a.0 == b.0) k xs) (k ∷ dedup_from (λ (a b : ModuleId). a.0 == b.0) x xs) AreByNumber
    (λ _. once_from xs k (All-tail (λ (y : ModuleId). k.0 ≤ y.0) x xs above) rest)
    (λ other.
    let differ = other_number x.0 k.0 other in
    let first : k.0 < x.0 = omega (arith, low, differ) in
    let all : All (λ (y : ModuleId). k.0 < y.0) (x ∷ xs) = All-cons (λ (y : ModuleId). k.0 < y.0) x xs first (λ j d inside. let far = from_x j d inside in omega (arith, far, first)) in
    AllPairs-cons (λ (a b : ModuleId). a.0 < b.0) k (dedup_from (λ (a b : ModuleId). a.0 == b.0) x xs)
    (All-dedup (λ (a b : ModuleId). a.0 == b.0) (λ (y : ModuleId). k.0 < y.0) (x ∷ xs) all) (once_from xs x from_x rest))

once_in : (xs : List ModuleId) → IsNonDecreasingBy (λ (id : ModuleId). id.0) xs → AreByNumber (dedup (λ (a b : ModuleId). a.0 == b.0) xs)
once_in [] up = λ i j d below inside. (let no : ⊥ = omega (arith, below, inside) in absurd no)
once_in (x ∷ xs) up =
    once_from xs x (λ j d inside. up zero (suc j) d (omega arith) (omega (arith, inside)))
    (λ i j d below inside. up (suc i) (suc j) d (omega (arith, below)) (omega (arith, inside)))

pub returns-clause-same : goal.returns-clause-same
returns-clause-same c id =
    let is = dedup_is _ _ _ c.dedup.ensures.filtered in
    let moved = c.sort_unstable_by_key.ensures.permutation in (
      λ there. Contains-permutation _ _ id (IsPermutation-sym _ _ moved) (Contains-from_dedup _ _ id (subst (λ (xs : List ModuleId). Contains xs id) is there)),
      λ has. subst (λ (xs : List ModuleId). Contains xs id) (sym is)
          (Contains-dedup (on_equiv (λ (x : ModuleId). x.0) nat_eq_equiv) same_id _ id (Contains-permutation _ _ id moved has)),
    )

pub returns-clause-once : goal.returns-clause-once
returns-clause-once c =
    let is = dedup_is (λ (a b : ModuleId). a.0 == b.0) _ _ c.dedup.ensures.filtered in
    let up = IsNonDecreasingBy-from_sort_by_key (λ (id : ModuleId). id.0) _ c.sort_unstable_by_key.ensures.sorted (λ a r q k. search rules) in
    subst AreByNumber (sym is) (once_in _ up)
