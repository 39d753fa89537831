-- What is behind the first elements of a list.
use Rattle.std.proofs.Common.{◌≡◌, ℕ, ◌+◌, ◌-◌, ◌≤◌, List, drop, length, slice_index_or, ap, subst, ◌∙◌, arith}
use Rattle.std.specs.List.Sorted.{IsNonDecreasingBy}
use Rattle.std.proofs.lemmas.List.{get_or-drop, length-drop}

pub length_behind : {X : Type 0} (xs rest : List X) (first : ℕ) → rest ≡ drop first xs → length rest ≡ length xs - first
length_behind xs rest first is = ap length is ∙ length-drop first xs

pub behind : {X : Type 0} (P : X → Type 0) (xs rest : List X) (first k : ℕ) (d : X) → rest ≡ drop first xs → first ≤ k → P (slice_index_or rest (k - first) d) → P (slice_index_or xs k d)
behind P xs rest first k d is past holds =
    let same : first + (k - first) ≡ k = omega (arith, past) in
    subst P (ap (λ ys. slice_index_or ys (k - first) d) is ∙ get_or-drop first xs (k - first) d ∙ ap (λ j. slice_index_or xs j d) same) holds

pub drop_sorted : {X : Type 0} (n : X → ℕ) (xs : List X) (first : ℕ) → IsNonDecreasingBy n xs → IsNonDecreasingBy n (drop first xs)
drop_sorted n xs first up i j d le less =
    let long = length-drop first xs in
    let here = ap n (get_or-drop first xs i d) in
    let there = ap n (get_or-drop first xs j d) in
    let rise = up (first + i) (first + j) d (omega (arith, le)) (omega (arith, less, long)) in
    omega (arith, here, there, rise)
