-- Toggles as they are listed.
use Rattle.std.proofs.Common.{◌≡◌, ℕ, zero, suc, ◌+◌, ◌-◌, ◌<◌, ◌≤◌, Bool, true, false, List, [], ◌∷◌, ◌++◌, append_assoc, append-nil, length, take, drop, slice_index_or, refl, ap, sym, ◌∙◌, subst, arith}
use Rattle.std.proofs.lemmas.Grind.{common_steps}
use Rattle.std.proofs.lemmas.List.{drop_more, drop_all}
use Rattle.std.specs.List.{AllWithin}
use Rattle.std.specs.List.Sorted.{IsNonDecreasingBy, IsPartitionPoint}
use Rattle.mp_wave.specs.ToggleWaves.{toggle_changes, level_after}

-- two toggles leave a level of 0 or 1
pub even : (level half : ℕ) → level ≤ 1 → level_after level (half + half) ≡ level
even level zero low = refl
even level (suc half) low =
    let more : suc half + suc half ≡ suc (suc (half + half)) = omega arith in
    let back : 1 - (1 - level) ≡ level = omega arith in
    ap (level_after level) more ∙ ap (λ v. level_after v (half + half)) back ∙ even level half low

pub odd : (level half : ℕ) → level ≤ 1 → level_after level (suc (half + half)) ≡ 1 - level
odd level half low = even (1 - level) half (omega arith)

-- there are as many changes as times
pub length_toggles : (level : ℕ) (times : List ℕ) → length (toggle_changes level times) ≡ length times
length_toggles level [] = refl
length_toggles level (t ∷ times) = ap suc (length_toggles (1 - level) times)

-- a change has its time
pub time_of_toggle : (level k : ℕ) (d : ℕ × ℕ) (times : List ℕ) → (slice_index_or (toggle_changes level times) k d).0 ≡ slice_index_or times k d.0
time_of_toggle level k d [] = refl
time_of_toggle level zero d (t ∷ times) = refl
time_of_toggle level (suc k) d (t ∷ times) = time_of_toggle (1 - level) k d times

-- and the level after the toggles up to it
pub level_of_toggle : (level k : ℕ) (d : ℕ × ℕ) (times : List ℕ) → k < length times → (slice_index_or (toggle_changes level times) k d).1 ≡ level_after (1 - level) k
level_of_toggle level k d [] lt = absurd (omega arith)
level_of_toggle level zero d (t ∷ times) lt = refl
level_of_toggle level (suc k) d (t ∷ times) lt = level_of_toggle (1 - level) k d times (omega arith)

-- the changes from a place on are toggles
pub drop_toggles : (k level : ℕ) (times : List ℕ) → drop k (toggle_changes level times) ≡ toggle_changes (level_after level k) (drop k times)
drop_toggles zero level times = refl
drop_toggles (suc k) level [] = refl
drop_toggles (suc k) level (t ∷ times) = drop_toggles k (1 - level) times

-- and those before it
pub take_toggles : (k level : ℕ) (times : List ℕ) → take k (toggle_changes level times) ≡ toggle_changes level (take k times)
take_toggles zero level times = refl
take_toggles (suc k) level [] = refl
take_toggles (suc k) level (t ∷ times) = ap (λ (rest : List (ℕ × ℕ)). (t, 1 - level) ∷ rest) (take_toggles k (1 - level) times)

-- what holds of times holds of the times of changes
pub within_toggles : (P : ℕ → Type 0) (level low high : ℕ) (times : List ℕ) → AllWithin P times low high → AllWithin (λ (c : ℕ × ℕ). P c.0) (toggle_changes level times) low high
within_toggles P level low high times all k d from upto = subst P (sym (time_of_toggle level k d times)) (all k d.0 from upto)

-- changes that rise have times that do
pub times_rise : (level : ℕ) (times : List ℕ) → IsNonDecreasingBy (λ (c : ℕ × ℕ). c.0) (toggle_changes level times) → IsNonDecreasingBy (λ (t : ℕ). t) times
times_rise level times rises i j d le lt =
    let one : (slice_index_or (toggle_changes level times) i (d, 0)).0 ≡ slice_index_or times i d = time_of_toggle level i (d, 0) times in
    let other : (slice_index_or (toggle_changes level times) j (d, 0)).0 ≡ slice_index_or times j d = time_of_toggle level j (d, 0) times in
    let long = length_toggles level times in
    let rise = rises i j (d, 0) le (omega (arith, lt, long)) in
    omega (arith, one, other, rise)

-- where times are parted by a test of them, so are changes
pub parted_toggles : (test : ℕ → Bool) (level count : ℕ) (times : List ℕ) → IsPartitionPoint (λ (t : ℕ). test t ≡ true) (λ (t : ℕ). test t ≡ false) times count
    → IsPartitionPoint (λ (c : ℕ × ℕ). test c.0 ≡ true) (λ (c : ℕ × ℕ). test c.0 ≡ false) (toggle_changes level times) count
parted_toggles test level count times point = (
  within_toggles (λ (t : ℕ). test t ≡ true) level 0 count times point.0,
  subst (λ (n : ℕ). AllWithin (λ (c : ℕ × ℕ). test c.0 ≡ false) (toggle_changes level times) count n) (sym (length_toggles level times))
      (within_toggles (λ (t : ℕ). test t ≡ false) level count (length times) times point.1),
)

-- toggles that are listed one more time on
pub pairs_next : (level present next i : ℕ) (times : List ℕ) (pairs new : List (ℕ × ℕ)) → i < length times → next ≡ 1 - present → new ≡ pairs ++ (slice_index_or times i 0, next) ∷ []
    → pairs ++ toggle_changes present (drop i times) ≡ toggle_changes level times → new ++ toggle_changes next (drop (i + 1) times) ≡ toggle_changes level times
pairs_next level present next i times pairs new within turned longer before =
    ap (λ xs. xs ++ toggle_changes next (drop (i + 1) times)) longer
    ∙ append_assoc pairs ((slice_index_or times i 0, next) ∷ []) (toggle_changes next (drop (i + 1) times))
    ∙ ap (λ (v : ℕ). pairs ++ ((slice_index_or times i 0, v) ∷ toggle_changes v (drop (i + 1) times))) turned
    ∙ sym (ap (λ (ts : List ℕ). pairs ++ toggle_changes present ts) (drop_more times i 0 within))
    ∙ before

pub pairs_over : (level present i : ℕ) (times : List ℕ) (pairs : List (ℕ × ℕ)) → length times ≤ i
    → pairs ++ toggle_changes present (drop i times) ≡ toggle_changes level times → pairs ≡ toggle_changes level times
pairs_over level present i times pairs over all =
    sym (append-nil pairs) ∙ sym (ap (λ (ts : List ℕ). pairs ++ toggle_changes present ts) (drop_all i times over)) ∙ all

-- a part of a list from its front is as long as it says
pub length_front : {X : Type 0} (n : ℕ) (xs : List X) → n ≤ length xs → n ≡ length (take n xs)
length_front zero xs le = refl
length_front (suc n) [] le = absurd (let no : ⊥ = omega (arith, le) in no)
length_front (suc n) (x ∷ xs) le = let rest = length_front n xs (omega (arith, le)) in omega (arith, rest)

-- a part up to the end is what is left
pub take_rest : (place : ℕ) (times : List ℕ) → take (length times - place) (drop place times) ≡ drop place times
take_rest place times = grind (arith, common_steps)
