-- Levels are set, one after the other.
use Rattle.std.proofs.Common.{◌≡◌, ◌≢◌, ℕ, ◌+◌, ◌-◌, ◌<◌, ◌≤◌, Bool, true, false, cond, List, [], ◌∷◌, ◌++◌, All, length, refl, sym, ap, ◌∙◌, arith, get_or-set_same, get_or-set_other}
use Rattle.std.specs.Prelude.{◌==◌, slice_index, slice_set}
use Rattle.std.proofs.lemmas.Bool.{eqb-true, eqb-false}
use Rattle.std.proofs.lemmas.List.{length-set}
use Rattle.std.proofs.lemmas.List.Elements.{All-head, All-tail}
use Rattle.std.proofs.lemmas.List.Sums.{sum_by-cons}
use Rattle.mp_modules.specs.automata.Codes.{bit}
use Rattle.mp_kernel.specs.events.Adding.{listed}
use Rattle.mp_kernel.specs.declared.datapath.level_change.LevelChange.{LevelChange}
use Rattle.mp_kernel.specs.datapath.Levels.{toggled, changed}
use Rattle.mp_simulation.specs.units.DataLevels.{changes_of}

one_set : (levels : List ℕ) (x v y : ℕ) (same : Bool) → (x == y) ≡ same → y < length levels → slice_index (slice_set levels x v) y ≡ cond same v (slice_index levels y)
one_set levels x v y true is within =
    ap (λ k. slice_index (slice_set levels k v) y) (eqb-true x y is) ∙ get_or-set_same levels y v 0 within
one_set levels x v y false is within =
    let differs : y ≢ x = λ e. eqb-false x y is (sym e) in
    get_or-set_other levels x y v 0 differs

listed_cons : (y x : ℕ) (xs : List ℕ) → listed y (x ∷ xs) ≡ bit (x == y) + listed y xs
listed_cons y x xs = sum_by-cons (λ d. cond (d == y) 1 0) x xs

toggled_step : (levels : List ℕ) (x : ℕ) (xs : List ℕ) (y : ℕ) (same : Bool) → (x == y) ≡ same → y < length levels → listed y (x ∷ xs) ≤ 1 →
    slice_index (toggled (slice_set levels x (1 - slice_index levels x)) xs) y ≡
    cond (listed y xs == 0) (slice_index (slice_set levels x (1 - slice_index levels x)) y) (1 - slice_index (slice_set levels x (1 - slice_index levels x)) y) →
    slice_index (toggled levels (x ∷ xs)) y ≡ cond (listed y (x ∷ xs) == 0) (slice_index levels y) (1 - slice_index levels y)
toggled_step levels x xs y true is within few rest =
    let sum = listed_cons y x xs in
    let own : bit (x == y) ≡ 1 = ap bit is in
    let none : listed y xs ≡ 0 = omega arith in
    let once : listed y (x ∷ xs) ≡ 1 = omega arith in
    rest
    ∙ ap (λ k. cond (k == 0) (slice_index (slice_set levels x (1 - slice_index levels x)) y) (1 - slice_index (slice_set levels x (1 - slice_index levels x)) y)) none
    ∙ one_set levels x (1 - slice_index levels x) y true is within
    ∙ ap (λ k. 1 - slice_index levels k) (eqb-true x y is)
    ∙ sym (ap (λ k. cond (k == 0) (slice_index levels y) (1 - slice_index levels y)) once)
toggled_step levels x xs y false is within few rest =
    let sum = listed_cons y x xs in
    let other : bit (x == y) ≡ 0 = ap bit is in
    let same : listed y (x ∷ xs) ≡ listed y xs = omega arith in
    rest
    ∙ ap (λ v. cond (listed y xs == 0) v (1 - v)) (one_set levels x (1 - slice_index levels x) y false is within)
    ∙ sym (ap (λ k. cond (k == 0) (slice_index levels y) (1 - slice_index levels y)) same)

-- a number that is listed at most once toggles where it is listed
pub toggled_at : (levels xs : List ℕ) (y : ℕ) → y < length levels → listed y xs ≤ 1 → slice_index (toggled levels xs) y ≡ cond (listed y xs == 0) (slice_index levels y) (1 - slice_index levels y)
toggled_at levels [] y within few = refl
toggled_at levels (x ∷ xs) y within few =
    let sum = listed_cons y x xs in
    let long = length-set levels x (1 - slice_index levels x) in
    toggled_step levels x xs y (x == y) refl within few (toggled_at (slice_set levels x (1 - slice_index levels x)) xs y (omega arith) (omega arith))

pub toggled_both : (levels xs ys : List ℕ) → toggled (toggled levels xs) ys ≡ toggled levels (xs ++ ys)
toggled_both levels [] ys = refl
toggled_both levels (x ∷ xs) ys = toggled_both (slice_set levels x (1 - slice_index levels x)) xs ys

pub toggled_length : (levels xs : List ℕ) → length (toggled levels xs) ≡ length levels
toggled_length levels [] = refl
toggled_length levels (x ∷ xs) = toggled_length (slice_set levels x (1 - slice_index levels x)) xs ∙ length-set levels x (1 - slice_index levels x)

changes_cons : (y : ℕ) (c : LevelChange) (cs : List LevelChange) → changes_of y (c ∷ cs) ≡ bit (c.number == y) + changes_of y cs
changes_cons y c cs = sum_by-cons (λ (d : LevelChange). cond (d.number == y) 1 0) c cs

changed_step : (want : ℕ → ℕ) (levels : List ℕ) (c : LevelChange) (cs : List LevelChange) (y : ℕ) (same : Bool) → (c.number == y) ≡ same → y < length levels →
    c.level ≡ want c.number → (changes_of y (c ∷ cs) ≡ 0 → slice_index levels y ≡ want y) → changes_of y cs ≡ 0 → slice_index (slice_set levels c.number c.level) y ≡ want y
changed_step want levels c cs y true is within right was none = one_set levels c.number c.level y true is within ∙ right ∙ ap want (eqb-true c.number y is)
changed_step want levels c cs y false is within right was none =
    let sum = changes_cons y c cs in
    let other : bit (c.number == y) ≡ 0 = ap bit is in
    one_set levels c.number c.level y false is within ∙ was (omega arith)

-- a number has a wanted level after changes, where each change has it, and the number had it before if no change is of it
pub changed_at : (want : ℕ → ℕ) (levels : List ℕ) (cs : List LevelChange) (y : ℕ) → y < length levels → All (λ (c : LevelChange). c.level ≡ want c.number) cs →
    (changes_of y cs ≡ 0 → slice_index levels y ≡ want y) → slice_index (changed levels cs) y ≡ want y
changed_at want levels [] y within right was = was refl
changed_at want levels (c ∷ cs) y within right was =
    let long = length-set levels c.number c.level in
    changed_at want (slice_set levels c.number c.level) cs y (omega arith) (All-tail (λ (c : LevelChange). c.level ≡ want c.number) c cs right)
    (changed_step want levels c cs y (c.number == y) refl within (All-head (λ (c : LevelChange). c.level ≡ want c.number) c cs right) was)

pub changed_length : (levels : List ℕ) (cs : List LevelChange) → length (changed levels cs) ≡ length levels
changed_length levels [] = refl
changed_length levels (c ∷ cs) = changed_length (slice_set levels c.number c.level) cs ∙ length-set levels c.number c.level
