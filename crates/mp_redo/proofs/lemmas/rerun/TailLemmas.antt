-- The changes of one wire among changes to come, and those of the others.
use Rattle.std.proofs.Common.{◌≡◌, ℕ, ◌+◌, ◌-◌, ◌<◌, ◌≤◌, Bool, true, false, not, cond, List, [], ◌∷◌, ◌++◌, All, length, drop, zero, suc, refl, ap, sym, subst, ◌∙◌, arith, inl, inr}
use Rattle.std.specs.Prelude.{◌==◌, ◌&&◌, ◌||◌, slice_index_or}
use Rattle.std.specs.List.{count_by}
use Rattle.std.proofs.lemmas.Bool.{cases_Bool, eqb-true, eqb-false, eq-eqb, ne_eqb}
use Rattle.std.proofs.lemmas.List.Elements.{All-nil, All-cons, All-head, All-tail}
use Rattle.std.proofs.lemmas.List.{length-drop, get_or-drop}
use Rattle.std.proofs.lemmas.List.Sums.{sum_by-cons}
use Rattle.mp_netlist.specs.Circuit.{Circuit}
use Rattle.mp_model.specs.Waves.{level}
use Rattle.mp_modules.specs.automata.Codes.{bit}
use Rattle.mp_kernel.specs.declared.datapath.level_change.LevelChange.{LevelChange}
use Rattle.mp_simulation.specs.declared.run.stimuli.StimulusChange.{StimulusChange}
use Rattle.mp_simulation.specs.run.Stimuli.{AreFrom, is_change}
use Rattle.mp_active.specs.steps.Putting.{entry_of, entries_of, toggles_of}
use Rattle.mp_active.specs.steps.Ahead.{is_entry_of, IsEntryOf}
use Rattle.mp_redo.specs.rerun.Returning.{IsTailIn, AreTailsIn, tail_of, others_of}

-- ---- how often what passes a test is among some
pub counted_cons : {A : Type 0} (p : A → Bool) (x : A) (xs : List A) → count_by p (x ∷ xs) ≡ bit (p x) + count_by p xs
counted_cons {A = A} p x xs = sum_by-cons (λ (y : A). cond (p y) 1 0) x xs

counted_unless : {A : Type 0} (p : A → Bool) (b : Bool) (x : A) (xs : List A) → count_by p (cond b xs (x ∷ xs)) ≡ cond b (count_by p xs) (bit (p x) + count_by p xs)
counted_unless p true x xs = refl
counted_unless p false x xs = counted_cons p x xs

pub counted_there : {A : Type 0} (p : A → Bool) (xs : List A) (k : ℕ) (d : A) → k < length xs → p (slice_index_or xs k d) ≡ true → 0 < count_by p xs
counted_there p [] k d low is = absurd (omega arith)
counted_there p (x ∷ xs) zero d low is = let e = counted_cons p x xs in let one : bit (p x) ≡ 1 = ap bit is in omega (arith, e, one)
counted_there p (x ∷ xs) (suc k) d low is = let e = counted_cons p x xs in let more = counted_there p xs k d (omega (arith, low)) is in omega (arith, e, more)

pub some_bit : (b : Bool) → 0 < bit b → b ≡ true
some_bit true some = refl
some_bit false some = absurd (omega (arith, some))

pub both_bit : (b c : Bool) → cond b (bit c) 0 ≡ bit (b && c)
both_bit true c = refl
both_bit false c = refl

-- what is to come of a wire, unless it is here or was before
pub gone : (b here : Bool) (c tail : Bool) → cond here 0 (bit (c && (tail && not b))) ≡ bit (c && (tail && not (b || here)))
gone true true true true = refl
gone true true true false = refl
gone true true false tail = refl
gone true false true true = refl
gone true false true false = refl
gone true false false tail = refl
gone false true true true = refl
gone false true true false = refl
gone false true false tail = refl
gone false false c tail = refl

-- ---- the times of changes in order
pub from_each : (a : ℕ) (ss : List StimulusChange) → AreFrom a ss → All (λ (s : StimulusChange). a ≤ s.time) ss
from_each a [] are = All-nil (λ (s : StimulusChange). a ≤ s.time)
from_each a (s ∷ ss) are =
    All-cons (λ (s : StimulusChange). a ≤ s.time) s ss are.0
    (λ k d low. let le = are.0 in let more = from_each s.time ss are.1 k d low in omega (arith, le, more))

-- ---- those of other wires
others_step : (bw bv : Bool) (here rest kept : ℕ) → kept ≡ cond bv 0 rest → (bw ≡ true → bv ≡ false → here ≡ 0) → (bw ≡ false → bv ≡ true → here ≡ 0) →
    cond bw kept (here + kept) ≡ cond bv 0 (here + rest)
others_step true true here rest kept is one other = is
others_step true false here rest kept is one other = let none = one refl refl in omega (arith, is, none)
others_step false true here rest kept is one other = let none = other refl refl in omega (arith, is, none)
others_step false false here rest kept is one other = omega (arith, is)

no_change : (v u : ℕ) (s : StimulusChange) → (s.wire ≡ v → ⊥) → bit (is_change v u s) ≡ 0
no_change v u s other = ap (λ b. bit (b && (s.time == u))) (ne_eqb s.wire v other)

none_if : (b : Bool) → ◌≡◌ {A = ℕ} 0 (cond b 0 0)
none_if true = refl
none_if false = refl

pub count_others : (w v u : ℕ) (ss : List StimulusChange) → count_by (is_change v u) (others_of w ss) ≡ cond (v == w) 0 (count_by (is_change v u) ss)
count_others w v u [] = none_if (v == w)
count_others w v u (s ∷ ss) =
    counted_unless (is_change v u) (s.wire == w) s (others_of w ss)
    ∙ others_step (s.wire == w) (v == w) (bit (is_change v u s)) (count_by (is_change v u) ss) (count_by (is_change v u) (others_of w ss)) (count_others w v u ss)
    (λ here else. no_change v u s (λ e. eqb-false v w else (sym e ∙ eqb-true s.wire w here)))
    (λ else here. no_change v u s (λ e. eqb-false s.wire w else (e ∙ eqb-true v w here)))
    ∙ ap (λ k. cond (v == w) 0 k) (sym (counted_cons (is_change v u) s ss))

from_less : (a b : ℕ) (ss : List StimulusChange) → a ≤ b → AreFrom b ss → AreFrom a ss
from_less a b [] le are = tt
from_less a b (s ∷ ss) le are = let low = are.0 in (omega (arith, le, low), are.1)

pub others_from : (w t : ℕ) (ss : List StimulusChange) → AreFrom t ss → AreFrom t (others_of w ss)
others_from w t [] are = tt
others_from w t (s ∷ ss) are = by (others_from w s.time ss are.1) (s.wire == w)
  where
    by : AreFrom s.time (others_of w ss) → (b : Bool) → AreFrom t (cond b (others_of w ss) (s ∷ others_of w ss))
    by rest true = from_less t s.time (others_of w ss) are.0 rest
    by rest false = (are.0, rest)

pub others_all : (P : StimulusChange → Type 0) (w : ℕ) (ss : List StimulusChange) → All P ss → All P (others_of w ss)
others_all P w [] all = all
others_all P w (s ∷ ss) all = by (others_all P w ss (All-tail P s ss all)) (s.wire == w)
  where
    by : All P (others_of w ss) → (b : Bool) → All P (cond b (others_of w ss) (s ∷ others_of w ss))
    by rest true = rest
    by rest false = All-cons P s (others_of w ss) (All-head P s ss all) rest

-- ---- those of the wire, with its levels
abbrev pub right_tail : Circuit → ℕ → List StimulusChange → List (ℕ × ℕ)
right_tail n w [] = []
right_tail n w (s ∷ ss) = cond (s.wire == w) ((s.time, level n w s.time) ∷ right_tail n w ss) (right_tail n w ss)

tail_step : (bw bx bt : Bool) (rest kept : ℕ) → kept ≡ cond bx rest 0 → cond bw (bit (bt && bx) + kept) kept ≡ cond bx (bit (bw && bt) + rest) 0
tail_step true true true rest kept is = omega (arith, is)
tail_step true true false rest kept is = omega (arith, is)
tail_step true false true rest kept is = omega (arith, is)
tail_step true false false rest kept is = omega (arith, is)
tail_step false true bt rest kept is = omega (arith, is)
tail_step false false bt rest kept is = omega (arith, is)

same_time : (t k u : ℕ) → t + 1 ≤ u → (u - t - 1 == k) ≡ (u == t + 1 + k)
same_time t k u later = elim (cases_Bool (u - t - 1 == k)) as (λ _. (u - t - 1 == k) ≡ (u == t + 1 + k)) [
  | inl is ↦ let e = eqb-true (u - t - 1) k is in is ∙ sym (eq-eqb u (t + 1 + k) (omega (arith, later, e)))
  | inr other ↦ let ne = eqb-false (u - t - 1) k other in other ∙ sym (ne_eqb u (t + 1 + k) (λ e. ne (omega (arith, later, e))))
]

tail_none : (b : Bool) → ◌≡◌ {A = ℕ} 0 (cond b 0 0)
tail_none true = refl
tail_none false = refl

pub count_tail : (n : Circuit) (w t k x a : ℕ) (ss : List StimulusChange) → t + 1 ≤ a → AreFrom a ss →
    count_by (is_entry_of k x) (entries_of w t (right_tail n w ss)) ≡ cond (w == x) (count_by (is_change w (t + 1 + k)) ss) 0
count_tail n w t k x a [] later are = tail_none (w == x)
count_tail n w t k x a (s ∷ ss) later are =
    by (s.wire == w)
    ∙ tail_step (s.wire == w) (w == x) (s.time == t + 1 + k) (count_by (is_change w (t + 1 + k)) ss) (count_by (is_entry_of k x) (entries_of w t (right_tail n w ss)))
    (count_tail n w t k x s.time ss after are.1)
    ∙ ap (λ j. cond (w == x) j 0) (sym (counted_cons (is_change w (t + 1 + k)) s ss))
  where
    after : t + 1 ≤ s.time
    after = let low = are.0 in omega (arith, later, low)

    by : (b : Bool) → count_by (is_entry_of k x) (entries_of w t (cond b ((s.time, level n w s.time) ∷ right_tail n w ss) (right_tail n w ss)))
        ≡ cond b (bit ((s.time == t + 1 + k) && (w == x)) + count_by (is_entry_of k x) (entries_of w t (right_tail n w ss))) (count_by (is_entry_of k x) (entries_of w t (right_tail n w ss)))
    by true =
        counted_cons (is_entry_of k x) (entry_of w t (s.time, level n w s.time)) (entries_of w t (right_tail n w ss))
        ∙ ap (λ b. bit (b && (w == x)) + count_by (is_entry_of k x) (entries_of w t (right_tail n w ss))) (same_time t k s.time after)
    by false = refl

pub own_tail : (n : Circuit) (w t a : ℕ) (ss : List StimulusChange) → t + 1 ≤ a → AreFrom a ss → All (IsEntryOf n w t) (entries_of w t (right_tail n w ss))
own_tail n w t a [] later are = All-nil (IsEntryOf n w t)
own_tail n w t a (s ∷ ss) later are = by (own_tail n w t s.time ss after are.1) (s.wire == w)
  where
    after : t + 1 ≤ s.time
    after = let low = are.0 in omega (arith, later, low)

    by : All (IsEntryOf n w t) (entries_of w t (right_tail n w ss)) → (b : Bool) → All (IsEntryOf n w t) (entries_of w t (cond b ((s.time, level n w s.time) ∷ right_tail n w ss) (right_tail n w ss)))
    by rest true =
        All-cons (IsEntryOf n w t) (entry_of w t (s.time, level n w s.time)) (entries_of w t (right_tail n w ss))
        (record { wire = refl; level = ap (level n w) (let late = after in let e : s.time ≡ t + 1 + (s.time - t - 1) = omega (arith, late) in e) }) rest
    by rest false = rest

-- for a wire of width 1 the levels aren't told
pub tail_toggles : (n : Circuit) (w t : ℕ) (ss : List StimulusChange) → toggles_of (entries_of w t (tail_of w ss)) ≡ toggles_of (entries_of w t (right_tail n w ss))
tail_toggles n w t [] = refl
tail_toggles n w t (s ∷ ss) = by (tail_toggles n w t ss) (s.wire == w)
  where
    by : toggles_of (entries_of w t (tail_of w ss)) ≡ toggles_of (entries_of w t (right_tail n w ss)) → (b : Bool) → toggles_of (entries_of w t (cond b ((s.time, s.level) ∷ tail_of w ss) (tail_of w ss))) ≡ toggles_of (entries_of w t (cond b ((s.time, level n w s.time) ∷ right_tail n w ss) (right_tail n w ss)))
    by rest true = ap (λ (es : List (ℕ × ℕ)). (s.time - t - 1, w) ∷ es) rest
    by rest false = rest

pub tail_levels : (n : Circuit) (w : ℕ) (ss : List StimulusChange) → All (λ (s : StimulusChange). s.wire ≡ w → s.level ≡ level n w s.time) ss → tail_of w ss ≡ right_tail n w ss
tail_levels n w [] all = refl
tail_levels n w (s ∷ ss) all = by (tail_levels n w ss (All-tail (λ (s : StimulusChange). s.wire ≡ w → s.level ≡ level n w s.time) s ss all)) (s.wire == w) refl
  where
    by : tail_of w ss ≡ right_tail n w ss → (b : Bool) → (s.wire == w) ≡ b → cond b ((s.time, s.level) ∷ tail_of w ss) (tail_of w ss) ≡ cond b ((s.time, level n w s.time) ∷ right_tail n w ss) (right_tail n w ss)
    by rest true here =
        ap (λ l. (s.time, l) ∷ tail_of w ss) (All-head (λ (s : StimulusChange). s.wire ≡ w → s.level ≡ level n w s.time) s ss all (eqb-true s.wire w here))
        ∙ ap (λ (cs : List (ℕ × ℕ)). (s.time, level n w s.time) ∷ cs) rest
    by rest false else = rest

-- ---- a tail that ends before the next unit has no changes
pub no_tail : (w t until units : ℕ) (wide : Bool) (ss : List StimulusChange) → until ≤ t + 1 → AreTailsIn w t until units wide ss → (tail_of w ss ≡ []) × (others_of w ss ≡ ss)
no_tail w t until units wide [] over all = (refl, refl)
no_tail w t until units wide (s ∷ ss) over all = by (no_tail w t until units wide ss over (All-tail (λ (s : StimulusChange). s.wire ≡ w → IsTailIn t until units wide s) s ss all)) (s.wire == w) refl
  where
    by : (tail_of w ss ≡ []) × (others_of w ss ≡ ss) → (b : Bool) → (s.wire == w) ≡ b → (cond b ((s.time, s.level) ∷ tail_of w ss) (tail_of w ss) ≡ []) × (cond b (others_of w ss) (s ∷ others_of w ss) ≡ s ∷ ss)
    by rest true here =
        let is = All-head (λ (s : StimulusChange). s.wire ≡ w → IsTailIn t until units wide s) s ss all (eqb-true s.wire w here) in
        let later = is.later in
        let before = is.before in
        absurd (omega (arith, over, later, before))
    by rest false else = (rest.0, ap (λ (xs : List StimulusChange). s ∷ xs) rest.1)

-- ---- one after the other
pub tail_both : (w : ℕ) (xs ys : List StimulusChange) → tail_of w (xs ++ ys) ≡ tail_of w xs ++ tail_of w ys
tail_both w [] ys = refl
tail_both w (s ∷ xs) ys = by (tail_both w xs ys) (s.wire == w)
  where
    by : tail_of w (xs ++ ys) ≡ tail_of w xs ++ tail_of w ys → (b : Bool) → cond b ((s.time, s.level) ∷ tail_of w (xs ++ ys)) (tail_of w (xs ++ ys)) ≡ cond b ((s.time, s.level) ∷ tail_of w xs) (tail_of w xs) ++ tail_of w ys
    by rest true = ap (λ (cs : List (ℕ × ℕ)). (s.time, s.level) ∷ cs) rest
    by rest false = rest

pub others_both : (w : ℕ) (xs ys : List StimulusChange) → others_of w (xs ++ ys) ≡ others_of w xs ++ others_of w ys
others_both w [] ys = refl
others_both w (s ∷ xs) ys = by (others_both w xs ys) (s.wire == w)
  where
    by : others_of w (xs ++ ys) ≡ others_of w xs ++ others_of w ys → (b : Bool) → cond b (others_of w (xs ++ ys)) (s ∷ others_of w (xs ++ ys)) ≡ cond b (others_of w xs) (s ∷ others_of w xs) ++ others_of w ys
    by rest true = rest
    by rest false = ap (λ (cs : List StimulusChange). s ∷ cs) rest

pub entries_both : (w t : ℕ) (xs ys : List (ℕ × ℕ)) → entries_of w t (xs ++ ys) ≡ entries_of w t xs ++ entries_of w t ys
entries_both w t [] ys = refl
entries_both w t (c ∷ xs) ys = ap (λ (es : List (ℕ × LevelChange)). entry_of w t c ∷ es) (entries_both w t xs ys)

-- what holds of all behind a place
pub all_behind : (P : StimulusChange → Type 0) (list : List StimulusChange) (from place : ℕ) (d : StimulusChange) → All P (drop from list) → from ≤ place → place < length list → P (slice_index_or list place d)
all_behind P list from place d all before low =
    let e : from + (place - from) ≡ place = omega (arith, before) in
    let long = length-drop from list in
    subst P (get_or-drop from list (place - from) d ∙ ap (λ k. slice_index_or list k d) e) (all (place - from) d (omega (arith, long, before, low)))
