-- The wires that are set, as numbers come up.
use Rattle.std.proofs.Common.{◌≡◌, ◌≢◌, ℕ, zero, suc, ◌+◌, ◌-◌, ◌<◌, ◌≤◌, Bool, true, false, not, cond, ◌&&◌, ◌||◌, List, [], ◌∷◌, ◌++◌, All, length, refl, sym, ap, ◌∙◌, arith, subst, inl, inr}
use Rattle.std.specs.Prelude.{◌==◌, nat_le}
use Rattle.std.proofs.lemmas.Bool.{cases_lt, eq-eqb, ne_eqb, eqb-true, eqb-false, leb-true, and_parts, false≢true}
use Rattle.std.proofs.lemmas.List.{get_or_past}
use Rattle.std.proofs.lemmas.List.Elements.{All-append}
use Rattle.std.proofs.lemmas.List.Sums.{sum_by-append}
use Rattle.mp_modules.specs.automata.Codes.{bit}
use Rattle.mp_kernel.specs.events.Adding.{listed}
use Rattle.mp_kernel.specs.timers.TimerWheels.{never, time_of, coming, ComesUp}
use Rattle.mp_kernel.specs.declared.datapath.level_change.LevelChange.{LevelChange}
use Rattle.mp_partition.specs.runs.Outcomes.{Outcome}
use Rattle.mp_active.specs.declared.compare.set_wires.SetWires.{SetWires}
use Rattle.mp_active.specs.declared.compare.comparison.Comparison.{Comparison}
use Rattle.mp_active.specs.compare.Comparing.{wire_of, late, source_at, off, follows, is_to_follow, is_following, is_tracked, changes_of, IsOldRun, HasCursors, IsListed}
use Rattle.mp_active.specs.compare.Meeting.{old_level, is_due}
use Rattle.mp_active.specs.compare.Passing.{has_data_at, is_set, is_up, HasLevel, AreSet, HasSet}
use Rattle.mp_active.proofs.lemmas.compare.CursorLemmas.{due_comes, due_leaves, rests}

-- of so many numbers that came up, those were set that follow and change
pub record AreSome (run : Outcome) (time : ℕ) (passed : List ℕ) (c : Comparison) (was is : SetWires) : Type 0 where
  pub bits : (x : ℕ) → listed x is.bits.items ≡ listed x was.bits.items + cond (is_up c time x && not (has_data_at c x)) (listed x passed) 0
  pub levels : (x : ℕ) → changes_of x is.levels.items ≡ changes_of x was.levels.items + cond (is_up c time x && has_data_at c x) (listed x passed) 0
  pub right : (before : ℕ → ℕ → ℕ) → IsOldRun before run time → All (HasLevel before time) was.levels.items → All (HasLevel before time) is.levels.items

pub set_none : (run : Outcome) (time : ℕ) (c : Comparison) (was : SetWires) → AreSome run time [] c was was
set_none run time c was = record {
  bits = λ x. none (is_up c time x && not (has_data_at c x)) (listed x was.bits.items);
  levels = λ x. none (is_up c time x && has_data_at c x) (changes_of x was.levels.items);
  right = λ before old all. all;
}
  where
    none : (b : Bool) (n : ℕ) → n ≡ n + cond b 0 0
    none true n = omega arith
    none false n = omega arith

-- the number of a wire that follows has the wire's levels
following_low : (c : Comparison) (x time : ℕ) → follows (source_at c x) time ≡ true → x < length c.sources.items
following_low c x time on = elim (cases_lt x (length c.sources.items)) as (λ _. x < length c.sources.items) [
  | inl low ↦ low
  | inr past ↦ absurd (false≢true (sym (ap (λ s. follows s time) (get_or_past c.sources.items x off past)) ∙ on))
]

low_late : (before : ℕ → ℕ → ℕ) (run : Outcome) (t : ℕ) (c : Comparison) (x u : ℕ) → HasCursors run t [] c → x < length c.sources.items → late before c.numbers x u ≡ before x u
low_late before run t c x u has low =
    let own = has.shape.own x low in
    ap (λ d. before (wire_of c.numbers x) (u - d)) own.1 ∙ ap (λ w. before w (u - 0)) own.0 ∙ (let e : u - 0 ≡ u = omega arith in ap (λ v. before x v) e)

at_wire : (before : ℕ → ℕ → ℕ) (run : Outcome) (t : ℕ) (c : Comparison) (x time u : ℕ) → HasCursors run t [] c → x ≡ wire_of c.numbers x → follows (source_at c (wire_of c.numbers x)) time ≡ true →
    late before c.numbers x u ≡ before x u
at_wire before run t c x time u has own on = low_late before run t c x u has (following_low c x time (ap (λ w. follows (source_at c w) time) own ∙ on))

-- one more came up
more : (same here there : Bool) (base before passed : ℕ) → before ≡ base + cond there passed 0 → (same ≡ true → here ≡ there) → cond here (before + bit same) before ≡ base + cond there (passed + bit same) 0
more true true true base before passed e eq = omega arith
more true true false base before passed e eq = absurd (let no = eq refl in cc)
more true false true base before passed e eq = absurd (let no = eq refl in cc)
more true false false base before passed e eq = omega arith
more false true true base before passed e eq = omega arith
more false true false base before passed e eq = omega arith
more false false true base before passed e eq = omega arith
more false false false base before passed e eq = omega arith

pushed : (x number : ℕ) (xs : List ℕ) → listed x (xs ++ number ∷ []) ≡ listed x xs + bit (number == x)
pushed x number xs = sum_by-append (λ d. cond (d == x) 1 0) xs (number ∷ []) ∙ (let e : 0 + bit (number == x) ≡ bit (number == x) = omega arith in ap (λ n. listed x xs + n) e)

changed : (x : ℕ) (change : LevelChange) (xs : List LevelChange) → changes_of x (xs ++ change ∷ []) ≡ changes_of x xs + bit (change.number == x)
changed x change xs = sum_by-append (λ (c : LevelChange). cond (c.number == x) 1 0) xs (change ∷ []) ∙ (let e : 0 + bit (change.number == x) ≡ bit (change.number == x) = omega arith in ap (λ n. changes_of x xs + n) e)

one_listed : (b : Bool) (x number : ℕ) (xs : List ℕ) → listed x (cond b (xs ++ number ∷ []) xs) ≡ cond b (listed x xs + bit (number == x)) (listed x xs)
one_listed true x number xs = pushed x number xs
one_listed false x number xs = refl

one_changed : (b : Bool) (x : ℕ) (change : LevelChange) (xs : List LevelChange) → changes_of x (cond b (xs ++ change ∷ []) xs) ≡ cond b (changes_of x xs + bit (change.number == x)) (changes_of x xs)
one_changed true x change xs = changed x change xs
one_changed false x change xs = refl

all_more : (before : ℕ → ℕ → ℕ) (time : ℕ) (b : Bool) (change : LevelChange) (xs : List LevelChange) → (b ≡ true → HasLevel before time change) → All (HasLevel before time) xs → All (HasLevel before time) (cond b (xs ++ change ∷ []) xs)
all_more before time true change xs right all = All-append (HasLevel before time) xs (change ∷ []) all (one (right refl))
  where
    one : HasLevel before time change → All (HasLevel before time) (change ∷ [])
    one r zero d low = r
    one r (suc k) d low = absurd (omega arith)
all_more before time false change xs right all = all

pub set_more : (run : Outcome) (t time number : ℕ) (passed : List ℕ) (c then : Comparison) (was mid is : SetWires) → t + 1 ≡ time → time < never → HasCursors run t [] c → AreSome run time passed c was mid →
    HasSet run time number then mid is → is_up then time number ≡ is_up c time number → has_data_at then number ≡ has_data_at c number → old_level run then number ≡ old_level run c number →
    AreSome run time (passed ++ number ∷ []) c was is
set_more run t time number passed c then was mid is next low has before set up kind level = record {
  bits = λ x.
      ap (listed x) set.bits ∙ one_listed (is_up then time number && not (has_data_at then number)) x number mid.bits.items
      ∙ more (number == x) (is_up then time number && not (has_data_at then number)) (is_up c time x && not (has_data_at c x)) (listed x was.bits.items) (listed x mid.bits.items) (listed x passed) (before.bits x)
      (λ e. bits_same ∙ ap (λ y. is_up c time y && not (has_data_at c y)) (eqb-true number x e))
      ∙ ap (λ n. listed x was.bits.items + cond (is_up c time x && not (has_data_at c x)) n 0) (sym (pushed x number passed));
  levels = λ x.
      ap (λ (ls : List LevelChange). changes_of x ls) set.levels ∙ one_changed (is_up then time number && has_data_at then number) x (record { number = number; level = old_level run then number }) mid.levels.items
      ∙ more (number == x) (is_up then time number && has_data_at then number) (is_up c time x && has_data_at c x) (changes_of x was.levels.items) (changes_of x mid.levels.items) (listed x passed) (before.levels x)
      (λ e. levels_same ∙ ap (λ y. is_up c time y && has_data_at c y) (eqb-true number x e))
      ∙ ap (λ n. changes_of x was.levels.items + cond (is_up c time x && has_data_at c x) n 0) (sym (pushed x number passed));
  right = λ level_of old all.
      subst (λ (ls : List LevelChange). All (HasLevel level_of time) ls) (sym set.levels)
      (all_more level_of time (is_up then time number && has_data_at then number) (record { number = number; level = old_level run then number }) mid.levels.items
      (λ e. right_by level_of old (sym up ∙ (and_parts (is_up then time number) (has_data_at then number) e).0)) (before.right level_of old all));
}
  where
    bits_same : (is_up then time number && not (has_data_at then number)) ≡ (is_up c time number && not (has_data_at c number))
    bits_same = ap (λ b. b && not (has_data_at then number)) up ∙ ap (λ b. is_up c time number && not b) kind

    levels_same : (is_up then time number && has_data_at then number) ≡ (is_up c time number && has_data_at c number)
    levels_same = ap (λ b. b && has_data_at then number) up ∙ ap (λ b. is_up c time number && b) kind

    right_by : (before : ℕ → ℕ → ℕ) → IsOldRun before run time → is_up c time number ≡ true → old_level run then number ≡ before number time
    right_by before old e =
        let parts = and_parts (is_due c number time) ((number == wire_of c.numbers number) && follows (source_at c (wire_of c.numbers number)) time) e in
        let wire = and_parts (number == wire_of c.numbers number) (follows (source_at c (wire_of c.numbers number)) time) parts.1 in
        let own : number ≡ wire_of c.numbers number = eqb-true number (wire_of c.numbers number) wire.0 in
        let comes = due_comes before run t time c number next low old has (eqb-true (time_of c.timers number) time parts.0) in
        level ∙ sym comes ∙ at_wire before run t c number time time has own wire.1

-- a number is up just where its wire is set, and comes up once
pub up_is : (before : ℕ → ℕ → ℕ) (run : Outcome) (t time : ℕ) (c : Comparison) → t + 1 ≡ time → time < never → HasCursors run t [] c → IsOldRun before run time →
    ((x : ℕ) → x < length c.numbers.wires.items → (is_following c x || is_tracked c x time) ≡ true → IsListed run t c x) → (x : ℕ) → is_up c time x ≡ is_set before time c x
up_is before run t time c next low has old complete x = elim (cases_lt x (length c.sources.items)) as (λ _. is_up c time x ≡ is_set before time c x) [
  | inl within ↦ inside within (follows (source_at c x) time) refl (is_due c x time) refl
  | inr past ↦ outside past (x == wire_of c.numbers x) refl
]
  where
    and_none : (a : Bool) → (a && false) ≡ false
    and_none true = refl
    and_none false = refl

    or_left : (a b : Bool) → a ≡ true → (a || b) ≡ true
    or_left true b e = refl
    or_left false b e = absurd (false≢true e)

    outside : length c.sources.items ≤ x → (own : Bool) → (x == wire_of c.numbers x) ≡ own → is_up c time x ≡ is_set before time c x
    outside past true e =
        let none = ap (λ s. follows s time) (get_or_past c.sources.items x off past) in
        let same = ap (λ w. follows (source_at c w) time) (sym (eqb-true x (wire_of c.numbers x) e)) ∙ none in
        ap (λ b. is_due c x time && ((x == wire_of c.numbers x) && b)) same
        ∙ ap (λ b. is_due c x time && b) (and_none (x == wire_of c.numbers x)) ∙ and_none (is_due c x time)
        ∙ sym (ap (λ b. b && not (before x (time - 1) == before x time)) none)
    outside past false e =
        let none = ap (λ s. follows s time) (get_or_past c.sources.items x off past) in
        ap (λ b. is_due c x time && (b && follows (source_at c (wire_of c.numbers x)) time)) e ∙ and_none (is_due c x time)
        ∙ sym (ap (λ b. b && not (before x (time - 1) == before x time)) none)

    plain : x < length c.sources.items → is_up c time x ≡ (is_due c x time && follows (source_at c x) time)
    plain within =
        let own = (has.shape.own x within).0 in
        ap (λ b. is_due c x time && (b && follows (source_at c (wire_of c.numbers x)) time)) (eq-eqb x (wire_of c.numbers x) (sym own))
        ∙ ap (λ w. is_due c x time && follows (source_at c w) time) own

    inside : x < length c.sources.items → (on : Bool) → follows (source_at c x) time ≡ on → (due : Bool) → is_due c x time ≡ due → is_up c time x ≡ is_set before time c x
    inside within false e due d =
        plain within ∙ ap (λ b. is_due c x time && b) e ∙ and_none (is_due c x time) ∙ sym (ap (λ b. b && not (before x (time - 1) == before x time)) e)
    inside within true e true d =
        let at = eqb-true (time_of c.timers x) time d in
        let was = low_late before run t c x t has within in
        let is = low_late before run t c x time has within in
        let comes = due_comes before run t time c x next low old has at in
        let leaves = due_leaves before run t time c x next low old has at in
        let prior : time - 1 ≡ t = omega arith in
        let apart : before x (time - 1) ≢ before x time = λ same. leaves (was ∙ sym (ap (before x) prior) ∙ same ∙ sym is ∙ comes) in
        plain within ∙ ap (λ b. b && follows (source_at c x) time) d ∙ e
        ∙ sym (ap (λ b. b && not (before x (time - 1) == before x time)) e ∙ ap (λ b. not b) (ne_eqb (before x (time - 1)) (before x time) apart))
    inside within true e false d =
        let other = eqb-false (time_of c.timers x) time d in
        let was = low_late before run t c x t has within in
        let is = low_late before run t c x time has within in
        let prior : time - 1 ≡ t = omega arith in
        let wide = has.shape.few in
        let parts = and_parts (source_at c x).is_on (nat_le (source_at c x).until time) e in
        let soon = leb-true (source_at c x).until time parts.1 in
        let follow : is_to_follow (source_at c x) ≡ true = ap (λ b. b && not ((source_at c x).until == never)) parts.0 ∙ ap not (ne_eqb (source_at c x).until never (λ n. absurd (omega arith))) in
        let own = (has.shape.own x within).0 in
        let following : is_following c x ≡ true =
        ap (λ b. b && is_to_follow (source_at c (wire_of c.numbers x))) (eq-eqb x (wire_of c.numbers x) (sym own)) ∙ ap (λ w. is_to_follow (source_at c w)) own ∙ follow in
        let listed_too = complete x (omega arith) (or_left (is_following c x) (is_tracked c x time) following) in
        let stays = rests before run t time c x next old has listed_too other in
        let same : before x (time - 1) ≡ before x time = ap (before x) prior ∙ sym was ∙ sym stays ∙ is in
        plain within ∙ ap (λ b. b && follows (source_at c x) time) d
        ∙ sym (ap (λ b. b && not (before x (time - 1) == before x time)) e ∙ ap (λ b. not b) (eq-eqb (before x (time - 1)) (before x time) same))

-- so just those are set that follow and change
pub set_all : (before : ℕ → ℕ → ℕ) (run : Outcome) (t time : ℕ) (c : Comparison) (was is : SetWires) → t + 1 ≡ time → time < never → ComesUp → HasCursors run t [] c → IsOldRun before run time →
    ((x : ℕ) → x < length c.numbers.wires.items → (is_following c x || is_tracked c x time) ≡ true → IsListed run t c x) → AreSome run time (coming c.timers) c was is → AreSet before time c was is
set_all before run t time c was is next low comes has old complete some = record {
  bits = λ x. some.bits x ∙ ap (λ n. listed x was.bits.items + n) (once x (not (has_data_at c x)) (is_up c time x) refl);
  levels = λ x. some.levels x ∙ ap (λ n. changes_of x was.levels.items + n) (once x (has_data_at c x) (is_up c time x) refl);
  right = some.right before old;
}
  where
    simple : (b : Bool) → cond b 1 0 ≡ bit b
    simple true = refl
    simple false = refl

    once : (x : ℕ) (b up : Bool) → is_up c time x ≡ up → cond (is_up c time x && b) (listed x (coming c.timers)) 0 ≡ bit (is_set before time c x && b)
    once x b true e =
        let due = (and_parts (is_due c x time) ((x == wire_of c.numbers x) && follows (source_at c (wire_of c.numbers x)) time) e).0 in
        let one = comes t c.timers has.timers x (eqb-true (time_of c.timers x) time due ∙ sym next) (omega arith) in
        ap (λ n. cond (is_up c time x && b) n 0) one ∙ simple (is_up c time x && b) ∙ ap (λ u. bit (u && b)) (up_is before run t time c next low has old complete x)
    once x b false e =
        ap (λ u. cond (u && b) (listed x (coming c.timers)) 0) e ∙ sym (ap (λ u. bit (u && b)) (sym (up_is before run t time c next low has old complete x) ∙ e))
