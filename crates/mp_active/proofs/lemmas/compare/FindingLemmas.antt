-- Which numbers are gathered when all changes have been met.
use Rattle.std.proofs.Common.{◌≡◌, ℕ, suc, ◌+◌, ◌<◌, Bool, true, false, not, cond, ◌&&◌, ◌||◌, List, [], ◌∷◌, All, length, refl, sym, ap, ◌∙◌, arith}
use Rattle.std.specs.Prelude.{◌==◌, nat_lt}
use Rattle.std.specs.List.{count_by}
use Rattle.std.proofs.lemmas.Bool.{ne_eqb, eqb-true, eqb-false, ltb-true, and_parts}
use Rattle.std.proofs.lemmas.List.Sums.{sum_by-cons}
use Rattle.mp_modules.specs.automata.Codes.{bit}
use Rattle.mp_kernel.specs.events.Adding.{listed}
use Rattle.mp_kernel.specs.timers.TimerWheels.{never, time_of, coming, ComesUp}
use Rattle.mp_kernel.specs.declared.datapath.level_change.LevelChange.{LevelChange}
use Rattle.mp_partition.specs.runs.Outcomes.{Outcome}
use Rattle.mp_active.specs.declared.compare.comparison.Comparison.{Comparison}
use Rattle.mp_active.specs.declared.compare.new_changes.NewChanges.{NewChanges}
use Rattle.mp_active.specs.compare.Comparing.{wire_of, delay_of, late, departs, source_at, asleep_at, seen_at, is_tracked, is_following, may_differ, bits_of, levels_of, changes_of, IsOldRun, HasCursors, AreUnseen, IsListed, AgreeFrom, AgreeAsleep, HaveLowBits}
use Rattle.mp_active.specs.compare.Meeting.{old_level, is_due, others_of, HasMet, HasMetOld}
use Rattle.mp_active.proofs.lemmas.compare.CursorLemmas.{due_comes, due_leaves, rests, is_number, cannot_differ}
use Rattle.mp_active.proofs.lemmas.compare.Telling.{IsTold, told}

-- how often a number has another level than this among its changes, which all have its level at a time
others_are : (x at : ℕ) (level : ℕ → ℕ) (may : ℕ → Bool) (changes : List LevelChange) → may x ≡ true → All (λ (change : LevelChange). may change.number ≡ true → change.level ≡ level change.number) changes →
    count_by (λ (change : LevelChange). (change.number == x) && not (change.level == at)) changes ≡ cond (level x == at) 0 (changes_of x changes)
others_are x at level may [] tracked all = none (level x == at) 0
  where
    none : (b : Bool) (n : ℕ) → n ≡ cond b n n
    none true n = refl
    none false n = refl
others_are x at level may (change ∷ changes) tracked all =
    sum_by-cons (λ (change : LevelChange). cond ((change.number == x) && not (change.level == at)) 1 0) change changes
    ∙ by (others_are x at level may changes tracked (λ k d low. all (suc k) d (omega arith))) (change.number == x) refl
    ∙ ap (λ n. cond (level x == at) 0 n) (sym (sum_by-cons (λ (change : LevelChange). cond (change.number == x) 1 0) change changes))
  where
    split : (b : Bool) (n : ℕ) → cond (not b) 1 0 + cond b 0 n ≡ cond b 0 (1 + n)
    split true n = refl
    split false n = omega arith

    by : count_by (λ (change : LevelChange). (change.number == x) && not (change.level == at)) changes ≡ cond (level x == at) 0 (changes_of x changes) → (same : Bool) → (change.number == x) ≡ same →
        cond ((change.number == x) && not (change.level == at)) 1 0 + count_by (λ (change : LevelChange). (change.number == x) && not (change.level == at)) changes
        ≡ cond (level x == at) 0 (cond (change.number == x) 1 0 + changes_of x changes)
    by rest true is =
        let same = eqb-true change.number x is in
        let right : change.level ≡ level x = all 0 change (omega arith) (ap may same ∙ tracked) ∙ ap level same in
        let here = ap (λ b. bit (b && not (change.level == at))) is ∙ ap (λ n. bit (not (n == at))) right in
        let there = ap (λ b. cond (level x == at) 0 (bit b + changes_of x changes)) is in
        let both = split (level x == at) (changes_of x changes) in
        omega arith
    by rest false is =
        let here = ap (λ b. bit (b && not (change.level == at))) is in
        let there = ap (λ b. cond (level x == at) 0 (bit b + changes_of x changes)) is in
        let sum : bit false + changes_of x changes ≡ changes_of x changes = omega arith in
        let same = ap (λ n. cond (level x == at) 0 n) sum in
        omega arith

is_past : (a b : ℕ) → a < b → (a == b) ≡ false
is_past a b less = ne_eqb a b (λ e. absurd (omega arith))

-- the numbers gathered are those that depart
pub finds : (before after : ℕ → ℕ → ℕ) (run : Outcome) (t u : ℕ) (c met is : Comparison) (new : NewChanges) → t + 1 ≡ u → u < never → ComesUp → HasCursors run t [] c → AreUnseen u c →
    length c.departing.items ≡ 0 → IsOldRun before run u → ((x : ℕ) → x < length c.numbers.wires.items → (is_following c x || is_tracked c x u) ≡ true → IsListed run t c x) →
    AgreeFrom before after u c → AgreeAsleep before after t c → ((x : ℕ) → is_tracked c x u ≡ true → listed x (bits_of new) + changes_of x (levels_of new) ≡ bit (not (late after c.numbers x t == late after c.numbers x u))) →
    All (λ (change : LevelChange). is_tracked c change.number u ≡ true → change.level ≡ late after c.numbers change.number u) (levels_of new) → HaveLowBits before after c new →
    HasMet run u (bits_of new) (levels_of new) c met → HasMetOld u met is → (x : ℕ) → listed x is.departing.items ≡ bit (nat_lt 0 (asleep_at c x) && departs before after c.numbers x u)
finds before after run t u c met is new next low up has unseen none old complete from asleep once levels bits first second x =
    let a = first.departing x in
    let b = second.departing x in
    let empty = nothing c.departing.items none in
    let kept = ap (λ (v : Comparison). cond (is_due v x u && (not (seen_at met x == u) && is_tracked v x u)) (listed x (coming v.timers)) 0) first.kept in
    let all = told (nat_lt 0 (asleep_at c x)) may (is_due c x u) (seen_at met x == u) (late before c.numbers x t) (late after c.numbers x t) (late before c.numbers x u) (late after c.numbers x u)
    (old_level run c x) (listed x (bits_of new)) (changes_of x (levels_of new)) (others_of run c x (levels_of new)) (listed x (coming c.timers)) tells in
    omega arith
  where
    may : Bool
    may = may_differ (source_at c (wire_of c.numbers x)) (delay_of c.numbers x) u

    nothing : (xs : List ℕ) → length xs ≡ 0 → listed x xs ≡ 0
    nothing [] e = refl
    nothing (y ∷ ys) e = absurd (omega arith)

    reads : nat_lt 0 (asleep_at c x) ≡ true → x < length c.numbers.wires.items
    reads some = is_number run t [] c x has (ltb-true 0 (asleep_at c x) some)

    tells : IsTold (nat_lt 0 (asleep_at c x)) may (is_due c x u) (seen_at met x == u) (late before c.numbers x t) (late after c.numbers x t) (late before c.numbers x u) (late after c.numbers x u)
        (old_level run c x) (listed x (bits_of new)) (changes_of x (levels_of new)) (others_of run c x (levels_of new)) (listed x (coming c.timers))
    tells = record {
      agreed = λ some. asleep x (ltb-true 0 (asleep_at c x) some);
      stays = λ some never_more. cannot_differ before after u c x (has.shape.wires x (reads some)) from never_more;
      comes = λ due. due_comes before run t u c x next low old has (eqb-true (time_of c.timers x) u due);
      leaves = λ due. due_leaves before run t u c x next low old has (eqb-true (time_of c.timers x) u due);
      rests = λ tracked other. rests before run t u c x next old has
          (complete x (reads (and_parts (nat_lt 0 (asleep_at c x)) may tracked).0) (or_right (is_following c x) (is_tracked c x u) tracked))
          (eqb-false (time_of c.timers x) u other);
      once = λ tracked. once x tracked;
      other_levels = λ tracked. others_are x (old_level run c x) (λ y. late after c.numbers y u) (λ y. is_tracked c y u) (levels_of new) tracked levels;
      low_was = λ some. (bits x t some).0;
      low_before = λ some. (bits x u some).0;
      low_after = λ some. (bits x u some).1;
      was_seen = first.seen x ∙ ap (λ b. b || (is_tracked c x u && nat_lt 0 (listed x (bits_of new) + changes_of x (levels_of new)))) (is_past (seen_at c x) u (unseen x));
      up = λ due. up t c.timers has.timers x (eqb-true (time_of c.timers x) u due ∙ sym next) (omega arith);
    }
      where
        or_right : (a b : Bool) → b ≡ true → (a || b) ≡ true
        or_right true b e = refl
        or_right false b e = e
