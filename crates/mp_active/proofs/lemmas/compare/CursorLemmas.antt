-- What numbers that are listed tell of their levels in the old run.
use Rattle.std.proofs.Common.{◌≡◌, ◌≢◌, ℕ, ◌+◌, ◌-◌, ◌<◌, ◌≤◌, false, List, [], length, sym, ap, ◌∙◌, arith, subst, inl, inr, ◌⊎◌}
use Rattle.std.specs.Prelude.{nat_lt}
use Rattle.std.proofs.lemmas.Bool.{cases_eq, cases_lt, ltb-false, and_cases}
use Rattle.std.proofs.lemmas.List.{get_or_past}
use Rattle.mp_wave.specs.Waveform.{AreChanges, level_from}
use Rattle.mp_kernel.specs.timers.TimerWheels.{never, time_of}
use Rattle.mp_partition.specs.runs.Outcomes.{Outcome, wave_of}
use Rattle.mp_active.specs.declared.compare.comparison.Comparison.{Comparison}
use Rattle.mp_active.specs.compare.Comparing.{wire_of, delay_of, late, source_at, asleep_at, place_at, may_differ, old_wave, changes_at, change_time, IsOldRun, HasCursors, IsListed, AgreeFrom}
use Rattle.mp_active.specs.compare.Meeting.{old_level}
use Rattle.mp_active.proofs.lemmas.compare.WaveLemmas.{level_stays, level_comes, level_leaves, in_order, rising, places_few, same_changes}

-- the changes of a number are those of a wave
changes_form : (run : Outcome) (t : ℕ) (taken : List ℕ) (c : Comparison) (x : ℕ) → HasCursors run t taken c → AreChanges 0 (old_wave run (wire_of c.numbers x)).initial (changes_at run c x)
changes_form run t taken c x has =
    let w = wire_of c.numbers x in
    subst (λ (cs : List (ℕ × ℕ)). AreChanges 0 (old_wave run w).initial cs) (same_changes (wave_of run w)) (has.form w)

late_level : (before : ℕ → ℕ → ℕ) (run : Outcome) (last : ℕ) (c : Comparison) (x u : ℕ) → IsOldRun before run last → u ≤ last →
    late before c.numbers x u ≡ level_from (old_wave run (wire_of c.numbers x)).initial (changes_at run c x) (u - delay_of c.numbers x)
late_level before run last c x u is early =
    let w = wire_of c.numbers x in
    let d = delay_of c.numbers x in
    is w (u - d) (omega arith) ∙ ap (λ (cs : List (ℕ × ℕ)). level_from (old_wave run w).initial cs (u - d)) (same_changes (wave_of run w))

-- a number that is due comes to its next old level, and had another one
pub due_comes : (before : ℕ → ℕ → ℕ) (run : Outcome) (t u : ℕ) (c : Comparison) (x : ℕ) → t + 1 ≡ u → u < never → IsOldRun before run u → HasCursors run t [] c →
    time_of c.timers x ≡ u → late before c.numbers x u ≡ old_level run c x
due_comes before run t u c x next low old has due =
    let listed : time_of c.timers x ≢ never = λ e. absurd (omega arith) in
    let at = has.time x listed in
    late_level before run u c x u old (omega arith)
    ∙ level_comes (old_wave run (wire_of c.numbers x)).initial (changes_at run c x) (delay_of c.numbers x) u (place_at c x) (changes_form run t [] c x has) (has.place x listed) (omega arith)

pub due_leaves : (before : ℕ → ℕ → ℕ) (run : Outcome) (t u : ℕ) (c : Comparison) (x : ℕ) → t + 1 ≡ u → u < never → IsOldRun before run u → HasCursors run t [] c →
    time_of c.timers x ≡ u → late before c.numbers x t ≢ old_level run c x
due_leaves before run t u c x next low old has due e =
    let listed : time_of c.timers x ≢ never = λ e. absurd (omega arith) in
    let at = has.time x listed in
    level_leaves (old_wave run (wire_of c.numbers x)).initial (changes_at run c x) (delay_of c.numbers x) t u (place_at c x) next (changes_form run t [] c x has) (has.place x listed) (omega arith)
    (λ k less. has.over x k listed less) (sym (late_level before run u c x t old (omega arith)) ∙ e)

different : (a b : ℕ) → a ≢ b → (a < b) ⊎ (b < a)
different a b ne = elim (cases_lt a b) as (λ _. (a < b) ⊎ (b < a)) [
  | inl less ↦ inl less
  | inr more ↦ inr (omega arith)
]

-- one that is listed, or has no old change to come, and isn't due keeps its level
pub rests : (before : ℕ → ℕ → ℕ) (run : Outcome) (t u : ℕ) (c : Comparison) (x : ℕ) → t + 1 ≡ u → IsOldRun before run u → HasCursors run t [] c → IsListed run t c x →
    time_of c.timers x ≢ u → late before c.numbers x u ≡ late before c.numbers x t
rests before run t u c x next old has listed other =
    late_level before run u c x u old (omega arith)
    ∙ level_stays (old_wave run (wire_of c.numbers x)).initial (changes_at run c x) (delay_of c.numbers x) t u next (changes_form run t [] c x has) each
    ∙ sym (late_level before run u c x t old (omega arith))
  where
    each : (k : ℕ) → k < length (changes_at run c x) → (change_time run c x k ≤ t) ⊎ (u < change_time run c x k)
    each k low = elim (cases_eq (time_of c.timers x) never) as (λ _. (change_time run c x k ≤ t) ⊎ (u < change_time run c x k)) [
      | inl none ↦ inl (listed none k low)
      | inr some ↦ by some (cases_lt k (place_at c x))
    ]
      where
        by : time_of c.timers x ≢ never → (k < place_at c x) ⊎ (place_at c x ≤ k) → (change_time run c x k ≤ t) ⊎ (u < change_time run c x k)
        by some (inl less) = inl (has.over x k some less)
        by some (inr more) =
            let ordered = in_order 0 (old_wave run (wire_of c.numbers x)).initial (changes_at run c x) (place_at c x) k (changes_form run t [] c x has) more low in
            let at = has.time x some in
            let later = has.later x some in
            let apart = different (time_of c.timers x) u other in
            inr (omega arith)

-- a number that a module reads is one
pub is_number : (run : Outcome) (t : ℕ) (taken : List ℕ) (c : Comparison) (x : ℕ) → HasCursors run t taken c → 0 < asleep_at c x → x < length c.numbers.wires.items
is_number run t taken c x has some = elim (cases_lt x (length c.numbers.wires.items)) as (λ _. x < length c.numbers.wires.items) [
  | inl low ↦ low
  | inr past ↦ let none = get_or_past c.asleep.items x 0 (let long = has.shape.asleep in omega arith) in absurd (omega arith)
]

-- one that can't differ any more has the same level before and after
pub cannot_differ : (before after : ℕ → ℕ → ℕ) (u : ℕ) (c : Comparison) (x : ℕ) → wire_of c.numbers x < length c.sources.items → AgreeFrom before after u c →
    may_differ (source_at c (wire_of c.numbers x)) (delay_of c.numbers x) u ≡ false → late before c.numbers x u ≡ late after c.numbers x u
cannot_differ before after u c x low agree never_more =
    agree (wire_of c.numbers x) (u - delay_of c.numbers x) low (by (and_cases (nat_lt u (until + delay_of c.numbers x)) (nat_lt 0 until) never_more)) (omega arith)
  where
    until : ℕ
    until = (source_at c (wire_of c.numbers x)).until

    by : (nat_lt u (until + delay_of c.numbers x) ≡ false) ⊎ (nat_lt 0 until ≡ false) → until ≤ u - delay_of c.numbers x
    by (inl over) = let e = ltb-false u (until + delay_of c.numbers x) over in omega arith
    by (inr none) = let e = ltb-false 0 until none in omega arith

pub next_later : (run : Outcome) (t : ℕ) (taken : List ℕ) (c : Comparison) (x p k : ℕ) → HasCursors run t taken c → p < k → k < length (changes_at run c x) → change_time run c x p < change_time run c x k
next_later run t taken c x p k has less low =
    let later = rising 0 (old_wave run (wire_of c.numbers x)).initial (changes_at run c x) p k (changes_form run t taken c x has) less low in
    omega arith

pub place_fits : (run : Outcome) (t : ℕ) (taken : List ℕ) (c : Comparison) (x k : ℕ) → HasCursors run t taken c → x < length c.numbers.wires.items → k < length (changes_at run c x) → k < never
place_fits run t taken c x k has within low =
    let few = places_few 0 (old_wave run (wire_of c.numbers x)).initial (changes_at run c x) k (changes_form run t taken c x has) low in
    let room = has.room x k within low in
    omega arith
