-- The changes that are known ahead of a track, and the levels that they give.
use Rattle.std.proofs.Common.{◌≡◌, ℕ, ◌+◌, ◌<◌, ◌≤◌, List, [], ◌∷◌, ◌++◌, ◌==◌, unwrap_or, refl, sym, subst, ◌∙◌, arith, inl, inr}
use Rattle.std.proofs.lemmas.Bool.{eqb-true, eqb-false, cases_Bool}
use Rattle.mp_wave.specs.Waveform.{Waveform, IsWaveform, AreChanges, level_from, level_of, last_from, last_time}
use Rattle.mp_wave.proofs.WaveformLemmas.{nat_le-true, nat_le-false, last_from-append, last_time-append, level_from-append_later}
use Rattle.mp_model.specs.Tracks.{due_level, rest_after}
use Rattle.mp_model.specs.Evaluations.{AreRising}

-- changes rise
pub AreRising-changes : (time level : ℕ) (changes : List (ℕ × ℕ)) → AreChanges time level changes → AreRising time changes
AreRising-changes time level [] are = tt
AreRising-changes time level (change ∷ changes) are = (are.0, AreRising-changes change.0 change.1 changes are.2)

-- what is due at a time is the level from then on
pub level_from-due : (present time u : ℕ) (changes : List (ℕ × ℕ)) → time ≤ u
    → level_from (unwrap_or (due_level changes time) present) (rest_after changes time) u ≡ level_from present changes u
level_from-due present time u [] le = refl
level_from-due present time u (change ∷ changes) le =
    elim (cases_Bool (change.0 == time)) as (λ _. level_from (unwrap_or (due_level (change ∷ changes) time) present) (rest_after (change ∷ changes) time) u ≡ level_from present (change ∷ changes) u) [
      | inl here ↦ let is = eqb-true change.0 time here in rw (here, nat_le-true change.0 u (omega arith)) refl
      | inr other ↦ rw other refl
    ]

-- before its changes a level stays
pub level_from-now : (level time u : ℕ) (changes : List (ℕ × ℕ)) → AreRising time changes → u ≤ time → level_from level changes u ≡ level
level_from-now level time u [] rising le = refl
level_from-now level time u (change ∷ changes) rising le = rw (nat_le-false change.0 u (omega (arith, rising.0))) refl

pub AreRising-rest : (time : ℕ) (changes : List (ℕ × ℕ)) → AreRising time changes → AreRising (time + 1) (rest_after changes (time + 1))
AreRising-rest time [] rising = tt
AreRising-rest time (change ∷ changes) rising =
    elim (cases_Bool (change.0 == time + 1)) as (λ _. AreRising (time + 1) (rest_after (change ∷ changes) (time + 1))) [
      | inl here ↦ let P : ℕ → Type 0 = λ s. AreRising s changes in rw here (subst P (eqb-true change.0 (time + 1) here) rising.1)
      | inr other ↦ let no = eqb-false change.0 (time + 1) other in rw other (omega (arith, rising.0, no), rising.1)
    ]

pub last_time-rest : (start time most : ℕ) (changes : List (ℕ × ℕ)) → last_time start changes < most → time < most → last_time time (rest_after changes time) < most
last_time-rest start time most [] last less = less
last_time-rest start time most (change ∷ changes) last less =
    elim (cases_Bool (change.0 == time)) as (λ _. last_time time (rest_after (change ∷ changes) time) < most) [
      | inl here ↦ let P : ℕ → Type 0 = λ s. last_time s changes < most in rw here (subst P (eqb-true change.0 time here) last)
      | inr other ↦ rw other last
    ]

le-last : (time : ℕ) (changes : List (ℕ × ℕ)) → AreRising time changes → time ≤ last_time time changes
le-last time [] rising = omega arith
le-last time (change ∷ changes) rising = omega (arith, rising.0, le-last change.0 changes rising.1)

-- after all changes the level is the last
pub level_from-last : (level time u : ℕ) (changes : List (ℕ × ℕ)) → AreRising time changes → last_time time changes ≤ u → level_from level changes u ≡ last_from level changes
level_from-last level time u [] rising le = refl
level_from-last level time u (change ∷ changes) rising le =
    rw (nat_le-true change.0 u (omega (arith, le, le-last change.0 changes rising.1))) (level_from-last change.1 change.0 u changes rising.1 le)

pub AreRising-push : (time next level : ℕ) (changes : List (ℕ × ℕ)) → AreRising time changes → last_time time changes < next → AreRising time (changes ++ (next, level) ∷ [])
AreRising-push time next level [] rising less = (less, tt)
AreRising-push time next level (change ∷ changes) rising less = (rising.0, AreRising-push change.0 next level changes rising.1 less)

last_from-push : (start time level : ℕ) (changes : List (ℕ × ℕ)) → last_from start (changes ++ (time, level) ∷ []) ≡ level
last_from-push start time level changes = last_from-append start changes ((time, level) ∷ [])

pub last_time-push : (start time level : ℕ) (changes : List (ℕ × ℕ)) → last_time start (changes ++ (time, level) ∷ []) ≡ time
last_time-push start time level changes = last_time-append start changes ((time, level) ∷ [])

-- a change at a later time leaves the level
pub level_from-before_push : (start u time level : ℕ) (changes : List (ℕ × ℕ)) → u < time → level_from start (changes ++ (time, level) ∷ []) u ≡ level_from start changes u
level_from-before_push start u time level changes less =
    level_from-append_later start u changes ((time, level) ∷ []) (λ v. rw (nat_le-false time u less) refl)

-- from its time on a last change gives the level
pub level_from-push : (start from u time level : ℕ) (changes : List (ℕ × ℕ)) → AreRising from changes → last_time from changes < time → time ≤ u
    → level_from start (changes ++ (time, level) ∷ []) u ≡ level
level_from-push start from u time level changes rising less le =
    let last = last_time-push from time level changes in
    level_from-last start from u (changes ++ (time, level) ∷ []) (AreRising-push from time level changes rising less) (omega (arith, last, le))
    ∙ last_from-push start time level changes

-- after its last change a wave keeps its level
pub stays : (wave : Waveform) (s u : ℕ) → IsWaveform wave → last_time 0 wave.changes ≤ s → s ≤ u → level_of wave u ≡ level_of wave s
stays wave s u form last le =
    let rising = AreRising-changes 0 wave.initial wave.changes form in
    level_from-last wave.initial 0 u wave.changes rising (omega (arith, last, le)) ∙ sym (level_from-last wave.initial 0 s wave.changes rising last)
