-- Lemmas on the changes earlier and later than a time.
use Rattle.std.proofs.Common.{◌≡◌, ℕ, ◌+◌, ◌-◌, ◌<◌, ◌≤◌, List, [], ◌∷◌, nat_lt, nat_le, cond, true, false, refl, ap, sym, ◌∙◌, arith, inl, inr, length, zero, suc, take, drop, append-nil, subst}
use Rattle.std.proofs.lemmas.Bool.Decides.{nat_tests}
use Rattle.std.proofs.lemmas.Bool.{cases_lt}
use Rattle.std.specs.List.{AllWithin}
use Rattle.mp_wave.specs.Waveform.{Waveform, IsWaveform, AreChanges, level_from, level_of, last_from, last_time, later_than, earlier_than, between, kept_before}
use Rattle.mp_wave.proofs.WaveformLemmas.{nat_le-true, nat_le-false, level_from-append_over}

pub nat_lt-true : (a b : ℕ) → a < b → nat_lt a b ≡ true
nat_lt-true a b lt = grind (arith, nat_tests)

pub nat_lt-false : (a b : ℕ) → b ≤ a → nat_lt a b ≡ false
nat_lt-false a b le = grind (arith, nat_tests)

-- where the changes before a place are those that aren't later than a time, the others are the later ones
pub later_than-drop : (time place : ℕ) (changes : List (ℕ × ℕ)) → place ≤ length changes → AllWithin (λ (c : ℕ × ℕ). nat_le c.0 time ≡ true) changes 0 place → AllWithin (λ (c : ℕ × ℕ). nat_le c.0 time ≡ false) changes place (length changes) → drop place changes ≡ later_than time changes
later_than-drop time zero [] le over later = refl
later_than-drop time (suc place) [] le over later = absurd (omega arith)
later_than-drop time zero (x ∷ xs) le over later =
    let above : nat_le x.0 time ≡ false = later 0 (0, 0) (omega arith) (omega arith) in
    let test : nat_lt time x.0 ≡ true = grind (arith, nat_tests) in
    rw test
    (ap (λ (ys : List (ℕ × ℕ)). x ∷ ys)
    (later_than-drop time zero xs (omega arith) (λ k d low high. absurd (omega arith)) (λ k d low high. later (suc k) d (omega arith) (omega arith))))
later_than-drop time (suc place) (x ∷ xs) le over later =
    let below : nat_le x.0 time ≡ true = over 0 (0, 0) (omega arith) (omega arith) in
    let test : nat_lt time x.0 ≡ false = grind (arith, nat_tests) in
    rw test
    (later_than-drop time place xs (omega arith) (λ k d low high. over (suc k) d (omega arith) (omega arith)) (λ k d low high. later (suc k) d (omega arith) (omega arith)))

-- where the changes before a place are those that are earlier than a time, they are the earlier ones
pub earlier_than-take : (time place : ℕ) (changes : List (ℕ × ℕ)) → place ≤ length changes → AllWithin (λ (c : ℕ × ℕ). nat_lt c.0 time ≡ true) changes 0 place → AllWithin (λ (c : ℕ × ℕ). nat_lt c.0 time ≡ false) changes place (length changes) → take place changes ≡ earlier_than time changes
earlier_than-take time zero [] le over later = refl
earlier_than-take time (suc place) [] le over later = absurd (omega arith)
earlier_than-take time zero (x ∷ xs) le over later =
    let above : nat_lt x.0 time ≡ false = later 0 (0, 0) (omega arith) (omega arith) in
    rw above
    (earlier_than-take time zero xs (omega arith) (λ k d low high. absurd (omega arith)) (λ k d low high. later (suc k) d (omega arith) (omega arith)))
earlier_than-take time (suc place) (x ∷ xs) le over later =
    let below : nat_lt x.0 time ≡ true = over 0 (0, 0) (omega arith) (omega arith) in
    rw below
    (ap (λ (ys : List (ℕ × ℕ)). x ∷ ys)
    (earlier_than-take time place xs (omega arith) (λ k d low high. over (suc k) d (omega arith) (omega arith)) (λ k d low high. later (suc k) d (omega arith) (omega arith))))

-- of changes after a time none is earlier than that
pub none_earlier : (time before level : ℕ) (changes : List (ℕ × ℕ)) → time ≤ before + 1 → AreChanges before level changes → earlier_than time changes ≡ []
none_earlier time before level [] le are = refl
none_earlier time before level (x ∷ xs) le are =
    rw (nat_lt-false x.0 time (omega (arith, are.0))) (none_earlier time x.0 x.1 xs (omega (arith, are.0)) are.2)

-- and all are later
pub all_later : (time before level : ℕ) (changes : List (ℕ × ℕ)) → time ≤ before → AreChanges before level changes → later_than time changes ≡ changes
all_later time before level [] le are = refl
all_later time before level (x ∷ xs) le are =
    rw (nat_lt-true time x.0 (omega (arith, are.0))) (ap (λ (ys : List (ℕ × ℕ)). x ∷ ys) (all_later time x.0 x.1 xs (omega (arith, are.0)) are.2))

-- the earlier changes are changes
pub AreChanges-earlier_than : (time before level : ℕ) (changes : List (ℕ × ℕ)) → AreChanges before level changes → AreChanges before level (earlier_than time changes)
AreChanges-earlier_than time before level [] are = tt
AreChanges-earlier_than time before level (x ∷ xs) are =
    elim (cases_lt x.0 time) as (λ _. AreChanges before level (earlier_than time (x ∷ xs))) [
      | inl sooner ↦ rw (nat_lt-true x.0 time sooner) (are.0, are.1, AreChanges-earlier_than time x.0 x.1 xs are.2)
      | inr later ↦
          rw (nat_lt-false x.0 time later, none_earlier time x.0 x.1 xs (omega arith) are.2) tt
    ]

-- they all come before the time
pub last_time-earlier_than : (time before level : ℕ) (changes : List (ℕ × ℕ)) → before < time → AreChanges before level changes → last_time before (earlier_than time changes) < time
last_time-earlier_than time before level [] lt are = lt
last_time-earlier_than time before level (x ∷ xs) lt are =
    elim (cases_lt x.0 time) as (λ _. last_time before (earlier_than time (x ∷ xs)) < time) [
      | inl sooner ↦ rw (nat_lt-true x.0 time sooner) (last_time-earlier_than time x.0 x.1 xs sooner are.2)
      | inr later ↦ rw (nat_lt-false x.0 time later, none_earlier time x.0 x.1 xs (omega arith) are.2) lt
    ]

-- they give the levels before the time
pub level_from-earlier_than : (time before level t : ℕ) (changes : List (ℕ × ℕ)) → t < time → AreChanges before level changes → level_from level (earlier_than time changes) t ≡ level_from level changes t
level_from-earlier_than time before level t [] lt are = refl
level_from-earlier_than time before level t (x ∷ xs) lt are =
    elim (cases_lt x.0 time) as (λ _. level_from level (earlier_than time (x ∷ xs)) t ≡ level_from level (x ∷ xs) t) [
      | inl sooner ↦
          rw (nat_lt-true x.0 time sooner)
          (ap (λ v. cond (nat_le x.0 t) v level) (level_from-earlier_than time x.0 x.1 t xs lt are.2))
      | inr later ↦
          rw (nat_lt-false x.0 time later, none_earlier time x.0 x.1 xs (omega arith) are.2, nat_le-false x.0 t (omega arith)) refl
    ]

-- their last level is the one just before the time
pub last_from-earlier_than : (time before level : ℕ) (changes : List (ℕ × ℕ)) → before < time → AreChanges before level changes → last_from level (earlier_than time changes) ≡ level_from level changes (time - 1)
last_from-earlier_than time before level [] lt are = refl
last_from-earlier_than time before level (x ∷ xs) lt are =
    elim (cases_lt x.0 time) as (λ _. last_from level (earlier_than time (x ∷ xs)) ≡ level_from level (x ∷ xs) (time - 1)) [
      | inl sooner ↦
          rw (nat_lt-true x.0 time sooner, nat_le-true x.0 (time - 1) (omega arith))
          (last_from-earlier_than time x.0 x.1 xs sooner are.2)
      | inr later ↦
          rw (nat_lt-false x.0 time later, none_earlier time x.0 x.1 xs (omega arith) are.2, nat_le-false x.0 (time - 1) (omega arith)) refl
    ]

-- changes that are over give their last level
pub level_from-over : (before level t : ℕ) (changes : List (ℕ × ℕ)) → AreChanges before level changes → last_time before changes ≤ t → level_from level changes t ≡ last_from level changes
level_from-over before level t changes are over =
    sym (ap (λ xs. level_from level xs t) (append-nil changes)) ∙ level_from-append_over before level t changes [] are over

pub kept_levels : (wave : Waveform) (upto t : ℕ) → IsWaveform wave → 0 < upto →
    (t < upto → level_of (kept_before upto wave) t ≡ level_of wave t) × (upto ≤ t → level_of (kept_before upto wave) t ≡ level_of wave (upto - 1))
kept_levels wave upto t form some = (
  λ before. level_from-earlier_than upto 0 wave.initial t wave.changes before form,
  λ after.
      level_from-over 0 wave.initial t (earlier_than upto wave.changes) (AreChanges-earlier_than upto 0 wave.initial wave.changes form)
      (omega (arith, last_time-earlier_than upto 0 wave.initial wave.changes some form))
      ∙ last_from-earlier_than upto 0 wave.initial wave.changes some form,
)

-- of a wave of one bit, what is kept before a time is of one bit
pub kept_low : (wave : Waveform) (upto t : ℕ) → IsWaveform wave → 0 < upto → ((u : ℕ) → level_of wave u ≤ 1) → level_of (kept_before upto wave) t ≤ 1
kept_low wave upto t form some low =
    elim (cases_lt t upto) as (λ _. level_of (kept_before upto wave) t ≤ 1) [
      | inl sooner ↦ subst (λ (v : ℕ). v ≤ 1) (sym ((kept_levels wave upto t form some).0 sooner)) (low t)
      | inr later ↦ subst (λ (v : ℕ). v ≤ 1) (sym ((kept_levels wave upto t form some).1 later)) (low (upto - 1))
    ]

-- from the level at a time, the later changes give the levels
pub level_from-later_than : (from before level t : ℕ) (changes : List (ℕ × ℕ)) → from ≤ t → AreChanges before level changes → level_from (level_from level changes from) (later_than from changes) t ≡ level_from level changes t
level_from-later_than from before level t [] le are = refl
level_from-later_than from before level t (x ∷ xs) le are =
    elim (cases_lt from x.0) as (λ _. level_from (level_from level (x ∷ xs) from) (later_than from (x ∷ xs)) t ≡ level_from level (x ∷ xs) t) [
      | inl later ↦
          rw (nat_lt-true from x.0 later, nat_le-false x.0 from later, all_later from x.0 x.1 xs (omega arith) are.2) refl
      | inr sooner ↦
          rw (nat_lt-false from x.0 sooner, nat_le-true x.0 from sooner, nat_le-true x.0 t (omega arith))
          (level_from-later_than from x.0 x.1 t xs le are.2)
    ]

-- the later changes are changes from there on
pub AreChanges-later_than : (from before level : ℕ) (changes : List (ℕ × ℕ)) → before ≤ from → AreChanges before level changes → AreChanges from (level_from level changes from) (later_than from changes)
AreChanges-later_than from before level [] le are = tt
AreChanges-later_than from before level (x ∷ xs) le are =
    elim (cases_lt from x.0) as (λ _. AreChanges from (level_from level (x ∷ xs) from) (later_than from (x ∷ xs))) [
      | inl later ↦
          rw (nat_lt-true from x.0 later, nat_le-false x.0 from later, all_later from x.0 x.1 xs (omega arith) are.2) (later, are.1, are.2)
      | inr sooner ↦
          rw (nat_lt-false from x.0 sooner, nat_le-true x.0 from sooner) (AreChanges-later_than from x.0 x.1 xs sooner are.2)
    ]

pub cut_levels : (wave : Waveform) (from to t : ℕ) → IsWaveform wave → from ≤ t → t < to → level_from (level_of wave from) (between from to wave.changes) t ≡ level_of wave t
cut_levels wave from to t form low high =
    level_from-earlier_than to from (level_of wave from) t (later_than from wave.changes) high (AreChanges-later_than from 0 wave.initial wave.changes (omega arith) form)
    ∙ level_from-later_than from 0 wave.initial t wave.changes low form

-- the changes of a cut are changes, and come before its end
pub AreChanges-between : (wave : Waveform) (from to : ℕ) → IsWaveform wave → AreChanges from (level_of wave from) (between from to wave.changes)
AreChanges-between wave from to form =
    AreChanges-earlier_than to from (level_of wave from) (later_than from wave.changes) (AreChanges-later_than from 0 wave.initial wave.changes (omega arith) form)

pub last_time-between : (wave : Waveform) (from to : ℕ) → IsWaveform wave → from < to → last_time from (between from to wave.changes) < to
last_time-between wave from to form lt =
    last_time-earlier_than to from (level_of wave from) (later_than from wave.changes) lt (AreChanges-later_than from 0 wave.initial wave.changes (omega arith) form)
