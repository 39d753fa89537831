-- A wave that is put off by a delay.
use Rattle.std.proofs.Common.{◌≡◌, ℕ, ◌+◌, ◌-◌, ◌^◌, ◌<◌, Bool, true, false, cond, List, [], ◌∷◌, length, get_or, nat_le, nat_lt, zero, suc, refl, ap, sym, subst, ◌∙◌, arith, inl, inr}
use Rattle.std.specs.List.{All}
use Rattle.std.proofs.lemmas.Bool.{cases_Bool, ltb-true}
use Rattle.std.proofs.lemmas.Bool.Decides.{nat_tests}
use Rattle.mp_wave.specs.Waveform.{Waveform, IsWaveform, AreChanges, level_from, level_of, later_than, earlier_than, between}
use Rattle.mp_wave.proofs.WaveformLemmas.{AreChanges-earlier}
use Rattle.mp_model.specs.response.Pieces.{put_off, later_by}

-- each level of the later wave is the level of so much before, or that at time 0
late_level : (delay t v time : ℕ) (xs : List (ℕ × ℕ)) → AreChanges time v xs → level_from v (put_off delay xs) t ≡ level_from v xs (t - delay)
late_level delay t v time [] are = refl
late_level delay t v time (x ∷ xs) are =
    let after = are.0 in
    let same : nat_le (x.0 + delay) t ≡ nat_le x.0 (t - delay) = grind (arith, nat_tests) in
    rw same (ap (λ w. cond (nat_le x.0 (t - delay)) w v) (late_level delay t x.1 x.0 xs are.2))

pub late_level_of : (delay t : ℕ) (wave : Waveform) → IsWaveform wave → level_of (later_by delay wave) t ≡ level_of wave (t - delay)
late_level_of delay t wave form = late_level delay t wave.initial 0 wave.changes form

AreChanges-put_off : (delay time v : ℕ) (xs : List (ℕ × ℕ)) → AreChanges time v xs → AreChanges (time + delay) v (put_off delay xs)
AreChanges-put_off delay time v [] are = tt
AreChanges-put_off delay time v (x ∷ xs) are = (omega (arith, are.0), are.1, AreChanges-put_off delay x.0 x.1 xs are.2)

-- the later wave is a wave
pub IsWaveform-later_by : (delay : ℕ) (wave : Waveform) → IsWaveform wave → IsWaveform (later_by delay wave)
IsWaveform-later_by delay wave form = AreChanges-earlier 0 (0 + delay) wave.initial (put_off delay wave.changes) (omega arith) (AreChanges-put_off delay 0 wave.initial wave.changes form)

later_than-put_off : (delay from time v : ℕ) (xs : List (ℕ × ℕ)) → AreChanges time v xs → later_than from (put_off delay xs) ≡ put_off delay (later_than (from - delay) xs)
later_than-put_off delay from time v [] are = refl
later_than-put_off delay from time v (x ∷ xs) are =
    let after = are.0 in
    let same : nat_lt from (x.0 + delay) ≡ nat_lt (from - delay) x.0 = grind (arith, nat_tests) in
    let others = later_than-put_off delay from x.0 x.1 xs are.2 in
    elim (cases_Bool (nat_lt (from - delay) x.0)) as (λ _. later_than from (put_off delay (x ∷ xs)) ≡ put_off delay (later_than (from - delay) (x ∷ xs))) [
      | inl holds ↦ rw (same, holds) (ap (λ ys. (x.0 + delay, x.1) ∷ ys) others)
      | inr fails ↦ rw (same, fails) others
    ]

earlier_than-put_off : (delay to : ℕ) (xs : List (ℕ × ℕ)) → earlier_than to (put_off delay xs) ≡ put_off delay (earlier_than (to - delay) xs)
earlier_than-put_off delay to [] = refl
earlier_than-put_off delay to (x ∷ xs) =
    let same : nat_lt (x.0 + delay) to ≡ nat_lt x.0 (to - delay) = grind (arith, nat_tests) in
    let others = earlier_than-put_off delay to xs in
    elim (cases_Bool (nat_lt x.0 (to - delay))) as (λ _. earlier_than to (put_off delay (x ∷ xs)) ≡ put_off delay (earlier_than (to - delay) (x ∷ xs))) [
      | inl holds ↦ rw (same, holds) (ap (λ ys. (x.0 + delay, x.1) ∷ ys) others)
      | inr fails ↦ rw (same, fails) others
    ]

-- the changes of the later wave between two times
between-put_off : (delay from to : ℕ) (wave : Waveform) → IsWaveform wave → put_off delay (between (from - delay) (to - delay) wave.changes) ≡ between from to (put_off delay wave.changes)
between-put_off delay from to wave form =
    sym (ap (earlier_than to) (later_than-put_off delay from 0 wave.initial wave.changes form) ∙ earlier_than-put_off delay to (later_than (from - delay) wave.changes))

-- what is earlier than a time is before it
earlier_below : (time : ℕ) (xs : List (ℕ × ℕ)) → All (λ (x : ℕ × ℕ). x.0 < time) (earlier_than time xs)
earlier_below time [] = λ k d within. absurd (omega arith)
earlier_below time (x ∷ xs) = by (nat_lt x.0 time) refl (earlier_below time xs)
  where
    by : (b : Bool) → nat_lt x.0 time ≡ b → All (λ (y : ℕ × ℕ). y.0 < time) (earlier_than time xs) → All (λ (y : ℕ × ℕ). y.0 < time) (cond b (x ∷ earlier_than time xs) (earlier_than time xs))
    by false test others = others
    by true test others = first
      where
        first : All (λ (y : ℕ × ℕ). y.0 < time) (x ∷ earlier_than time xs)
        first zero d within = ltb-true x.0 time test
        first (suc k) d within = others k d (omega arith)

-- what comes before a time is in range when it is put off no further
pub late_fits : (delay from to end : ℕ) (xs seen : List (ℕ × ℕ)) → end ≡ to - delay → to < 2 ^ 32 → seen ≡ between from end xs → All (λ (x : ℕ × ℕ). x.0 + delay < 2 ^ 32) seen
late_fits delay from to end xs seen same top is k d within =
    let early = earlier_than end (later_than from xs) in
    let here : k < length early = subst (λ (ys : List (ℕ × ℕ)). k < length ys) is within in
    let below = earlier_below end (later_than from xs) k d here in
    let fits : (get_or early k d).0 + delay < 2 ^ 32 = omega (arith, below, same, top) in
    subst (λ (ys : List (ℕ × ℕ)). (get_or ys k d).0 + delay < 2 ^ 32) (sym is) fits

-- the changes between the times before the delay, put off, are those of the later wave
pub late_changes : (delay from to start end : ℕ) (wave : Waveform) (seen late : List (ℕ × ℕ)) → IsWaveform wave → start ≡ from - delay → end ≡ to - delay → seen ≡ between start end wave.changes → late ≡ put_off delay seen
    → late ≡ between from to (put_off delay wave.changes)
late_changes delay from to start end wave seen late form first last is put =
    put ∙ ap (put_off delay) (is ∙ ap (λ a. between a end wave.changes) first ∙ ap (λ b. between (from - delay) b wave.changes) last) ∙ between-put_off delay from to wave form
