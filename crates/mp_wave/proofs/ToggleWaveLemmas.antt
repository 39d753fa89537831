-- Toggles as changes.
use Rattle.std.proofs.Common.{◌≡◌, ◌≢◌, ℕ, zero, suc, ◌+◌, ◌-◌, ◌<◌, ◌≤◌, Bool, true, false, cond, List, [], ◌∷◌, ◌++◌, refl, ap, ◌∙◌, arith, append-nil, subst}
use Rattle.std.specs.Prelude.{◌==◌}
use Rattle.std.proofs.lemmas.Bool.{eqb-true, eqb-false}
use Rattle.mp_wave.specs.Waveform.{Waveform, AreChanges, level_from, last_from, last_time, changes_after}
use Rattle.mp_wave.proofs.WaveformLemmas.{last_from-append, level_from-before, level_from-first, level_from-rest}
use Rattle.mp_wave.specs.ToggleWaves.{toggle_changes, times_of, AreTimes, toggle_wave, toggled_at, times_upto, ToggleWavesAreWaves}

other : (level : ℕ) → level ≢ 1 - level
other level same = omega arith

pub are_changes : (before level : ℕ) (times : List ℕ) → AreTimes before times → AreChanges before level (toggle_changes level times)
are_changes before level [] are = tt
are_changes before level (time ∷ times) are = (are.0, other level, are_changes time (1 - level) times are.1)

-- one more time is one more change
pub one_more : (level time : ℕ) (times : List ℕ) →
    toggle_changes level (times ++ time ∷ []) ≡ toggle_changes level times ++ (time, 1 - last_from level (toggle_changes level times)) ∷ []
one_more level time [] = refl
one_more level time (t ∷ times) = ap (λ rest. (t, 1 - level) ∷ rest) (one_more (1 - level) time times)

pub one_later : (before level time : ℕ) (times : List ℕ) → AreTimes before times → last_time before (toggle_changes level times) < time →
    AreTimes before (times ++ time ∷ [])
one_later before level time [] are later = (later, tt)
one_later before level time (t ∷ times) are later = (are.0, one_later t (1 - level) time times are.1 later)

pub last_toggle : (level last : ℕ) (times : List ℕ) → level ≤ 1 → last_from level (toggle_changes level times) ≤ 1
last_toggle level last [] low = low
last_toggle level last (t ∷ times) low = last_toggle (1 - level) last times (omega arith)

-- the next unit, in which the level changes or stays
record Goes (level0 : ℕ) (times next : List ℕ) (change : List (ℕ × ℕ)) (now : ℕ) : Type 0 where
  is : toggle_changes level0 (times ++ next) ≡ toggle_changes level0 times ++ change
  last : last_from level0 (toggle_changes level0 (times ++ next)) ≡ now

goes : (level0 : ℕ) (times : List ℕ) (t v w : ℕ) (same : Bool) → (v == w) ≡ same → v ≤ 1 → w ≤ 1 → last_from level0 (toggle_changes level0 times) ≡ v →
    Goes level0 times (cond same [] (suc t ∷ [])) (cond same [] ((suc t, w) ∷ [])) w
goes level0 times t v w true same hv hw last = record {
  is = rw (append-nil times, append-nil (toggle_changes level0 times)) refl;
  last = rw (append-nil times) (last ∙ eqb-true v w same);
}
goes level0 times t v w false same hv hw last =
    let differ : v ≢ w = eqb-false v w same in
    let turned : 1 - last_from level0 (toggle_changes level0 times) ≡ w = rw last (omega arith) in
    let is = one_more level0 (suc t) times ∙ ap (λ u. toggle_changes level0 times ++ (suc t, u) ∷ []) turned in
    record {
      is = is;
      last = ap (λ changes. last_from level0 changes) is ∙ last_from-append level0 (toggle_changes level0 times) ((suc t, w) ∷ []);
    }

record Reaches (level : ℕ → ℕ) (last : ℕ) : Type 0 where
  changes : toggle_changes (level 0) (times_upto level last) ≡ changes_after level 0 last
  now : last_from (level 0) (toggle_changes (level 0) (times_upto level last)) ≡ level last

reaches : (level : ℕ → ℕ) (last : ℕ) → ((t : ℕ) → level t ≤ 1) → Reaches level last
reaches level zero low = record { changes = refl; now = refl }
reaches level (suc t) low =
    let before = reaches level t low in
    let g = goes (level 0) (times_upto level t) t (level t) (level (suc t)) (level t == level (suc t)) refl (low t) (low (suc t)) before.now in
    let from_zero : 0 + t ≡ t = omega arith in
    record {
      changes = g.is ∙ rw (from_zero, before.changes) refl;
      now = g.last;
    }

pub toggle_waves_are_waves : ToggleWavesAreWaves
toggle_waves_are_waves level last low =
    let r = reaches level last low in
    ap (λ changes. let wave : Waveform = record { initial = level 0; changes = changes } in wave) r.changes

pub toggled : (level time : ℕ) (times new : List ℕ) (wave : Waveform) → toggle_wave level times ≡ wave → new ≡ times ++ time ∷ [] →
    toggle_wave level new ≡ toggled_at wave time
toggled level time times new wave is more =
    subst (λ (w : Waveform). toggle_wave level new ≡ toggled_at w time) is
    (ap (λ ts. toggle_wave level ts) more ∙
    ap (λ changes. let w : Waveform = record { initial = level; changes = changes } in w) (one_more level time times))

-- the times of toggles
pub times_of-toggles : (level : ℕ) (times : List ℕ) → times_of (toggle_changes level times) ≡ times
times_of-toggles level [] = refl
times_of-toggles level (time ∷ times) = ap (λ (rest : List ℕ). time ∷ rest) (times_of-toggles (1 - level) times)

-- the times of changes rise
pub times_of-rise : (before level : ℕ) (changes : List (ℕ × ℕ)) → AreChanges before level changes → AreTimes before (times_of changes)
times_of-rise before level [] are = tt
times_of-rise before level (x ∷ xs) are = (are.0, times_of-rise x.0 x.1 xs are.2)

-- changes of a level of one bit are toggles
pub toggles_of : (before level : ℕ) (changes : List (ℕ × ℕ)) → AreChanges before level changes → ((t : ℕ) → before ≤ t → level_from level changes t ≤ 1) →
    toggle_changes level (times_of changes) ≡ changes
toggles_of before level [] are low = refl
toggles_of before level (x ∷ xs) are low =
    let was : level ≤ 1 = subst (λ (v : ℕ). v ≤ 1) (level_from-before before level before (x ∷ xs) are (omega arith)) (low before (omega arith)) in
    let is : x.1 ≤ 1 = subst (λ (v : ℕ). v ≤ 1) (level_from-first before level x xs are) (low x.0 (omega (arith, are.0))) in
    let differ : level ≢ x.1 = are.1 in
    let turned : 1 - level ≡ x.1 = omega arith in
    let later : (t : ℕ) → x.0 ≤ t → level_from x.1 xs t ≤ 1 = λ t le. subst (λ (v : ℕ). v ≤ 1) (level_from-rest level t x xs le) (low t (omega (arith, are.0))) in
    ap (λ (v : ℕ). (x.0, v) ∷ toggle_changes v (times_of xs)) turned
    ∙ ap (λ (rest : List (ℕ × ℕ)). x ∷ rest) (toggles_of x.0 x.1 xs are.2 later)
