-- Lemmas on the changes of a level over time, and the wave that they make.
use Rattle.std.proofs.Common.{◌≡◌, ◌≢◌, ℕ, ◌+◌, ◌<◌, ◌≤◌, Bool, true, false, cond, List, [], ◌∷◌, ◌++◌, ◌==◌, zero, suc, refl, ap, sym, subst, ◌∙◌, arith, inl, inr, append_assoc, append-nil, add-zero, add-suc, add-one, zero-add, add_assoc}
use Rattle.std.proofs.lemmas.Bool.{eqb-true, eqb-false, cases_lt}
use Rattle.mp_wave.specs.Waveform.{Waveform, IsWaveform, AreChanges, level_from, level_of, last_from, last_time, held_from, change_after, changes_after, wave_upto}
use Rattle.mp_wave.proofs.WaveformLemmas.{nat_le-true, nat_le-false, last_from-append, last_time-append, AreChanges-earlier, AreChanges-append, level_from-append_later, level_from-append_over}

-- one change, or none where a test says that nothing changes
abbrev unless_same : Bool → ℕ → ℕ → List (ℕ × ℕ)
unless_same same time new = cond same [] ((time, new) ∷ [])

last_from-unless_same : (same : Bool) (old time new : ℕ) → (same ≡ true → old ≡ new) → last_from old (unless_same same time new) ≡ new
last_from-unless_same true old time new means = means refl
last_from-unless_same false old time new means = refl

last_time-after : (same : Bool) (sooner time new : ℕ) → sooner ≤ time → last_time sooner (unless_same same (suc time) new) ≤ suc time
last_time-after true sooner time new le = omega arith
last_time-after false sooner time new le = omega arith

AreChanges-unless_same : (same : Bool) (time old new : ℕ) → (same ≡ false → old ≢ new) → AreChanges time old (unless_same same (suc time) new)
AreChanges-unless_same true time old new means = tt
AreChanges-unless_same false time old new means = (omega arith, means refl, tt)

level_from-unless_same : (same : Bool) (t v time new : ℕ) → t < time → level_from v (unless_same same time new) t ≡ v
level_from-unless_same true t v time new lt = refl
level_from-unless_same false t v time new lt = rw (nat_le-false time t lt) refl

level_from-unless_same_at : (same : Bool) (time old new : ℕ) → (same ≡ true → old ≡ new) → level_from old (unless_same same time new) time ≡ new
level_from-unless_same_at true time old new means = means refl
level_from-unless_same_at false time old new means = rw (nat_le-true time time (omega arith)) refl

-- the last level is that of the last time
pub last_from-changes_after : (level : ℕ → ℕ) (t n : ℕ) → last_from (level t) (changes_after level t n) ≡ level (t + n)
last_from-changes_after level t zero = ap level (sym (add-zero t))
last_from-changes_after level t (suc n) =
    last_from-append (level t) (changes_after level t n) (change_after level (t + n))
    ∙ ap (λ v. last_from v (change_after level (t + n))) (last_from-changes_after level t n)
    ∙ last_from-unless_same (level (t + n) == level (suc (t + n))) (level (t + n)) (suc (t + n)) (level (suc (t + n))) (λ same. eqb-true (level (t + n)) (level (suc (t + n))) same)
    ∙ ap level (sym (add-suc t n))

pub last_time-changes_after : (level : ℕ → ℕ) (t n : ℕ) → last_time t (changes_after level t n) ≤ t + n
last_time-changes_after level t zero = omega arith
last_time-changes_after level t (suc n) =
    let before = last_time-changes_after level t n in
    rw (last_time-append t (changes_after level t n) (change_after level (t + n)))
    (omega (arith, before, last_time-after (level (t + n) == level (suc (t + n))) (last_time t (changes_after level t n)) (t + n) (level (suc (t + n))) before))

-- the changes of a level are changes
pub AreChanges-changes_after : (level : ℕ → ℕ) (t n : ℕ) → AreChanges t (level t) (changes_after level t n)
AreChanges-changes_after level t zero = tt
AreChanges-changes_after level t (suc n) =
    AreChanges-append t (level t) (changes_after level t n) (change_after level (t + n)) (AreChanges-changes_after level t n)
    (rw (last_from-changes_after level t n)
    (AreChanges-earlier (last_time t (changes_after level t n)) (t + n) (level (t + n)) (change_after level (t + n)) (last_time-changes_after level t n)
    (AreChanges-unless_same (level (t + n) == level (suc (t + n))) (t + n) (level (t + n)) (level (suc (t + n))) (λ differ. eqb-false (level (t + n)) (level (suc (t + n))) differ))))

-- the changes of a level give its levels
pub level_from-changes_after : (level : ℕ → ℕ) (t n s : ℕ) → t ≤ s → s ≤ t + n → level_from (level t) (changes_after level t n) s ≡ level s
level_from-changes_after level t zero s from upto = let same : t ≡ s = omega arith in ap level same
level_from-changes_after level t (suc n) s from upto =
    let xs = changes_after level t n in
    let u = t + n in
    let changed = level u == level (suc u) in
    elim (cases_lt s (suc u)) as (λ _. level_from (level t) (changes_after level t (suc n)) s ≡ level s) [
      | inl before ↦
          level_from-append_later (level t) s xs (change_after level u) (λ v. level_from-unless_same changed s v (suc u) (level (suc u)) before)
          ∙ level_from-changes_after level t n s from (omega arith)
      | inr after ↦
          let last : suc u ≡ s = omega arith in
          level_from-append_over t (level t) s xs (change_after level u) (AreChanges-changes_after level t n) (omega (arith, last_time-changes_after level t n))
          ∙ ap (λ v. level_from v (change_after level u) s) (last_from-changes_after level t n)
          ∙ subst (λ (k : ℕ). level_from (level u) (change_after level u) k ≡ level k) last
          (level_from-unless_same_at changed (suc u) (level u) (level (suc u)) (λ same. eqb-true (level u) (level (suc u)) same))
    ]

-- the changes of two spans, one after the other, are those of both
pub changes_join : (level : ℕ → ℕ) (t m n : ℕ) → changes_after level t (m + n) ≡ changes_after level t m ++ changes_after level (t + m) n
changes_join level t m zero = rw (add-zero m) (sym (append-nil (changes_after level t m)))
changes_join level t m (suc n) =
    rw (add-suc m n)
    (ap (λ xs. xs ++ change_after level (t + (m + n))) (changes_join level t m n)
    ∙ append_assoc (changes_after level t m) (changes_after level (t + m) n) (change_after level (t + (m + n)))
    ∙ ap (λ k. changes_after level t m ++ (changes_after level (t + m) n ++ change_after level k)) (sym (add_assoc t m n)))

-- the wave of a level has that level, up to its last time
pub levels_of_wave : (level : ℕ → ℕ) (n t : ℕ) → t ≤ n → level_of (wave_upto level n) t ≡ level t
levels_of_wave level n t le = level_from-changes_after level 0 n t (omega arith) (omega arith)

-- the wave of a level is in form
pub form_of_wave : (level : ℕ → ℕ) (n : ℕ) → IsWaveform (wave_upto level n)
form_of_wave level n = AreChanges-changes_after level 0 n

held_or_not : (same : Bool) (initial time new : ℕ) (changes : List (ℕ × ℕ)) → cond same (let wave : Waveform = record { initial = initial; changes = changes } in wave) (record { initial = initial; changes = changes ++ (time, new) ∷ [] }) ≡ record { initial = initial; changes = changes ++ unless_same same time new }
held_or_not true initial time new changes = ap (λ (xs : List (ℕ × ℕ)). let wave : Waveform = record { initial = initial; changes = xs } in wave) (sym (append-nil changes))
held_or_not false initial time new changes = refl

-- to hold the level of the next time is to go one time further
pub held : (level : ℕ → ℕ) (n : ℕ) → held_from (wave_upto level n) (n + 1) (level (n + 1)) ≡ wave_upto level (n + 1)
held level n =
    rw (add-one n, last_from-changes_after level 0 n, zero-add n)
    (held_or_not (level n == level (suc n)) (level 0) (suc n) (level (suc n)) (changes_after level 0 n))
