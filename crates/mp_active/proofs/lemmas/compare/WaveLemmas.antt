-- Levels of an old run about a change.
use Rattle.std.proofs.Common.{◌≡◌, ◌≢◌, ℕ, zero, suc, ◌+◌, ◌-◌, ◌<◌, ◌≤◌, cond, List, [], ◌∷◌, length, refl, sym, ap, ◌∙◌, arith, inl, inr, ◌⊎◌}
use Rattle.std.specs.Prelude.{nat_le, Option, Some, None}
use Rattle.std.proofs.lemmas.Bool.{le-leb, lt-leb}
use Rattle.mp_wave.specs.Waveform.{Waveform, AreChanges, level_from}
use Rattle.mp_wave.specs.Faults.{pair_at}
use Rattle.mp_active.specs.compare.Comparing.{changes_of_wave, wave_or_none}

-- at two times after which the same changes come there is one level
same_level : (level : ℕ) (changes : List (ℕ × ℕ)) (a b : ℕ) → ((k : ℕ) → k < length changes → nat_le (pair_at changes k).0 a ≡ nat_le (pair_at changes k).0 b) →
    level_from level changes a ≡ level_from level changes b
same_level level [] a b same = refl
same_level level (change ∷ changes) a b same =
    ap (λ t. cond t (level_from change.1 changes a) level) (same 0 (omega arith))
    ∙ ap (λ n. cond (nat_le change.0 b) n level) (same_level change.1 changes a b (λ k low. same (suc k) (omega arith)))

pub rises : (time level : ℕ) (changes : List (ℕ × ℕ)) (p : ℕ) → AreChanges time level changes → p < length changes → time < (pair_at changes p).0
rises time level [] p is low = absurd (omega arith)
rises time level (change ∷ changes) zero is low = is.0
rises time level (change ∷ changes) (suc p) is low =
    let later = rises change.0 change.1 changes p is.2 (omega arith) in
    let first = is.0 in
    omega arith

not_yet : (time level : ℕ) (changes : List (ℕ × ℕ)) (t : ℕ) → AreChanges time level changes → t ≤ time → level_from level changes t ≡ level
not_yet time level [] t is early = refl
not_yet time level (change ∷ changes) t is early = ap (λ b. cond b (level_from change.1 changes t) level) (lt-leb change.0 t (let first = is.0 in omega arith))

level_there : (time level : ℕ) (changes : List (ℕ × ℕ)) (p t : ℕ) → AreChanges time level changes → p < length changes → (pair_at changes p).0 ≡ t →
    level_from level changes t ≡ (pair_at changes p).1
level_there time level [] p t is low at = absurd (omega arith)
level_there time level (change ∷ changes) zero t is low at =
    ap (λ b. cond b (level_from change.1 changes t) level) (le-leb change.0 t (omega arith)) ∙ not_yet change.0 change.1 changes t is.2 (omega arith)
level_there time level (change ∷ changes) (suc p) t is low at =
    let later = rises change.0 change.1 changes p is.2 (omega arith) in
    ap (λ b. cond b (level_from change.1 changes t) level) (le-leb change.0 t (omega arith)) ∙ level_there change.0 change.1 changes p t is.2 (omega arith) at

differs : (time level : ℕ) (changes : List (ℕ × ℕ)) (p t : ℕ) → AreChanges time level changes → p < length changes → t < (pair_at changes p).0 →
    ((k : ℕ) → k < p → (pair_at changes k).0 ≤ t) → level_from level changes t ≢ (pair_at changes p).1
differs time level [] p t is low before past = absurd (omega arith)
differs time level (change ∷ changes) zero t is low before past =
    λ e. is.1 (sym (ap (λ b. cond b (level_from change.1 changes t) level) (lt-leb change.0 t before)) ∙ e)
differs time level (change ∷ changes) (suc p) t is low before past =
    λ e. differs change.0 change.1 changes p t is.2 (omega arith) before (λ k less. past (suc k) (omega arith))
    (sym (ap (λ b. cond b (level_from change.1 changes t) level) (le-leb change.0 t (past 0 (omega arith)))) ∙ e)

-- of two times after one another: where no change comes so much later at the second, the level stays
pub level_stays : (level : ℕ) (changes : List (ℕ × ℕ)) (d t u : ℕ) → t + 1 ≡ u → AreChanges 0 level changes →
    ((k : ℕ) → k < length changes → ((pair_at changes k).0 + d ≤ t) ⊎ (u < (pair_at changes k).0 + d)) → level_from level changes (u - d) ≡ level_from level changes (t - d)
level_stays level changes d t u next is each = same_level level changes (u - d) (t - d) (λ k low. by k low (each k low))
  where
    by : (k : ℕ) → k < length changes → ((pair_at changes k).0 + d ≤ t) ⊎ (u < (pair_at changes k).0 + d) → nat_le (pair_at changes k).0 (u - d) ≡ nat_le (pair_at changes k).0 (t - d)
    by k low (inl over) = le-leb (pair_at changes k).0 (u - d) (omega arith) ∙ sym (le-leb (pair_at changes k).0 (t - d) (omega arith))
    by k low (inr later) =
        let some = rises 0 level changes k is low in
        lt-leb (pair_at changes k).0 (u - d) (omega arith) ∙ sym (lt-leb (pair_at changes k).0 (t - d) (omega arith))

-- where a change does, its level is the one from then on, and there is another before
pub level_comes : (level : ℕ) (changes : List (ℕ × ℕ)) (d u p : ℕ) → AreChanges 0 level changes → p < length changes → u ≡ (pair_at changes p).0 + d →
    level_from level changes (u - d) ≡ (pair_at changes p).1
level_comes level changes d u p is low at = level_there 0 level changes p (u - d) is low (omega arith)

pub level_leaves : (level : ℕ) (changes : List (ℕ × ℕ)) (d t u p : ℕ) → t + 1 ≡ u → AreChanges 0 level changes → p < length changes → u ≡ (pair_at changes p).0 + d →
    ((k : ℕ) → k < p → (pair_at changes k).0 + d ≤ t) → level_from level changes (t - d) ≢ (pair_at changes p).1
level_leaves level changes d t u p next is low at past =
    let some = rises 0 level changes p is low in
    differs 0 level changes p (t - d) is low (omega arith) (λ k less. let early = past k less in omega arith)

-- a later change has a later time
pub in_order : (time level : ℕ) (changes : List (ℕ × ℕ)) (p k : ℕ) → AreChanges time level changes → p ≤ k → k < length changes → (pair_at changes p).0 ≤ (pair_at changes k).0
in_order time level [] p k is least low = absurd (omega arith)
in_order time level (change ∷ changes) zero zero is least low = omega arith
in_order time level (change ∷ changes) zero (suc k) is least low = let later = rises change.0 change.1 changes k is.2 (omega arith) in omega arith
in_order time level (change ∷ changes) (suc p) zero is least low = absurd (omega arith)
in_order time level (change ∷ changes) (suc p) (suc k) is least low = in_order change.0 change.1 changes p k is.2 (omega arith) (omega arith)

pub rising : (time level : ℕ) (changes : List (ℕ × ℕ)) (p k : ℕ) → AreChanges time level changes → p < k → k < length changes → (pair_at changes p).0 < (pair_at changes k).0
rising time level [] p k is less low = absurd (omega arith)
rising time level (change ∷ changes) p zero is less low = absurd (omega arith)
rising time level (change ∷ changes) zero (suc k) is less low = rises change.0 change.1 changes k is.2 (omega arith)
rising time level (change ∷ changes) (suc p) (suc k) is less low = rising change.0 change.1 changes p k is.2 (omega arith) (omega arith)

-- there are no more changes than times
pub places_few : (time level : ℕ) (changes : List (ℕ × ℕ)) (k : ℕ) → AreChanges time level changes → k < length changes → time + k < (pair_at changes k).0
places_few time level [] k is low = absurd (omega arith)
places_few time level (change ∷ changes) zero is low = let first = is.0 in omega arith
places_few time level (change ∷ changes) (suc k) is low =
    let later = places_few change.0 change.1 changes k is.2 (omega arith) in
    let first = is.0 in
    omega arith

-- the changes of a wave, or of none
pub same_changes : (wave : Option Waveform) → (wave_or_none wave).changes ≡ changes_of_wave wave
same_changes None = refl
same_changes (Some wave) = refl
