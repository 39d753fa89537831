-- Lemmas on two lists of changes that begin alike.
use Rattle.std.proofs.Common.{◌≡◌, ◌≢◌, ℕ, ◌<◌, ◌≤◌, inl, inr, List, [], ◌∷◌, nat_le, cond, refl, ap, sym, subst, ◌∙◌, arith, length, zero, suc}
use Rattle.std.proofs.lemmas.Bool.{cases_lt}
use Rattle.mp_wave.specs.Waveform.{Waveform, AreChanges, level_from}
use Rattle.mp_wave.specs.Differences.{IsFirstDifference}
use Rattle.mp_wave.specs.Faults.{pair_at}
use Rattle.mp_wave.proofs.WaveformLemmas.{nat_le-false, level_from-before, level_from-rest, level_from-first}

-- the pairs before a place are the same in both lists
pub record BeginAlike (one other : List (ℕ × ℕ)) (place : ℕ) : Type 0 where
  pub within_one : place ≤ length one
  pub within_other : place ≤ length other
  pub same : (k : ℕ) → k < place → pair_at one k ≡ pair_at other k

rest_alike : (x y : ℕ × ℕ) (xs ys : List (ℕ × ℕ)) (place : ℕ) → BeginAlike (x ∷ xs) (y ∷ ys) (suc place) → BeginAlike xs ys place
rest_alike x y xs ys place alike = record {
  within_one = omega (arith, alike.within_one);
  within_other = omega (arith, alike.within_other);
  same = λ k lt. alike.same (suc k) (omega arith);
}

-- before the first change of a list its level stays
before_first : (level t : ℕ) (xs : List (ℕ × ℕ)) → (0 < length xs → t < (pair_at xs 0).0) → level_from level xs t ≡ level
before_first level t [] sooner = refl
before_first level t (x ∷ xs) sooner = rw (nat_le-false x.0 t (sooner (omega arith))) refl

-- before the changes at a place where two lists part, they give the same levels
pub same_until : (level t place : ℕ) (xs ys : List (ℕ × ℕ)) → BeginAlike xs ys place → (place < length xs → t < (pair_at xs place).0) → (place < length ys → t < (pair_at ys place).0) → level_from level xs t ≡ level_from level ys t
same_until level t zero xs ys alike one other = before_first level t xs one ∙ sym (before_first level t ys other)
same_until level t (suc place) [] ys alike one other = absurd (omega (arith, alike.within_one))
same_until level t (suc place) (x ∷ xs) [] alike one other = absurd (omega (arith, alike.within_other))
same_until level t (suc place) (x ∷ xs) (y ∷ ys) alike one other =
    let rest : level_from x.1 xs t ≡ level_from x.1 ys t =
    same_until x.1 t place xs ys (rest_alike x y xs ys place alike) (λ lt. one (omega arith)) (λ lt. other (omega arith)) in
    let first : x ≡ y = alike.same 0 (omega arith) in
    ap (λ v. cond (nat_le x.0 t) v level) rest
    ∙ ap (λ (c : ℕ × ℕ). cond (nat_le c.0 t) (level_from c.1 ys t) level) first

-- the change at a place is later than those before it
later_at : (time level place : ℕ) (xs : List (ℕ × ℕ)) → AreChanges time level xs → place < length xs → time < (pair_at xs place).0
later_at time level place [] are lt = absurd (omega arith)
later_at time level zero (x ∷ xs) are lt = are.0
later_at time level (suc place) (x ∷ xs) are lt = omega (arith, are.0, later_at x.0 x.1 place xs are.2 (omega arith))

same_beginning : (time level place : ℕ) (x y : ℕ × ℕ) (xs ys : List (ℕ × ℕ)) → AreChanges time level (y ∷ ys) → BeginAlike (x ∷ xs) (y ∷ ys) (suc place) → AreChanges x.0 x.1 ys
same_beginning time level place x y xs ys other alike = subst (λ (c : ℕ × ℕ). AreChanges c.0 c.1 ys) (sym (alike.same 0 (omega arith))) other.2

-- where the rests behind a first pair differ at a later change, the lists do
apart_behind : (time level place : ℕ) (x y : ℕ × ℕ) (xs ys : List (ℕ × ℕ)) → AreChanges time level (x ∷ xs) → BeginAlike (x ∷ xs) (y ∷ ys) (suc place) → place < length xs → level_from x.1 xs (pair_at xs place).0 ≢ level_from x.1 ys (pair_at xs place).0 → level_from level (x ∷ xs) (pair_at xs place).0 ≢ level_from level (y ∷ ys) (pair_at xs place).0
apart_behind time level place x y xs ys are alike lt apart =
    let t = (pair_at xs place).0 in
    let first : y ≡ x = sym (alike.same 0 (omega arith)) in
    let above : x.0 < t = later_at x.0 x.1 place xs are.2 lt in
    let ours : level_from level (x ∷ xs) t ≡ level_from x.1 xs t = level_from-rest level t x xs (omega arith) in
    let theirs : level_from level (y ∷ ys) t ≡ level_from x.1 ys t =
    ap (λ (c : ℕ × ℕ). level_from level (c ∷ ys) t) first ∙ level_from-rest level t x ys (omega arith) in
    λ same. apart (sym ours ∙ same ∙ theirs)

-- where one list changes at its place and the other later, they differ
pub differ_at : (time level place : ℕ) (xs ys : List (ℕ × ℕ)) → AreChanges time level xs → AreChanges time level ys → BeginAlike xs ys place → place < length xs → (place < length ys → (pair_at xs place).0 < (pair_at ys place).0) → level_from level xs (pair_at xs place).0 ≢ level_from level ys (pair_at xs place).0
differ_at time level place [] ys are other alike lt later = absurd (omega arith)
differ_at time level zero (x ∷ xs) ys are other alike lt later =
    λ same. are.1 (sym (before_first level x.0 ys later) ∙ sym same ∙ level_from-first time level x xs are)
differ_at time level (suc place) (x ∷ xs) [] are other alike lt later = absurd (omega (arith, alike.within_other))
differ_at time level (suc place) (x ∷ xs) (y ∷ ys) are other alike lt later =
    apart_behind time level place x y xs ys are alike (omega arith)
    (differ_at x.0 x.1 place xs ys are.2 (same_beginning time level place x y xs ys other alike) (rest_alike x y xs ys place alike) (omega arith) (λ lt. later (omega arith)))

-- where both change at once to different levels, they differ
pub differ_together : (time level place : ℕ) (xs ys : List (ℕ × ℕ)) → AreChanges time level xs → AreChanges time level ys → BeginAlike xs ys place → place < length xs → place < length ys → (pair_at xs place).0 ≡ (pair_at ys place).0 → (pair_at xs place).1 ≢ (pair_at ys place).1 → level_from level xs (pair_at xs place).0 ≢ level_from level ys (pair_at xs place).0
differ_together time level place [] ys are other alike lt lt_other times levels = absurd (omega arith)
differ_together time level place (x ∷ xs) [] are other alike lt lt_other times levels = absurd (omega arith)
differ_together time level zero (x ∷ xs) (y ∷ ys) are other alike lt lt_other times levels =
    λ same.
    levels (sym (level_from-first time level x xs are) ∙ same ∙ ap (level_from level (y ∷ ys)) times ∙ level_from-first time level y ys other)
differ_together time level (suc place) (x ∷ xs) (y ∷ ys) are other alike lt lt_other times levels =
    apart_behind time level place x y xs ys are alike (omega arith)
    (differ_together x.0 x.1 place xs ys are.2 (same_beginning time level place x y xs ys other alike) (rest_alike x y xs ys place alike) (omega arith) (omega arith) times levels)

other_alike : (xs ys : List (ℕ × ℕ)) (place : ℕ) → BeginAlike xs ys place → BeginAlike ys xs place
other_alike xs ys place alike = record {
  within_one = alike.within_other;
  within_other = alike.within_one;
  same = λ k lt. sym (alike.same k lt);
}

same_pair : (x y : ℕ × ℕ) → x.0 ≡ y.0 → x.1 ≡ y.1 → x ≡ y
same_pair (s, v) (t, w) times levels = cc

-- the least of an end and the times of the changes at a place
pub record IsNextTime (xs : List (ℕ × ℕ)) (place end time : ℕ) : Type 0 where
  pub within : time ≤ end
  pub first : place < length xs → time ≤ (pair_at xs place).0
  pub reached : time < end → (place < length xs) × (time ≡ (pair_at xs place).0)

-- where two lists that begin alike part, below the end, the levels differ
pub parted : (level place upto next time : ℕ) (xs ys : List (ℕ × ℕ)) → AreChanges 0 level xs → AreChanges 0 level ys → BeginAlike xs ys place → (place < length xs → place < length ys → pair_at xs place ≡ pair_at ys place → upto ≤ (pair_at xs place).0) → IsNextTime ys place upto next → IsNextTime xs place next time → time < upto → level_from level xs time ≢ level_from level ys time
parted level place upto next time xs ys are other alike apart theirs ours lt =
    elim (cases_lt time next) as (λ _. level_from level xs time ≢ level_from level ys time) [
      | inl sooner ↦
          let here = ours.reached sooner in
          subst (λ (t : ℕ). level_from level xs t ≢ level_from level ys t) (sym here.1)
          (differ_at 0 level place xs ys are other alike here.0 (λ within. omega (arith, here.1, theirs.first within)))
      | inr later ↦
          let is : next ≡ time = omega (arith, ours.within) in
          let there = theirs.reached (omega arith) in
          let at : time ≡ (pair_at ys place).0 = omega (arith, there.1) in
          elim (cases_lt place (length xs)) as (λ _. level_from level xs time ≢ level_from level ys time) [
            | inl within ↦
                elim (cases_lt time (pair_at xs place).0) as (λ _. level_from level xs time ≢ level_from level ys time) [
                  | inl after ↦
                      λ same.
                      differ_at 0 level place ys xs other are (other_alike xs ys place alike) there.0 (λ _. omega arith)
                      (subst (λ (t : ℕ). level_from level ys t ≡ level_from level xs t) at (sym same))
                  | inr not_after ↦
                      let times : (pair_at xs place).0 ≡ (pair_at ys place).0 = omega (arith, ours.first within) in
                      subst (λ (t : ℕ). level_from level xs t ≢ level_from level ys t) (times ∙ sym at)
                      (differ_together 0 level place xs ys are other alike within there.0 times
                      (λ levels. let late = apart within there.0 (same_pair (pair_at xs place) (pair_at ys place) times levels) in absurd (omega arith)))
                ]
            | inr over ↦
                λ same.
                differ_at 0 level place ys xs other are (other_alike xs ys place alike) there.0 (λ within. absurd (omega arith))
                (subst (λ (t : ℕ). level_from level ys t ≡ level_from level xs t) at (sym same))
          ]
    ]

abbrev waveform : ℕ → List (ℕ × ℕ) → Waveform
waveform initial changes = record { initial = initial; changes = changes }

-- waves with different initial levels differ at time 0
pub different_start : (initial other_initial upto : ℕ) (xs ys : List (ℕ × ℕ)) → AreChanges 0 initial xs → AreChanges 0 other_initial ys → initial ≢ other_initial → upto ≢ 0 → IsFirstDifference (waveform initial xs) (waveform other_initial ys) upto 0
different_start initial other_initial upto xs ys are other apart some = record {
  within = omega arith;
  differ = λ same. apart (sym (level_from-before 0 initial 0 xs are (omega arith)) ∙ same ∙ level_from-before 0 other_initial 0 ys other (omega arith));
  first = λ t lt. absurd (omega arith);
}

-- waves with one initial level differ first where their changes do
pub first_found : (initial other_initial upto time : ℕ) (xs ys items other_items : List (ℕ × ℕ)) → initial ≡ other_initial → xs ≡ items → ys ≡ other_items → ((t : ℕ) → t < time → level_from initial xs t ≡ level_from initial ys t) → (time < upto → level_from initial xs time ≢ level_from initial ys time) → time < upto → IsFirstDifference (waveform initial items) (waveform other_initial other_items) upto time
first_found initial other_initial upto time xs ys items other_items starts is other_is same differ lt =
    let found : IsFirstDifference (waveform initial xs) (waveform initial ys) upto time = record { within = lt; differ = differ lt; first = same } in
    subst (λ (v : ℕ). IsFirstDifference (waveform initial items) (waveform v other_items) upto time) starts
    (subst (λ (zs : List (ℕ × ℕ)). IsFirstDifference (waveform initial zs) (waveform initial other_items) upto time) is
    (subst (λ (zs : List (ℕ × ℕ)). IsFirstDifference (waveform initial xs) (waveform initial zs) upto time) other_is found))

-- the same of the waves that these are the views of
pub differ_as : (a b one other : Waveform) (upto time : ℕ) → a ≡ one → b ≡ other → IsFirstDifference a b upto time → IsFirstDifference one other upto time
differ_as a b one other upto time is other_is found =
    subst (λ (v : Waveform). IsFirstDifference v other upto time) is (subst (λ (v : Waveform). IsFirstDifference a v upto time) other_is found)
