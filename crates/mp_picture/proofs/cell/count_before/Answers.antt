use Rattle.std.proofs.Common.{◌≡◌, ℕ, zero, suc, ◌<◌, ◌≤◌, Bool, true, false, List, [], ◌∷◌, length, nat_lt, refl, ap, ◌∙◌, sym, inl, inr, arith}
use Rattle.std.specs.List.{prefix_len}
use Rattle.std.proofs.lemmas.Bool.{cases_lt}
use Rattle.mp_wave.specs.Faults.{pair_at}
use Rattle.mp_wave.specs.WaveChanges.{changes_in}
use Rattle.mp_wave.proofs.PrefixLemmas.{nat_lt-true, nat_lt-false}
use Rattle.mp_picture.proofs.cell.count_before.Goals as goal

-- what holds of each before a place, and not there, holds of so many from the front on
prefix_at : (p : ℕ × ℕ → Bool) (n : ℕ) (xs : List (ℕ × ℕ)) → n ≤ length xs → ((k : ℕ) → k < n → p (pair_at xs k) ≡ true) → (n < length xs → p (pair_at xs n) ≡ false) → n ≡ prefix_len p xs
prefix_at p zero [] le before here = refl
prefix_at p (suc n) [] le before here = absurd (let no : ⊥ = omega (arith, le) in no)
prefix_at p zero (x ∷ xs) le before here = let no : p x ≡ false = here (omega arith) in rw no refl
prefix_at p (suc n) (x ∷ xs) le before here =
    let yes : p x ≡ true = before 0 (omega arith) in
    let rest = prefix_at p n xs (omega (arith, le)) (λ k less. before (suc k) (omega (arith, less))) (λ less. here (omega (arith, less))) in
    rw yes (omega (arith, rest))

pub loop-place-preserved : goal.loop-place-preserved
loop-place-preserved c =
    let changes = changes_in c.args.changes in
    let k = c.loop-place.place in
    let here : k < length changes = omega (arith, c.loop-place-test.true, c.len-place-end.ensures) in
    let at : c.time_at.result ≡ (pair_at changes k).0 = c.time_at.ensures in
    let early : nat_lt (pair_at changes k).0 c.args.time ≡ true = nat_lt-true _ _ (omega (arith, at, c.if-time_at-time.false)) in
    record {
      within = omega (arith, here);
      early = λ j less. elim (cases_lt j k) as (λ _. nat_lt (pair_at changes j).0 c.args.time ≡ true) [
        | inl sooner ↦ c.loop-place.invariant.early j sooner
        | inr last ↦
            let same : j ≡ k = omega (arith, less, last) in
            ap (λ (i : ℕ). nat_lt (pair_at changes i).0 c.args.time) same ∙ early
      ];
    }

pub returns-then-time_at-time-clause-value : goal.returns-then-time_at-time-clause-value
returns-then-time_at-time-clause-value c =
    let changes = changes_in c.args.changes in
    let at : c.time_at.result ≡ (pair_at changes c.loop-place.place).0 = c.time_at.ensures in
    prefix_at (λ (p : ℕ × ℕ). nat_lt p.0 c.args.time) c.loop-place.place changes c.loop-place.invariant.within c.loop-place.invariant.early
    (λ less. nat_lt-false _ _ (omega (arith, at, c.if-time_at-time.true)))

pub returns-clause-value : goal.returns-clause-value
returns-clause-value c =
    let changes = changes_in c.args.changes in
    let over : c.loop-place.place ≡ length changes = omega (arith, c.loop-place.invariant.within, c.loop-place-test.false, c.len-place-end.ensures) in
    let all : c.loop-place.place ≡ prefix_len (λ (p : ℕ × ℕ). nat_lt p.0 c.args.time) changes =
    prefix_at (λ (p : ℕ × ℕ). nat_lt p.0 c.args.time) c.loop-place.place changes c.loop-place.invariant.within c.loop-place.invariant.early
    (λ less. absurd (let no : ⊥ = omega (arith, less, over) in no)) in
    c.len.ensures ∙ sym over ∙ all
