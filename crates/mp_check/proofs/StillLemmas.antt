-- Levels without an event later than a time.
use Rattle.std.proofs.Common.{◌≡◌, ℕ, ◌<◌, ◌≤◌, ◌==◌, ◌⊎◌, inl, inr, Bool, true, false, not, cond, Some, zero, suc, ap, sym, ◌∙◌, arith}
use Rattle.std.specs.Prelude.{unwrap_or}
use Rattle.std.proofs.lemmas.Bool.{cases_Bool, cases_lt, eqb-true, eqb-false}
use Rattle.mp_questions.specs.timing.Events.{last_event, since}

-- such a level is from then on what it is at the end
pub since_still : (f : ℕ → ℕ) (end t s : ℕ) → since f end ≤ t → t ≤ s → s ≤ end → f s ≡ f end
since_still f zero t s still low high = let is : s ≡ 0 = omega (arith, high) in ap f is
since_still f (suc e) t s still low high = by (cases_Bool (f e == f (suc e))) (λ still sooner. since_still f e t s still low sooner)
  where
    here : f e ≡ f (suc e) → (s < suc e) ⊎ (suc e ≤ s) → (s ≤ e → f s ≡ f e) → f s ≡ f (suc e)
    here same (inl sooner) before = before (omega (arith, sooner)) ∙ same
    here same (inr last) before = let is : s ≡ suc e = omega (arith, last, high) in ap f is

    by : ((f e == f (suc e)) ≡ true) ⊎ ((f e == f (suc e)) ≡ false) → (since f e ≤ t → s ≤ e → f s ≡ f e) → f s ≡ f (suc e)
    by (inl same) before =
        let quiet : since f (suc e) ≡ since f e = ap (λ (b : Bool). unwrap_or (cond (not b) (Some (suc e)) (last_event f e)) 0) same in
        here (eqb-true (f e) (f (suc e)) same) (cases_lt s (suc e)) (before (omega (arith, quiet, still)))
    by (inr other) before =
        let event : since f (suc e) ≡ suc e = ap (λ (b : Bool). unwrap_or (cond (not b) (Some (suc e)) (last_event f e)) 0) other in
        let is : s ≡ suc e = omega (arith, event, still, low, high) in
        ap f is

-- and a level that is from a time on what it is at the end has no event later than that
pub still_since : (f : ℕ → ℕ) (end t : ℕ) → ((s : ℕ) → t ≤ s → s ≤ end → f s ≡ f end) → since f end ≤ t
still_since f zero t same = omega arith
still_since f (suc e) t same = by (cases_lt t (suc e)) (cases_Bool (f e == f (suc e))) (still_since f e t)
  where
    low : since f (suc e) ≤ suc e
    low = upto (suc e)
      where
        upto : (k : ℕ) → since f k ≤ k
        upto zero = omega arith
        upto (suc k) = step (cases_Bool (f k == f (suc k))) (upto k)
          where
            step : ((f k == f (suc k)) ≡ true) ⊎ ((f k == f (suc k)) ≡ false) → since f k ≤ k → since f (suc k) ≤ suc k
            step (inl same) before =
                let quiet : since f (suc k) ≡ since f k = ap (λ (b : Bool). unwrap_or (cond (not b) (Some (suc k)) (last_event f k)) 0) same in
                omega (arith, quiet, before)
            step (inr other) before =
                let event : since f (suc k) ≡ suc k = ap (λ (b : Bool). unwrap_or (cond (not b) (Some (suc k)) (last_event f k)) 0) other in
                omega (arith, event)

    by : (t < suc e) ⊎ (suc e ≤ t) → ((f e == f (suc e)) ≡ true) ⊎ ((f e == f (suc e)) ≡ false) → (((s : ℕ) → t ≤ s → s ≤ e → f s ≡ f e) → since f e ≤ t) → since f (suc e) ≤ t
    by (inr past) any before = omega (arith, past, low)
    by (inl sooner) (inl equal) before =
        let is = eqb-true (f e) (f (suc e)) equal in
        let quiet : since f (suc e) ≡ since f e = ap (λ (b : Bool). unwrap_or (cond (not b) (Some (suc e)) (last_event f e)) 0) equal in
        let rest = before (λ s from upto. same s from (omega (arith, upto)) ∙ sym is) in
        omega (arith, quiet, rest)
    by (inl sooner) (inr other) before =
        let is : f e ≡ f (suc e) = same e (omega (arith, sooner)) (omega arith) in
        let wrong : ⊥ = eqb-false (f e) (f (suc e)) other is in
        absurd wrong
