-- What is told of a number's change in both runs, as plain values.
use Rattle.std.proofs.Common.{◌≡◌, ◌≢◌, ℕ, zero, suc, ◌+◌, ◌<◌, ◌≤◌, Bool, true, false, not, cond, ◌&&◌, refl, sym, ap, ◌∙◌, arith, inl, inr}
use Rattle.std.specs.Prelude.{◌==◌, nat_lt}
use Rattle.std.proofs.lemmas.Bool.{cases_eq, eq-eqb, ne_eqb, eqb-true}
use Rattle.mp_modules.specs.automata.Codes.{bit}

none_of : (a b : Bool) (k : ℕ) → cond (a && (not b && false)) k 0 ≡ 0
none_of true true k = refl
none_of true false k = refl
none_of false b k = refl

-- a number is read asleep, may differ, is due in the old run and was seen in the new one; its levels before and at a time, in both runs; the level
-- that is due; how often it is among toggles and changes, and with another level than is due; and how often it comes up
pub record IsTold (asleep may due seen : Bool) (was_before was_after is_before is_after level bits changes others coming : ℕ) : Type 0 where
  pub agreed : asleep ≡ true → was_before ≡ was_after
  pub stays : asleep ≡ true → may ≡ false → is_before ≡ is_after
  pub comes : due ≡ true → is_before ≡ level
  pub leaves : due ≡ true → was_before ≢ level
  pub rests : (asleep && may) ≡ true → due ≡ false → is_before ≡ was_before
  pub once : (asleep && may) ≡ true → bits + changes ≡ bit (not (was_after == is_after))
  pub other_levels : (asleep && may) ≡ true → others ≡ cond (is_after == level) 0 changes
  pub low_was : 0 < bits → was_before ≤ 1
  pub low_before : 0 < bits → is_before ≤ 1
  pub low_after : 0 < bits → is_after ≤ 1
  pub was_seen : seen ≡ ((asleep && may) && nat_lt 0 (bits + changes))
  pub up : due ≡ true → coming ≡ 1

pub told : (asleep may due seen : Bool) (wb wa ib ia level bits changes others coming : ℕ) → IsTold asleep may due seen wb wa ib ia level bits changes others coming →
    cond (asleep && may) (cond due others (bits + changes)) 0 + cond (due && (not seen && (asleep && may))) coming 0 ≡ bit (asleep && not (ib == ia))
told false may due seen wb wa ib ia level bits changes others coming is = let none = none_of due seen coming in omega arith
told true false due seen wb wa ib ia level bits changes others coming is =
    let none = none_of due seen coming in
    let same = ap (λ b. bit (not b)) (eq-eqb ib ia (is.stays refl refl)) in
    omega arith
told true true false seen wb wa ib ia level bits changes others coming is =
    let once = is.once refl in
    let same = ap (λ n. bit (not (n == ia))) (sym (is.agreed refl) ∙ sym (is.rests refl refl)) in
    omega arith
told true true true seen wb wa ib ia level bits changes others coming is =
    elim (cases_eq wa ia) as (λ _. cond true (cond true others (bits + changes)) 0 + cond (not seen && true) coming 0 ≡ bit (not (ib == ia))) [
      | inl same ↦ at_rest same
      | inr other ↦ moving other
    ]
  where
    at_rest : wa ≡ ia → others + cond (not seen && true) coming 0 ≡ bit (not (ib == ia))
    at_rest same =
        let none = is.once refl ∙ ap (λ b. bit (not b)) (eq-eqb wa ia same) in
        let rest = is.other_levels refl in
        let no_others = few (ia == level) in
        let unseen = is.was_seen ∙ ap (λ n. nat_lt 0 n) none in
        let all = ap (λ b. cond (not b && true) coming 0) unseen in
        let up = is.up refl in
        let apart = ap (λ b. bit (not b)) (ne_eqb ib ia (λ e. is.leaves refl (is.agreed refl ∙ same ∙ sym e ∙ is.comes refl))) in
        omega arith
      where
        few : (b : Bool) → cond b 0 changes ≤ changes
        few true = omega arith
        few false = omega arith

    moving : wa ≢ ia → others + cond (not seen && true) coming 0 ≡ bit (not (ib == ia))
    moving other =
        let some = is.once refl ∙ ap (λ b. bit (not b)) (ne_eqb wa ia other) in
        let was_seen = is.was_seen ∙ ap (λ n. nat_lt 0 n) some in
        let none = ap (λ b. cond (not b && true) coming 0) was_seen in
        by bits refl some none
      where
        by : (n : ℕ) → bits ≡ n → bits + changes ≡ 1 → cond (not seen && true) coming 0 ≡ 0 → others + cond (not seen && true) coming 0 ≡ bit (not (ib == ia))
        by zero is_bits some none =
            let rest = is.other_levels refl in
            let level_too = ap (λ n. cond (ia == n) 0 changes) (sym (is.comes refl)) in
            let turned = swapped (ib == ia) refl in
            omega arith
          where
            swapped : (b : Bool) → (ib == ia) ≡ b → cond (ia == ib) 0 changes ≡ bit (not (ib == ia))
            swapped true e = ap (λ b. cond b 0 changes) (eq-eqb ia ib (sym (eqb-true ib ia e))) ∙ sym (ap (λ b. bit (not b)) e)
            swapped false e = ap (λ b. cond b 0 changes) (ne_eqb ia ib (λ s. absurd (let t = eq-eqb ib ia (sym s) in cc))) ∙ (let one : changes ≡ 1 = omega arith in one) ∙ sym (ap (λ b. bit (not b)) e)
        by (suc n) is_bits some none =
            let rest = is.other_levels refl in
            let no_others = few (ia == level) in
            let comes = is.comes refl in
            let agreed = is.agreed refl in
            let a = is.low_was (omega arith) in
            let b = is.low_before (omega arith) in
            let c = is.low_after (omega arith) in
            let same = ap (λ b. bit (not b)) (eq-eqb ib ia (alike wb ib ia a b c (λ e. is.leaves refl (e ∙ comes)) (λ e. other (sym agreed ∙ e)))) in
            omega arith
          where
            few : (b : Bool) → cond b 0 changes ≤ changes
            few true = omega arith
            few false = omega arith

            alike : (w i j : ℕ) → w ≤ 1 → i ≤ 1 → j ≤ 1 → w ≢ i → w ≢ j → i ≡ j
            alike w i j a b c d e = omega arith
