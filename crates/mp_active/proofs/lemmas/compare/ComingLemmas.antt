-- Numbers that come up are met one after the other.
use Rattle.std.proofs.Common.{◌≡◌, ℕ, ◌+◌, ◌<◌, ◌≤◌, Bool, true, false, cond, List, [], ◌∷◌, ◌++◌, All, length, get_or, take, refl, sym, ap, ◌∙◌, arith, subst}
use Rattle.std.specs.Prelude.{◌==◌}
use Rattle.std.proofs.lemmas.Bool.{eqb-true}
use Rattle.std.proofs.lemmas.List.{take_more, take_all}
use Rattle.std.proofs.lemmas.List.Elements.{All-get_or}
use Rattle.std.proofs.lemmas.List.Sums.{sum_by-append}
use Rattle.mp_modules.specs.automata.Codes.{bit}
use Rattle.mp_kernel.specs.events.Adding.{listed}
use Rattle.mp_kernel.specs.timers.TimerWheels.{coming}
use Rattle.mp_active.specs.declared.compare.numbers.Numbers.{Numbers}
use Rattle.mp_active.specs.declared.compare.comparison.Comparison.{Comparison}
use Rattle.mp_active.specs.compare.Comparing.{IsShaped}
use Rattle.mp_active.specs.compare.Meeting.{is_old_alone, HasMetOld}

-- some of the numbers that come up are met
pub record HasMetSome (time : ℕ) (some : List ℕ) (was is : Comparison) : Type 0 where
  pub kept : is ≡ record was { departing = is.departing }
  pub departing : (x : ℕ) → listed x is.departing.items ≡ listed x was.departing.items + cond (is_old_alone was time x) (listed x some) 0

-- one more: it is gathered, or isn't
pub some_more : (time : ℕ) (xs : List ℕ) (i : ℕ) (was then is : Comparison) → i < length xs → HasMetSome time (take i xs) was then → is ≡ record then { departing = is.departing } →
    is.departing.items ≡ cond (is_old_alone then time (get_or xs i 0)) (then.departing.items ++ get_or xs i 0 ∷ []) then.departing.items → HasMetSome time (take (i + 1) xs) was is
some_more time xs i was then is low some kept pushed = record {
  kept = kept ∙ ap (λ (c : Comparison). record c { departing = is.departing }) some.kept;
  departing = λ x.
      let before = some.departing x in
      let alone = ap (λ (c : Comparison). is_old_alone c time number) some.kept in
      let now = ap (listed x) (pushed ∙ ap (λ b. cond b (then.departing.items ++ number ∷ []) then.departing.items) alone) in
      let more = ap (listed x) (take_more xs i 0 low) ∙ sum_by-append (λ d. cond (d == x) 1 0) (take i xs) (number ∷ []) in
      let counted : listed x (take (i + 1) xs) ≡ listed x (take i xs) + bit (number == x) = omega arith in
      let both = ap (λ n. cond (is_old_alone was time x) n 0) counted ∙ split (is_old_alone was time x) (listed x (take i xs)) (bit (number == x)) in
      let it = by x (number == x) refl (is_old_alone was time number) refl in
      omega arith;
}
  where
    number : ℕ
    number = get_or xs i 0

    split : (b : Bool) (m n : ℕ) → cond b (m + n) 0 ≡ cond b m 0 + cond b n 0
    split true m n = refl
    split false m n = refl

    by : (x : ℕ) (same : Bool) → (number == x) ≡ same → (alone : Bool) → is_old_alone was time number ≡ alone →
        listed x (cond (is_old_alone was time number) (then.departing.items ++ number ∷ []) then.departing.items)
        ≡ listed x then.departing.items + cond (is_old_alone was time x) (bit (number == x)) 0
    by x true is true a =
        subst (λ y. listed y (cond (is_old_alone was time number) (then.departing.items ++ number ∷ []) then.departing.items) ≡ listed y then.departing.items + cond (is_old_alone was time y) (bit (number == y)) 0) (eqb-true number x is)
        (ap (λ b. listed number (cond b (then.departing.items ++ number ∷ []) then.departing.items)) a ∙ sum_by-append (λ d. cond (d == number) 1 0) then.departing.items (number ∷ [])
        ∙ (let zero_more : 0 + bit (number == number) ≡ bit (number == number) = omega arith in ap (λ n. listed number then.departing.items + n) zero_more)
        ∙ ap (λ b. listed number then.departing.items + cond b (bit (number == number)) 0) (sym a))
    by x true is false a =
        subst (λ y. listed y (cond (is_old_alone was time number) (then.departing.items ++ number ∷ []) then.departing.items) ≡ listed y then.departing.items + cond (is_old_alone was time y) (bit (number == y)) 0) (eqb-true number x is)
        (let l = ap (λ b. listed number (cond b (then.departing.items ++ number ∷ []) then.departing.items)) a in
        let r = ap (λ b. listed number then.departing.items + cond b (bit (number == number)) 0) a in
        omega arith)
    by x false is true a =
        let l = ap (λ b. listed x (cond b (then.departing.items ++ number ∷ []) then.departing.items)) a ∙ sum_by-append (λ d. cond (d == x) 1 0) then.departing.items (number ∷ []) in
        let none = ap bit is in
        let r = zero_of (is_old_alone was time x) (bit (number == x)) none in
        omega arith
      where
        zero_of : (b : Bool) (n : ℕ) → n ≡ 0 → cond b n 0 ≡ 0
        zero_of true n e = e
        zero_of false n e = refl
    by x false is false a =
        let l = ap (λ b. listed x (cond b (then.departing.items ++ number ∷ []) then.departing.items)) a in
        let none = ap bit is in
        let r = zero_of (is_old_alone was time x) (bit (number == x)) none in
        omega arith
      where
        zero_of : (b : Bool) (n : ℕ) → n ≡ 0 → cond b n 0 ≡ 0
        zero_of true n e = e
        zero_of false n e = refl

pub some_shape : (time : ℕ) (some : List ℕ) (was is : Comparison) → HasMetSome time some was is → IsShaped was → IsShaped is
some_shape time some was is met shape = subst IsShaped (sym met.kept) (record {
  delays = shape.delays;
  next = shape.next;
  have_data = shape.have_data;
  asleep = shape.asleep;
  times = shape.times;
  places = shape.places;
  seen = shape.seen;
  few = shape.few;
  wires = shape.wires;
  own = shape.own;
})

-- the numbers that come up stay
some_coming : (time : ℕ) (some xs : List ℕ) (was is : Comparison) → HasMetSome time some was is → xs ≡ coming is.timers → xs ≡ coming was.timers
some_coming time some xs was is met now = now ∙ ap (λ (c : Comparison). coming c.timers) met.kept

pub some_within : (time : ℕ) (some xs : List ℕ) (i : ℕ) (was is : Comparison) → HasMetSome time some was is → xs ≡ coming is.timers → i < length (coming was.timers) →
    All (λ x. x < length was.numbers.wires.items) (coming was.timers) → get_or xs i 0 < length is.numbers.wires.items
some_within time some xs i was is met now low all =
    subst (λ (ys : List ℕ). get_or ys i 0 < length is.numbers.wires.items) (sym (some_coming time some xs was is met now))
    (subst (λ (numbers : Numbers). get_or (coming was.timers) i 0 < length numbers.wires.items) (sym (ap (λ (c : Comparison). c.numbers) met.kept))
    (All-get_or (λ x. x < length was.numbers.wires.items) (coming was.timers) i 0 low all))

pub get_same : (time : ℕ) (some xs : List ℕ) (i : ℕ) (was then : Comparison) (pushed : List ℕ) → HasMetSome time some was then → xs ≡ coming then.timers →
    pushed ≡ cond (is_old_alone then time (get_or xs i 0)) (then.departing.items ++ get_or xs i 0 ∷ []) then.departing.items →
    pushed ≡ cond (is_old_alone then time (get_or (coming was.timers) i 0)) (then.departing.items ++ get_or (coming was.timers) i 0 ∷ []) then.departing.items
get_same time some xs i was then pushed met now is =
    subst (λ (ys : List ℕ). pushed ≡ cond (is_old_alone then time (get_or ys i 0)) (then.departing.items ++ get_or ys i 0 ∷ []) then.departing.items) (some_coming time some xs was then met now) is

-- all have been met
pub some_all : (time n : ℕ) (was is : Comparison) → length (coming was.timers) ≤ n → HasMetSome time (take n (coming was.timers)) was is → HasMetOld time was is
some_all time n was is long met = record {
  kept = met.kept;
  departing = λ x. met.departing x ∙ ap (λ (xs : List ℕ). listed x was.departing.items + cond (is_old_alone was time x) (listed x xs) 0) (take_all n (coming was.timers) long);
}
