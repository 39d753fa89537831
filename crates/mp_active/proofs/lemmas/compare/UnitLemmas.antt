-- The numbers that come up in a unit are passed one by one.
use Rattle.std.proofs.Common.{◌≡◌, ◌≢◌, ℕ, ◌+◌, ◌-◌, ◌<◌, ◌≤◌, Bool, true, false, ◌&&◌, ◌||◌, List, [], ◌∷◌, ◌++◌, length, get_or, take, drop, refl, sym, ap, ◌∙◌, arith, add-one, subst, inl, inr, ◌⊎◌}
use Rattle.std.specs.Prelude.{◌==◌, nat_lt}
use Rattle.std.proofs.lemmas.Bool.{cases_eq, cases_lt, eq-eqb, ne_eqb, eqb-true, lt-ltb, ltb-true, and_parts, and_from, or_cases, false≢true}
use Rattle.std.proofs.Math.Seq.{drop-cons}
use Rattle.std.proofs.Math.ListN.{drop_of_length-le}
use Rattle.std.proofs.lemmas.List.{take_more}
use Rattle.std.proofs.lemmas.List.Elements.{All-get_or}
use Rattle.mp_wave.specs.Faults.{pair_at}
use Rattle.mp_modules.specs.automata.Codes.{bit}
use Rattle.mp_kernel.specs.events.Adding.{listed}
use Rattle.mp_kernel.specs.timers.TimerWheels.{never, time_in, time_of, coming, IsTimerWheel, ComesUp}
use Rattle.mp_partition.specs.runs.Outcomes.{Outcome}
use Rattle.mp_active.specs.declared.compare.numbers.Numbers.{Numbers}
use Rattle.mp_active.specs.declared.compare.comparison.Comparison.{Comparison}
use Rattle.mp_active.specs.compare.Meeting.{old_level}
use Rattle.mp_active.specs.compare.Comparing.{wire_of, delay_of, source_at, asleep_at, follows, place_at, changes_at, change_time, is_following, is_tracked, HasCursors, IsListed, IsComplete}
use Rattle.mp_active.specs.compare.Passing.{has_data_at, is_up, HasPassed}
use Rattle.mp_active.proofs.lemmas.compare.MetLemmas.{coming_numbers}
use Rattle.mp_active.proofs.lemmas.compare.PassingLemmas.{one_of, taken_once}

-- so many of the numbers that come up are passed
pub record IsPassing (run : Outcome) (time n : ℕ) (was is : Comparison) : Type 0 where
  pub kept : is ≡ record was { timers = is.timers; present = is.present; places = is.places }
  pub present : is.present ≡ coming was.timers
  pub cursors : HasCursors run time (drop n (coming was.timers)) is
  pub times : (x : ℕ) → 0 < listed x (drop n (coming was.timers)) → time_of is.timers x ≡ time_of was.timers x
  pub places : (x : ℕ) → 0 < listed x (drop n (coming was.timers)) → place_at is x ≡ place_at was x
  pub listed_all : IsComplete run (time - 1) was → (x : ℕ) → x < length was.numbers.wires.items → (is_following was x || is_tracked was x time) ≡ true → IsListed run time is x

-- they are taken out first
pub turned : (run : Outcome) (t time : ℕ) (was is : Comparison) → t ≡ time - 1 → t + 1 ≡ time → time < never → ComesUp → HasCursors run t [] was → is ≡ record was { timers = is.timers; present = is.present } →
    is.present ≡ coming was.timers → is.timers.times.items ≡ was.timers.times.items → IsTimerWheel (t + 1) (coming was.timers) is.timers → IsPassing run time 0 was is
turned run t time was is before next low up has kept present times timers = record {
  kept = kept ∙ ap (λ ps. record was { timers = is.timers; present = is.present; places = ps }) (sym (ap (λ (c : Comparison). c.places) kept));
  present = present;
  cursors = subst (HasCursors run time (coming was.timers)) (sym kept) (record {
    shape = record {
      delays = has.shape.delays;
      next = has.shape.next;
      have_data = has.shape.have_data;
      asleep = has.shape.asleep;
      times = ap (length {A = ℕ}) times ∙ has.shape.times;
      places = has.shape.places;
      seen = has.shape.seen;
      few = has.shape.few;
      wires = has.shape.wires;
      own = has.shape.own;
    };
    form = has.form;
    timers = subst (λ u. IsTimerWheel u (coming was.timers) is.timers) next timers;
    room = has.room;
    place = λ x some. has.place x (λ e. some (same x ∙ e));
    time = λ x some. same x ∙ has.time x (λ e. some (same x ∙ e));
    over = λ x k some less. let early = has.over x k (λ e. some (same x ∙ e)) less in omega arith;
    later = λ x some. later_by x some (cases_eq (time_of was.timers x) time);
  });
  times = λ x some. same x;
  places = λ x some. ap (λ (c : Comparison). place_at c x) kept;
  listed_all = λ complete x within needed.
      let once = complete x within (ap (λ u. is_following was x || is_tracked was x u) (let sum : time - 1 + 1 ≡ time = omega arith in sum) ∙ needed) in
      subst (λ c. IsListed run time c x) (sym kept) (λ none k less. let over = once (sym (same x) ∙ none) k less in omega arith);
}
  where
    same : (x : ℕ) → time_of is.timers x ≡ time_of was.timers x
    same x = ap (λ (ts : List ℕ). time_in ts x) times

    later_by : (x : ℕ) → time_of is.timers x ≢ never → (time_of was.timers x ≡ time) ⊎ (time_of was.timers x ≢ time) → time < time_of is.timers x + listed x (coming was.timers)
    later_by x some (inl due) =
        let here = up t was.timers has.timers x (due ∙ sym next) (omega arith) in
        let e = same x in
        omega arith
    later_by x some (inr other) =
        let after = has.later x (λ e. some (same x ∙ e)) in
        let e = same x in
        elim (cases_lt time (time_of was.timers x)) as (λ _. time < time_of is.timers x + listed x (coming was.timers)) [
          | inl less ↦ omega arith
          | inr more ↦ absurd (other (omega arith))
        ]

-- one more is passed
pub one_passed : (run : Outcome) (time n number : ℕ) (was then is : Comparison) → IsPassing run time n was then → drop n (coming was.timers) ≡ number ∷ drop (n + 1) (coming was.timers) →
    is ≡ record then { timers = is.timers; places = is.places } → HasPassed run time number then is → IsPassing run time (n + 1) was is
one_passed run time n number was then is before front kept it = record {
  kept = kept ∙ ap (λ (c : Comparison). record c { timers = is.timers; places = is.places }) before.kept
      ∙ ap (λ ps. record was { timers = is.timers; present = ps; places = is.places }) (sym (ap (λ (c : Comparison). c.present) kept));
  present = ap (λ (c : Comparison). c.present) kept ∙ before.present;
  cursors = it.cursors rest has;
  times = λ x some. it.others x (other x some) ∙ before.times x (still x some);
  places = λ x some. it.places x (other x some) ∙ before.places x (still x some);
  listed_all = λ complete x within needed. listed_by complete x within needed (number == x) refl;
}
  where
    rest : List ℕ
    rest = drop (n + 1) (coming was.timers)

    has : HasCursors run time (number ∷ rest) then
    has = subst (λ (xs : List ℕ). HasCursors run time xs then) front before.cursors

    still : (x : ℕ) → 0 < listed x rest → 0 < listed x (drop n (coming was.timers))
    still x some = let all = ap (listed x) front in let one = one_of x number rest in omega arith

    other : (x : ℕ) → 0 < listed x rest → (number == x) ≡ false
    other x some = ne_eqb number x (λ e. let none = taken_once run time number rest then has in let same = ap (λ y. listed y rest) e in absurd (omega arith))

    listed_by : IsComplete run (time - 1) was → (x : ℕ) → x < length was.numbers.wires.items → (is_following was x || is_tracked was x time) ≡ true → (same : Bool) → (number == x) ≡ same → IsListed run time is x
    listed_by complete x within needed true e =
        let now : (is_following then x || is_tracked then x time) ≡ true = ap (λ (c : Comparison). is_following c x || is_tracked c x time) before.kept ∙ needed in
        subst (λ y. (is_following then y || is_tracked then y time) ≡ true → IsListed run time is y) (eqb-true number x e) it.listed now
    listed_by complete x within needed false e =
        let now = before.listed_all complete x within needed in
        subst (λ (c : Comparison). time_of is.timers x ≡ never → (k : ℕ) → k < length (changes_at run c x) → change_time run c x k ≤ time) (sym kept)
        (λ none. now (sym (it.others x e) ∙ none))

-- the number at a place is the first of those that are left
pub front : (xs ys : List ℕ) (n : ℕ) → xs ≡ ys → n < length ys → drop n ys ≡ get_or xs n 0 ∷ drop (n + 1) ys
front xs ys n same low = drop-cons ys n 0 low ∙ ap (λ j. get_or ys n 0 ∷ drop j ys) (sym (add-one n)) ∙ ap (λ (zs : List ℕ). get_or zs n 0 ∷ drop (n + 1) ys) (sym same)

pub taken_more : (xs ys : List ℕ) (n : ℕ) → xs ≡ ys → n < length ys → take n ys ++ get_or xs n 0 ∷ [] ≡ take (n + 1) ys
taken_more xs ys n same low = ap (λ (zs : List ℕ). take n ys ++ get_or zs n 0 ∷ []) same ∙ sym (take_more ys n 0 low)

pub is_left : (xs ys : List ℕ) (n : ℕ) → xs ≡ ys → n < length ys → 0 < listed (get_or xs n 0) (drop n ys)
is_left xs ys n same low =
    let all = ap (listed (get_or xs n 0)) (front xs ys n same low) in
    let one = one_of (get_or xs n 0) (get_or xs n 0) (drop (n + 1) ys) in
    let own = ap bit (eq-eqb (get_or xs n 0) (get_or xs n 0) refl) in
    omega arith

pub within_passing : (run : Outcome) (t time n : ℕ) (xs : List ℕ) (was is : Comparison) → HasCursors run t [] was → IsPassing run time n was is → xs ≡ coming was.timers → n < length (coming was.timers) →
    get_or xs n 0 < length is.numbers.wires.items
within_passing run t time n xs was is has passing same low =
    subst (λ (numbers : Numbers). get_or xs n 0 < length numbers.wires.items) (sym (ap (λ (c : Comparison). c.numbers) passing.kept))
    (subst (λ (ys : List ℕ). get_or ys n 0 < length was.numbers.wires.items) (sym same)
    (All-get_or (λ x. x < length was.numbers.wires.items) (coming was.timers) n 0 low (coming_numbers run t was has)))

pub same_up : (run : Outcome) (time n x : ℕ) (was is : Comparison) → IsPassing run time n was is → 0 < listed x (drop n (coming was.timers)) → is_up is time x ≡ is_up was time x
same_up run time n x was is passing some =
    ap (λ (c : Comparison). is_up c time x) passing.kept
    ∙ ap (λ u. (u == time) && ((x == wire_of was.numbers x) && follows (source_at was (wire_of was.numbers x)) time)) (passing.times x some)

pub same_data : (run : Outcome) (time n x : ℕ) (was is : Comparison) → IsPassing run time n was is → has_data_at is x ≡ has_data_at was x
same_data run time n x was is passing = ap (λ (c : Comparison). has_data_at c x) passing.kept

pub same_level : (run : Outcome) (time n x : ℕ) (was is : Comparison) → IsPassing run time n was is → 0 < listed x (drop n (coming was.timers)) → old_level run is x ≡ old_level run was x
same_level run time n x was is passing some =
    ap (λ (c : Comparison). (pair_at (changes_at run c x) (place_at is x)).1) passing.kept ∙ ap (λ p. (pair_at (changes_at run was x) p).1) (passing.places x some)

-- what is needed later is needed now
earlier : (c : Comparison) (x time : ℕ) → is_tracked c x (time + 1) ≡ true → is_tracked c x time ≡ true
earlier c x time tracked =
    let until = (source_at c (wire_of c.numbers x)).until in
    let d = delay_of c.numbers x in
    let parts = and_parts (nat_lt 0 (asleep_at c x)) (nat_lt (time + 1) (until + d) && nat_lt 0 until) tracked in
    let times = and_parts (nat_lt (time + 1) (until + d)) (nat_lt 0 until) parts.1 in
    let later = ltb-true (time + 1) (until + d) times.0 in
    and_from (nat_lt 0 (asleep_at c x)) (nat_lt time (until + d) && nat_lt 0 until) parts.0
    (and_from (nat_lt time (until + d)) (nat_lt 0 until) (lt-ltb time (until + d) (omega arith)) times.1)

pub needed_now : (c : Comparison) (x time : ℕ) → (is_following c x || is_tracked c x (time + 1)) ≡ true → (is_following c x || is_tracked c x time) ≡ true
needed_now c x time needed = by (is_following c x) (or_cases (is_following c x) (is_tracked c x (time + 1)) needed)
  where
    by : (a : Bool) → (a ≡ true) ⊎ (is_tracked c x (time + 1) ≡ true) → (a || is_tracked c x time) ≡ true
    by true either = refl
    by false (inl e) = absurd (false≢true e)
    by false (inr tracked) = earlier c x time tracked

pub is_complete : (run : Outcome) (time n : ℕ) (was is : Comparison) → IsPassing run time n was is → IsComplete run (time - 1) was → IsComplete run time is
is_complete run time n was is passing complete x within needed =
    passing.listed_all complete x (subst (λ (numbers : Numbers). x < length numbers.wires.items) (ap (λ (c : Comparison). c.numbers) passing.kept) within)
    (sym (ap (λ (c : Comparison). is_following c x || is_tracked c x time) passing.kept) ∙ needed_now is x time needed)

pub all_passed : (run : Outcome) (time n : ℕ) (was is : Comparison) → IsPassing run time n was is → length (coming was.timers) ≤ n → HasCursors run time [] is
all_passed run time n was is passing long = subst (λ (xs : List ℕ). HasCursors run time xs is) (drop_of_length-le (coming was.timers) long) passing.cursors
