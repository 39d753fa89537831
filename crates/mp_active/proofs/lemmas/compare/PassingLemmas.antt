-- A number that was taken out of the timer wheel is listed again, or left out.
use Rattle.std.proofs.Common.{◌≡◌, ◌≢◌, ℕ, ◌+◌, ◌<◌, ◌≤◌, Bool, true, false, not, cond, ◌||◌, List, ◌∷◌, length, get_or, refl, sym, ap, ◌∙◌, arith, get_or-set_same, get_or-set_other, subst, inl, inr}
use Rattle.std.specs.Prelude.{◌==◌, slice_set}
use Rattle.std.proofs.lemmas.Bool.{cases_lt, eq-eqb, eqb-true, eqb-false}
use Rattle.std.proofs.lemmas.List.Sums.{sum_by-cons}
use Rattle.std.proofs.Math.ListN.{length-set}
use Rattle.mp_modules.specs.automata.Codes.{bit}
use Rattle.mp_kernel.specs.events.Adding.{listed}
use Rattle.mp_kernel.specs.timers.TimerWheels.{never, time_in, time_of, IsTimerWheel}
use Rattle.mp_partition.specs.runs.Outcomes.{Outcome}
use Rattle.mp_active.specs.declared.compare.numbers.Numbers.{Numbers}
use Rattle.mp_active.specs.declared.compare.comparison.Comparison.{Comparison}
use Rattle.mp_active.specs.compare.Comparing.{wire_of, delay_of, place_at, old_changes, changes_at, change_time, is_following, is_tracked, HasCursors, IsListed}
use Rattle.mp_active.specs.compare.Passing.{HasPassed}
use Rattle.mp_wave.specs.Faults.{pair_at}
use Rattle.mp_active.proofs.lemmas.compare.CursorLemmas.{next_later}
use Rattle.mp_kernel.proofs.lemmas.timers.TimerLemmas.{bit_few}

-- how often a number is listed among one and others
pub one_of : (x number : ℕ) (rest : List ℕ) → listed x (number ∷ rest) ≡ bit (number == x) + listed x rest
one_of x number rest = sum_by-cons (λ d. cond (d == x) 1 0) number rest ∙ ap (λ n. n + listed x rest) (plain (number == x))
  where
    plain : (b : Bool) → cond b 1 0 ≡ bit b
    plain true = refl
    plain false = refl

-- a number that is taken out is listed, and isn't among the others
pub taken_listed : (run : Outcome) (t number : ℕ) (rest : List ℕ) (c : Comparison) → HasCursors run t (number ∷ rest) c → time_of c.timers number ≢ never
taken_listed run t number rest c has e =
    let once = has.timers.once number in
    let none = ap (λ b. bit (not b)) (eq-eqb (time_of c.timers number) never e) in
    let one = one_of number number rest in
    let own = ap bit (eq-eqb number number refl) in
    absurd (omega arith)

pub taken_once : (run : Outcome) (t number : ℕ) (rest : List ℕ) (c : Comparison) → HasCursors run t (number ∷ rest) c → listed number rest ≡ 0
taken_once run t number rest c has =
    let once = has.timers.once number in
    let few = bit_few (not (time_of c.timers number == never)) in
    let one = one_of number number rest in
    let own = ap bit (eq-eqb number number refl) in
    omega arith

-- the timer wheel and the places alone are others: each number but one stands where it stood, and that one is left out, or is listed for a later change
pub record IsAgain (run : Outcome) (t number : ℕ) (was is : Comparison) : Type 0 where
  pub kept : is ≡ record was { timers = is.timers; places = is.places }
  pub times : length is.timers.times.items ≡ length was.timers.times.items
  pub lengths : length is.places.items ≡ length was.places.items
  pub others : (x : ℕ) → (number == x) ≡ false → time_of is.timers x ≡ time_of was.timers x
  pub places : (x : ℕ) → (number == x) ≡ false → place_at is x ≡ place_at was x
  pub timers : (rest : List ℕ) → IsTimerWheel t (number ∷ rest) was.timers → IsTimerWheel t rest is.timers
  pub place : time_of is.timers number ≢ never → place_at is number < length (changes_at run was number)
  pub time : time_of is.timers number ≢ never → time_of is.timers number ≡ change_time run was number (place_at is number)
  pub over : (k : ℕ) → time_of is.timers number ≢ never → k < place_at is number → change_time run was number k ≤ t
  pub later : time_of is.timers number ≢ never → t < time_of is.timers number

pub again : (run : Outcome) (t number : ℕ) (was is : Comparison) (rest : List ℕ) → IsAgain run t number was is → HasCursors run t (number ∷ rest) was → HasCursors run t rest is
again run t number was is rest it has = subst (HasCursors run t rest) (sym it.kept) (record {
  shape = record {
    delays = has.shape.delays;
    next = has.shape.next;
    have_data = has.shape.have_data;
    asleep = has.shape.asleep;
    times = it.times ∙ has.shape.times;
    places = it.lengths ∙ has.shape.places;
    seen = has.shape.seen;
    few = has.shape.few;
    wires = has.shape.wires;
    own = has.shape.own;
  };
  form = has.form;
  timers = it.timers rest has.timers;
  room = has.room;
  place = λ x. place_by x (number == x) refl;
  time = λ x. time_by x (number == x) refl;
  over = λ x k. over_by x k (number == x) refl;
  later = λ x. later_by x (number == x) refl;
})
  where
    place_by : (x : ℕ) (same : Bool) → (number == x) ≡ same → time_of is.timers x ≢ never → place_at is x < length (changes_at run was x)
    place_by x true e = subst (λ y. time_of is.timers y ≢ never → place_at is y < length (changes_at run was y)) (eqb-true number x e) it.place
    place_by x false e = λ some.
        let before = has.place x (λ none. some (it.others x e ∙ none)) in
        let same = it.places x e in
        omega arith

    time_by : (x : ℕ) (same : Bool) → (number == x) ≡ same → time_of is.timers x ≢ never → time_of is.timers x ≡ change_time run was x (place_at is x)
    time_by x true e = subst (λ y. time_of is.timers y ≢ never → time_of is.timers y ≡ change_time run was y (place_at is y)) (eqb-true number x e) it.time
    time_by x false e = λ some.
        it.others x e ∙ has.time x (λ none. some (it.others x e ∙ none)) ∙ ap (λ p. change_time run was x p) (sym (it.places x e))

    over_by : (x k : ℕ) (same : Bool) → (number == x) ≡ same → time_of is.timers x ≢ never → k < place_at is x → change_time run was x k ≤ t
    over_by x k true e = subst (λ y. time_of is.timers y ≢ never → k < place_at is y → change_time run was y k ≤ t) (eqb-true number x e) (it.over k)
    over_by x k false e = λ some less.
        has.over x k (λ none. some (it.others x e ∙ none)) (let same = it.places x e in omega arith)

    later_by : (x : ℕ) (same : Bool) → (number == x) ≡ same → time_of is.timers x ≢ never → t < time_of is.timers x + listed x rest
    later_by x true e = subst (λ y. time_of is.timers y ≢ never → t < time_of is.timers y + listed y rest) (eqb-true number x e) (λ some. let later = it.later some in omega arith)
    later_by x false e = λ some.
        let before = has.later x (λ none. some (it.others x e ∙ none)) in
        let same = it.others x e in
        let one = one_of x number rest in
        let none = ap bit e in
        omega arith

-- it is left out
pub left_out : (run : Outcome) (t number : ℕ) (was is : Comparison) → number < length was.timers.times.items → is ≡ record was { timers = is.timers; places = is.places } → is.places.items ≡ was.places.items →
    is.timers.times.items ≡ slice_set was.timers.times.items number never → ((rest : List ℕ) → IsTimerWheel t (number ∷ rest) was.timers → IsTimerWheel t rest is.timers) → IsAgain run t number was is
left_out run t number was is within kept places times timers = record {
  kept = kept;
  times = ap (length {A = ℕ}) times ∙ length-set was.timers.times.items number never;
  lengths = ap (length {A = ℕ}) places;
  others = λ x other. ap (λ (ts : List ℕ). time_in ts x) times ∙ get_or-set_other was.timers.times.items number x never never (λ e. eqb-false number x other (sym e));
  places = λ x other. ap (λ (ps : List ℕ). get_or ps x 0) places;
  timers = timers;
  place = λ some. absurd (some none);
  time = λ some. absurd (some none);
  over = λ k some. absurd (some none);
  later = λ some. absurd (some none);
}
  where
    none : time_of is.timers number ≡ never
    none = ap (λ (ts : List ℕ). time_in ts number) times ∙ get_or-set_same was.timers.times.items number never never within

-- it is listed for its next change
pub listed_next : (run : Outcome) (t number time : ℕ) (rest : List ℕ) (was is : Comparison) → number < length was.numbers.wires.items → HasCursors run t (number ∷ rest) was → time_of was.timers number ≡ t →
    place_at was number + 1 < length (changes_at run was number) → time ≡ change_time run was number (place_at was number + 1) → is ≡ record was { timers = is.timers; places = is.places } →
    is.places.items ≡ slice_set was.places.items number (place_at was number + 1) → is.timers.times.items ≡ slice_set was.timers.times.items number time →
    ((rest : List ℕ) → IsTimerWheel t (number ∷ rest) was.timers → IsTimerWheel t rest is.timers) → IsAgain run t number was is
listed_next run t number time rest was is low has due more next kept places times timers = record {
  kept = kept;
  times = ap (length {A = ℕ}) times ∙ length-set was.timers.times.items number time;
  lengths = ap (length {A = ℕ}) places ∙ length-set was.places.items number (place_at was number + 1);
  others = λ x other. ap (λ (ts : List ℕ). time_in ts x) times ∙ get_or-set_other was.timers.times.items number x time never (λ e. eqb-false number x other (sym e));
  places = λ x other. ap (λ (ps : List ℕ). get_or ps x 0) places ∙ get_or-set_other was.places.items number x (place_at was number + 1) 0 (λ e. eqb-false number x other (sym e));
  timers = timers;
  place = λ some. let e = at in omega arith;
  time = λ some. now ∙ next ∙ ap (λ p. change_time run was number p) (sym at);
  over = λ k some less. elim (cases_lt k (place_at was number)) as (λ _. change_time run was number k ≤ t) [
    | inl before ↦ has.over number k listed before
    | inr past ↦
        let same : k ≡ place_at was number = (let e = at in omega arith) in
        let here = ap (λ p. change_time run was number p) same in
        let there = has.time number listed in
        omega arith
  ];
  later = λ some.
      let there = has.time number listed in
      let after = next_later run t (number ∷ rest) was number (place_at was number) (place_at was number + 1) has (omega arith) more in
      let e = now in
      omega arith;
}
  where
    listed : time_of was.timers number ≢ never
    listed = taken_listed run t number rest was has

    at : place_at is number ≡ place_at was number + 1
    at = ap (λ (ps : List ℕ). get_or ps number 0) places ∙ get_or-set_same was.places.items number (place_at was number + 1) 0 (let long = has.shape.places in omega arith)

    now : time_of is.timers number ≡ time
    now = ap (λ (ts : List ℕ). time_in ts number) times ∙ get_or-set_same was.timers.times.items number time never (let long = has.shape.times in omega arith)

-- no change is left of one whose change at a time was its last
pub is_last : (run : Outcome) (t number : ℕ) (rest : List ℕ) (was is : Comparison) → HasCursors run t (number ∷ rest) was → time_of was.timers number ≡ t → is.numbers ≡ was.numbers →
    length (changes_at run was number) ≤ place_at was number + 1 → IsListed run t is number
is_last run t number rest was is has due same last none =
    subst (λ (ns : Numbers). (k : ℕ) → k < length (old_changes run (wire_of ns number)) → (pair_at (old_changes run (wire_of ns number)) k).0 + delay_of ns number ≤ t) (sym same) each
  where
    listed : time_of was.timers number ≢ never
    listed = taken_listed run t number rest was has

    each : (k : ℕ) → k < length (changes_at run was number) → change_time run was number k ≤ t
    each k low = elim (cases_lt k (place_at was number)) as (λ _. change_time run was number k ≤ t) [
      | inl before ↦ has.over number k listed before
      | inr past ↦
          let here : k ≡ place_at was number = omega arith in
          let now = ap (λ p. change_time run was number p) here in
          let there = has.time number listed in
          omega arith
    ]

-- a number that is passed like this
pub passed : (run : Outcome) (t number : ℕ) (was is : Comparison) → IsAgain run t number was is → ((is_following was number || is_tracked was number t) ≡ true → IsListed run t is number) →
    HasPassed run t number was is
passed run t number was is it listed = record {
  cursors = λ rest has. again run t number was is rest it has;
  others = it.others;
  places = it.places;
  listed = listed;
}

-- it is put off
pub put_back : (run : Outcome) (t number : ℕ) (rest : List ℕ) (was is : Comparison) → HasCursors run t (number ∷ rest) was → t < time_of was.timers number → is ≡ record was { timers = is.timers; places = is.places } →
    is.places.items ≡ was.places.items → is.timers.times.items ≡ was.timers.times.items → ((rest : List ℕ) → IsTimerWheel t (number ∷ rest) was.timers → IsTimerWheel t rest is.timers) → IsAgain run t number was is
put_back run t number rest was is has later kept places times timers = record {
  kept = kept;
  times = ap (length {A = ℕ}) times;
  lengths = ap (length {A = ℕ}) places;
  others = λ x other. same x;
  places = λ x other. placed x;
  timers = timers;
  place = λ some. let before = has.place number (λ e. some (same number ∙ e)) in let e = placed number in omega arith;
  time = λ some. same number ∙ has.time number (λ e. some (same number ∙ e)) ∙ ap (λ p. change_time run was number p) (sym (placed number));
  over = λ k some less. has.over number k (λ e. some (same number ∙ e)) (let e = placed number in omega arith);
  later = λ some. let e = same number in omega arith;
}
  where
    same : (x : ℕ) → time_of is.timers x ≡ time_of was.timers x
    same x = ap (λ (ts : List ℕ). time_in ts x) times

    placed : (x : ℕ) → place_at is x ≡ place_at was x
    placed x = ap (λ (ps : List ℕ). get_or ps x 0) places

pub next_time : (run : Outcome) (t number time : ℕ) (was is : Comparison) → number < length was.timers.times.items → is.timers.times.items ≡ slice_set was.timers.times.items number time → time_of is.timers number ≡ time
next_time run t number time was is within times = ap (λ (ts : List ℕ). time_in ts number) times ∙ get_or-set_same was.timers.times.items number time never within
