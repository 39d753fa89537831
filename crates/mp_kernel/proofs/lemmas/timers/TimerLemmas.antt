-- Numbers in the slots of a timer wheel, counted.
use Rattle.std.proofs.Common.{◌≡◌, ◌≢◌, ℕ, zero, suc, ◌+◌, ◌-◌, ◌<◌, ◌≤◌, Bool, true, false, not, cond, List, [], ◌∷◌, ◌++◌, length, drop, refl, sym, ap, ◌∙◌, arith, get_or-set_same, get_or-set_other, subst, inl, inr}
use Rattle.std.specs.Prelude.{◌==◌, slice_set}
use Rattle.std.proofs.lemmas.Bool.{cases_lt, eq-eqb, eqb-true, eqb-false}
use Rattle.std.proofs.lemmas.List.{length-append, length-drop, get_or_past}
use Rattle.std.proofs.lemmas.List.Sums.{sum_by-cons, sum_by-append, sum_by-set, sum_by-drop_more, get_or-le-sum_by}
use Rattle.mp_modules.specs.automata.Codes.{bit}
use Rattle.mp_kernel.specs.events.EventWheels.{with_entry}
use Rattle.mp_kernel.specs.events.Adding.{listed}
use Rattle.mp_kernel.specs.declared.timers.timer_wheel.TimerWheel.{TimerWheel}
use Rattle.mp_kernel.specs.timers.TimerWheels.{never, time_in, time_of, slot_at, coming, entries, IsTimerWheel, HasEntered, ComesUp, ListedCome}

pub one : (x w : ℕ) (xs : List ℕ) → listed x (w ∷ xs) ≡ bit (w == x) + listed x xs
one x w xs = sum_by-cons (λ d. cond (d == x) 1 0) w xs ∙ ap (λ n. n + listed x xs) (plain (w == x))
  where
    plain : (b : Bool) → cond b 1 0 ≡ bit b
    plain true = refl
    plain false = refl

pub pushed : (x w : ℕ) (xs : List ℕ) → listed x (xs ++ w ∷ []) ≡ listed x xs + bit (w == x)
pushed x w xs = sum_by-append (λ d. cond (d == x) 1 0) xs (w ∷ []) ∙ ap (λ n. listed x xs + n) (omega arith)

entered : (x w k : ℕ) (slots : List (List ℕ)) → k < length slots → entries x (with_entry slots k w) ≡ entries x slots + bit (w == x)
entered x w k slots low =
    let all = sum_by-set (listed x) slots k (slot_at slots k ++ w ∷ []) [] low in
    let here = pushed x w (slot_at slots k) in
    omega arith

-- the slot of another unit stays, and that one has the number once more
slot_entered : (x w at k : ℕ) (slots : List (List ℕ)) → at < length slots → (same : Bool) → (at == k) ≡ same → listed x (slot_at (with_entry slots at w) k) ≡ listed x (slot_at slots k) + cond same (bit (w == x)) 0
slot_entered x w at k slots low true is =
    let same : at ≡ k = eqb-true at k is in
    subst (λ j. listed x (slot_at (with_entry slots at w) j) ≡ listed x (slot_at slots j) + bit (w == x)) same
    (ap (listed x) (get_or-set_same slots at (slot_at slots at ++ w ∷ []) [] low) ∙ pushed x w (slot_at slots at))
slot_entered x w at k slots low false is =
    ap (listed x) (get_or-set_other slots at k (slot_at slots at ++ w ∷ []) [] (λ e. eqb-false at k is (sym e))) ∙ omega arith

pub in_slot : (x k : ℕ) (slots : List (List ℕ)) → listed x (slot_at slots k) ≤ entries x slots
in_slot x k slots = elim (cases_lt k (length slots)) as (λ _. listed x (slot_at slots k) ≤ entries x slots) [
  | inl low ↦ get_or-le-sum_by (listed x) slots k [] low
  | inr past ↦ let none = ap (listed x) (get_or_past slots k [] past) in omega arith
]

pub in_none : (x : ℕ) (slots : List (List ℕ)) → ((k : ℕ) → listed x (slot_at slots k) ≡ 0) → entries x slots ≡ 0
in_none x [] none = refl
in_none x (slot ∷ slots) none =
    let here = none 0 in
    let rest = in_none x slots (λ k. none (suc k)) in
    let both = sum_by-cons (listed x) slot slots in
    omega arith

-- where no number is listed and all slots are empty
pub none_listed : (timers : TimerWheel) → 0 < length timers.wheel → timers.span ≡ length timers.wheel → ((x : ℕ) → time_of timers x ≡ never) →
    ((k : ℕ) → slot_at timers.wheel k ≡ []) → (t : ℕ) → IsTimerWheel t [] timers
none_listed timers some span times empty t = record {
  some = some;
  span = span;
  once = λ x.
      let none = in_none x timers.wheel (λ k. ap (listed x) (empty k)) in
      let off = ap (λ b. bit (not b)) (eq-eqb (time_of timers x) never (times x)) in
      omega arith;
  soon = λ x k there. let none = ap (listed x) (empty k) in absurd (omega arith);
  due = λ x there. absurd (omega arith);
}

-- one number beside, which is in no slot and isn't taken out
pub record IsBut (t : ℕ) (taken : List ℕ) (number : ℕ) (timers : TimerWheel) : Type 0 where
  pub some : 0 < length timers.wheel
  pub span : timers.span ≡ length timers.wheel
  pub free : entries number timers.wheel + listed number taken ≡ 0
  pub once : (x : ℕ) → (number == x) ≡ false → entries x timers.wheel + listed x taken ≡ bit (not (time_of timers x == never))
  pub soon : (x k : ℕ) → (number == x) ≡ false → 0 < listed x (slot_at timers.wheel k) → t + 1 + k ≤ time_of timers x
  pub due : (x : ℕ) → (number == x) ≡ false → 0 < listed x taken → t ≤ time_of timers x

pub bit_few : (b : Bool) → bit b ≤ 1
bit_few true = omega arith
bit_few false = omega arith

pub but_fresh : (t : ℕ) (taken : List ℕ) (number : ℕ) (timers : TimerWheel) → time_of timers number ≡ never → IsTimerWheel t taken timers → IsBut t taken number timers
but_fresh t taken number timers none is = record {
  some = is.some;
  span = is.span;
  free = is.once number ∙ ap (λ b. bit (not b)) (eq-eqb (time_of timers number) never none);
  once = λ x other. is.once x;
  soon = λ x k other. is.soon x k;
  due = λ x other. is.due x;
}

pub but_taken : (t : ℕ) (taken : List ℕ) (number : ℕ) (timers : TimerWheel) → IsTimerWheel t (number ∷ taken) timers → IsBut t taken number timers
but_taken t taken number timers is = record {
  some = is.some;
  span = is.span;
  free =
      let own = one number number taken in
      let same = ap bit (eq-eqb number number refl) in
      let all = is.once number in
      let few = bit_few (not (time_of timers number == never)) in
      omega arith;
  once = λ x other. ap (λ n. entries x timers.wheel + n) (sym (without x other)) ∙ is.once x;
  soon = λ x k other. is.soon x k;
  due = λ x other some. is.due x (let same = without x other in omega arith);
}
  where
    without : (x : ℕ) → (number == x) ≡ false → listed x (number ∷ taken) ≡ listed x taken
    without x other = let all = one x number taken in let none = ap bit other in omega arith

-- a number that is taken out is listed
pub listed_before : (t : ℕ) (taken : List ℕ) (number : ℕ) (timers : TimerWheel) → IsTimerWheel t (number ∷ taken) timers → time_of timers number ≢ never
listed_before t taken number timers is e =
    let all = is.once number in
    let none = ap (λ c. bit (not c)) (eq-eqb (time_of timers number) never e) in
    let own = one number number taken in
    let same = ap bit (eq-eqb number number refl) in
    absurd (omega arith)

none_in : (t : ℕ) (taken : List ℕ) (number : ℕ) (timers : TimerWheel) → IsBut t taken number timers → (k : ℕ) → listed number (slot_at timers.wheel k) ≡ 0
none_in t taken number timers but k = let free = but.free in let few = in_slot number k timers.wheel in omega arith

-- a number that is in no slot comes into one, with its time
pub has_entered : (now : ℕ) (taken : List ℕ) (number time : ℕ) (timers new : TimerWheel) → now < time → time ≢ never → number < length timers.times.items →
    new.times.items ≡ slice_set timers.times.items number time → new.span ≡ timers.span → HasEntered timers.wheel new.wheel number (time - now) →
    IsBut now taken number timers → IsTimerWheel now taken new
has_entered now taken number time timers new later low within times span has but = record {
  some = let a = but.some in let b = has.places in omega arith;
  span = span ∙ but.span ∙ sym has.places;
  once = λ x. once_by x (number == x) refl;
  soon = λ x k some. soon_by x k (number == x) refl some;
  due = λ x some. due_by x (number == x) refl some;
}
  where
    own_time : time_of new number ≡ time
    own_time = ap (λ (ts : List ℕ). time_in ts number) times ∙ get_or-set_same timers.times.items number time never within

    other_time : (x : ℕ) → (number == x) ≡ false → time_of new x ≡ time_of timers x
    other_time x other = ap (λ (ts : List ℕ). time_in ts x) times ∙ get_or-set_other timers.times.items number x time never (λ e. eqb-false number x other (sym e))

    all : (x : ℕ) → entries x new.wheel ≡ entries x timers.wheel + bit (number == x)
    all x = ap (entries x) has.is ∙ entered x number has.at timers.wheel has.within

    is_some : not (time_of new number == never) ≡ true
    is_some = by (time_of new number == never) refl
      where
        by : (b : Bool) → (time_of new number == never) ≡ b → not b ≡ true
        by true is = absurd (low (sym own_time ∙ eqb-true (time_of new number) never is))
        by false is = refl

    once_by : (x : ℕ) (same : Bool) → (number == x) ≡ same → entries x new.wheel + listed x taken ≡ bit (not (time_of new x == never))
    once_by x true is =
        subst (λ y. entries y new.wheel + listed y taken ≡ bit (not (time_of new y == never))) (eqb-true number x is)
        (let free = but.free in
        let more = all number in
        let own = ap bit (eq-eqb number number refl) in
        let listed_now = ap bit is_some in
        omega arith)
    once_by x false is =
        let before = but.once x is in
        let more = all x in
        let none = ap bit is in
        let time_too = ap (λ (u : ℕ). bit (not (u == never))) (other_time x is) in
        omega arith

    soon_by : (x k : ℕ) (same : Bool) → (number == x) ≡ same → 0 < listed x (slot_at new.wheel k) → now + 1 + k ≤ time_of new x
    soon_by x k true is some =
        subst (λ y. 0 < listed y (slot_at new.wheel k) → now + 1 + k ≤ time_of new y) (eqb-true number x is) here some
      where
        by_slot : (at_slot : Bool) → (has.at == k) ≡ at_slot → 0 < listed number (slot_at new.wheel k) → now + 1 + k ≤ time
        by_slot true at_k s = let e : has.at ≡ k = eqb-true has.at k at_k in let near = has.near in omega arith
        by_slot false at_k s =
            let none = none_in now taken number timers but k in
            let there = ap (λ (w : List (List ℕ)). listed number (slot_at w k)) has.is ∙ slot_entered number number has.at k timers.wheel has.within false at_k in
            absurd (omega arith)

        here : 0 < listed number (slot_at new.wheel k) → now + 1 + k ≤ time_of new number
        here s = let early = by_slot (has.at == k) refl s in let own = own_time in omega arith
    soon_by x k false is some =
        let kept = by_slot (has.at == k) refl in
        let before = but.soon x k is (omega arith) in
        let time_too = other_time x is in
        omega arith
      where
        by_slot : (at_slot : Bool) → (has.at == k) ≡ at_slot → listed x (slot_at new.wheel k) ≡ listed x (slot_at timers.wheel k)
        by_slot true at_k = ap (λ (w : List (List ℕ)). listed x (slot_at w k)) has.is ∙ slot_entered x number has.at k timers.wheel has.within true at_k ∙ ap (λ b. listed x (slot_at timers.wheel k) + bit b) is ∙ omega arith
        by_slot false at_k = ap (λ (w : List (List ℕ)). listed x (slot_at w k)) has.is ∙ slot_entered x number has.at k timers.wheel has.within false at_k ∙ omega arith

    due_by : (x : ℕ) (same : Bool) → (number == x) ≡ same → 0 < listed x taken → now ≤ time_of new x
    due_by x true is some =
        subst (λ y. 0 < listed y taken → now ≤ time_of new y) (eqb-true number x is)
        (λ s. let free = but.free in absurd (omega arith)) some
    due_by x false is some = let before = but.due x is some in let time_too = other_time x is in omega arith

-- the slots of one unit later
next_slot : (slots : List (List ℕ)) (k : ℕ) → slot_at (drop 1 slots ++ [] ∷ []) k ≡ slot_at slots (suc k)
next_slot slots k = by slots
  where
    last : (xs : List (List ℕ)) (j : ℕ) → slot_at (xs ++ [] ∷ []) j ≡ slot_at xs j
    last [] zero = refl
    last [] (suc j) = refl
    last (x ∷ xs) zero = refl
    last (x ∷ xs) (suc j) = last xs j

    by : (xs : List (List ℕ)) → slot_at (drop 1 xs ++ [] ∷ []) k ≡ slot_at xs (suc k)
    by [] = last [] k
    by (x ∷ xs) = last xs k

entries_turned : (x : ℕ) (slots : List (List ℕ)) → 0 < length slots → entries x (drop 1 slots ++ [] ∷ []) + listed x (slot_at slots 0) ≡ entries x slots
entries_turned x slots some =
    let both = sum_by-append (listed x) (drop 1 slots) ([] ∷ []) in
    let first = sum_by-drop_more (listed x) slots 0 [] some in
    omega arith

pub turned : (t : ℕ) (timers new : TimerWheel) → new.times.items ≡ timers.times.items → new.span ≡ timers.span → new.wheel ≡ drop 1 timers.wheel ++ [] ∷ [] →
    IsTimerWheel t [] timers → IsTimerWheel (t + 1) (coming timers) new
turned t timers new times span wheel is = record {
  some = let a = long in let b = is.some in omega arith;
  span = span ∙ is.span ∙ sym long;
  once = λ x.
      let all = ap (entries x) wheel in
      let parts = entries_turned x timers.wheel is.some in
      let before = is.once x in
      let time_too = ap (λ (ts : List ℕ). bit (not (time_in ts x == never))) times in
      omega arith;
  soon = λ x k some.
      let there : slot_at new.wheel k ≡ slot_at timers.wheel (suc k) = ap (λ (w : List (List ℕ)). slot_at w k) wheel ∙ next_slot timers.wheel k in
      let before = is.soon x (suc k) (subst (λ (xs : List ℕ). 0 < listed x xs) there some) in
      let time_too = ap (λ (ts : List ℕ). time_in ts x) times in
      omega arith;
  due = λ x some.
      let before = is.soon x 0 some in
      let time_too = ap (λ (ts : List ℕ). time_in ts x) times in
      omega arith;
}
  where
    long : length new.wheel ≡ length timers.wheel
    long =
        let a = ap (length {A = List ℕ}) wheel in
        let b = length-append (drop 1 timers.wheel) ([] ∷ []) in
        let c = length-drop 1 timers.wheel in
        let d = is.some in
        omega arith

pub comes_up : ComesUp
comes_up t timers is x now before =
    let all : entries x timers.wheel + 0 ≡ 1 = is.once x ∙ ap (λ b. bit (not b)) (is_not (time_of timers x == never) refl) in
    elim (cases_lt 0 (listed x (coming timers))) as (λ _. listed x (coming timers) ≡ 1) [
      | inl some ↦ let few = in_slot x 0 timers.wheel in omega arith
      | inr none ↦ absurd (none_at_all all (omega arith))
    ]
  where
    is_not : (b : Bool) → (time_of timers x == never) ≡ b → b ≡ false
    is_not true e = let same = eqb-true (time_of timers x) never e in absurd (omega arith)
    is_not false e = refl

    later : (k : ℕ) → 0 < k → listed x (slot_at timers.wheel k) ≡ 0
    later k some = elim (cases_lt 0 (listed x (slot_at timers.wheel k))) as (λ _. listed x (slot_at timers.wheel k) ≡ 0) [
      | inl listed_there ↦ let soon = is.soon x k listed_there in absurd (omega arith)
      | inr none ↦ omega arith
    ]

    none_at_all : entries x timers.wheel + 0 ≡ 1 → listed x (coming timers) ≡ 0 → ⊥
    none_at_all one_there none =
        let all = in_none x timers.wheel (λ k. by k) in
        omega arith
      where
        by : (k : ℕ) → listed x (slot_at timers.wheel k) ≡ 0
        by zero = none
        by (suc k) = later (suc k) (omega arith)

pub listed_come : ListedCome
listed_come t timers is x some = let soon = is.soon x 0 some in omega arith
