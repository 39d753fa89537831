-- By how much a timer wheel can be late.
use Rattle.std.proofs.Common.{◌≡◌, ◌≢◌, ℕ, zero, suc, ◌+◌, ◌<◌, ◌≤◌, Bool, true, false, not, List, [], ◌∷◌, length, take, slice_index_or, refl, ap, arith, subst, inl, inr}
use Rattle.std.specs.Prelude.{◌==◌}
use Rattle.std.proofs.lemmas.Bool.{cases_lt, eq-eqb, eqb-true, ne_eqb}
use Rattle.std.proofs.lemmas.List.{get_or_past, take_more}
use Rattle.mp_modules.specs.automata.Codes.{bit}
use Rattle.mp_kernel.specs.events.Adding.{listed}
use Rattle.mp_kernel.specs.declared.timers.timer_wheel.TimerWheel.{TimerWheel}
use Rattle.mp_kernel.specs.timers.TimerWheels.{never, time_of, slot_at, IsTimerWheel}
use Rattle.mp_kernel.proofs.lemmas.timers.TimerLemmas.{one, in_slot, in_none, pushed}

-- a number in a slot is listed
pub slot_listed : (t k x : ℕ) (timers : TimerWheel) → IsTimerWheel t [] timers → 0 < listed x (slot_at timers.wheel k) → time_of timers x ≢ never
slot_listed t k x timers is some none =
    let all = is.once x in
    let few = in_slot x k timers.wheel in
    let e = ap (λ b. bit (not b)) (eq-eqb (time_of timers x) never none) in
    absurd (omega arith)

-- so it has a time
pub slot_within : (t k x : ℕ) (timers : TimerWheel) → IsTimerWheel t [] timers → 0 < listed x (slot_at timers.wheel k) → x < length timers.times.items
slot_within t k x timers is some = elim (cases_lt x (length timers.times.items)) as (λ _. x < length timers.times.items) [
  | inl low ↦ low
  | inr past ↦ absurd (slot_listed t k x timers is some (get_or_past timers.times.items x never past))
]

-- numbers that come up at so many places have their times that much later, or more
abbrev pub AllLate : ℕ → TimerWheel → List ℕ → Type 0
AllLate time timers xs = (x : ℕ) → 0 < listed x xs → time ≤ time_of timers x

pub none_late : (time : ℕ) (timers : TimerWheel) → AllLate time timers []
none_late time timers x some = absurd (omega arith)

pub sooner : (time less : ℕ) (timers : TimerWheel) (xs : List ℕ) → less ≤ time → AllLate time timers xs → AllLate less timers xs
sooner time less timers xs le all x some = let late = all x some in omega arith

pub more_late : (time : ℕ) (timers : TimerWheel) (xs : List ℕ) (k d : ℕ) → k < length xs → AllLate time timers (take k xs) → time ≤ time_of timers (slice_index_or xs k d) → AllLate time timers (take (k + 1) xs)
more_late time timers xs k d low all late x some = elim (cases_lt 0 (listed x (take k xs))) as (λ _. time ≤ time_of timers x) [
  | inl before ↦ all x before
  | inr none ↦
      let sum = ap (listed x) (take_more xs k d low) in
      let last = pushed x (slice_index_or xs k d) (take k xs) in
      subst (λ y. time ≤ time_of timers y) (eqb-true (slice_index_or xs k d) x (bit_of (slice_index_or xs k d == x) (omega arith))) late
]
  where
    bit_of : (b : Bool) → 0 < bit b → b ≡ true
    bit_of true some = refl
    bit_of false some = absurd (omega arith)

-- in the first slots, each counted from a time on
abbrev pub SlotsLate : ℕ → ℕ → TimerWheel → Type 0
SlotsLate time k timers = (j : ℕ) → j < k → AllLate (time + j) timers (slot_at timers.wheel j)

pub slots_sooner : (time less k : ℕ) (timers : TimerWheel) → less ≤ time → SlotsLate time k timers → SlotsLate less k timers
slots_sooner time less k timers le all j low = sooner (time + j) (less + j) timers (slot_at timers.wheel j) (omega (arith, le)) (all j low)

pub one_slot : (time k : ℕ) (timers : TimerWheel) → SlotsLate time k timers → AllLate (time + k) timers (slot_at timers.wheel k) → SlotsLate time (k + 1) timers
one_slot time k timers all last j low = elim (cases_lt j k) as (λ _. AllLate (time + j) timers (slot_at timers.wheel j)) [
  | inl less ↦ all j less
  | inr past ↦ let same : k ≡ j = omega (arith, low, past) in subst (λ i. AllLate (time + i) timers (slot_at timers.wheel i)) same last
]

-- where all are late, the timer wheel is one of the time before
pub late_calendar : (t to : ℕ) (timers : TimerWheel) → IsTimerWheel t [] timers → SlotsLate (to + 1) (length timers.wheel) timers → IsTimerWheel to [] timers
late_calendar t to timers is all = record {
  some = is.some;
  span = is.span;
  once = is.once;
  soon = λ x k some. elim (cases_lt k (length timers.wheel)) as (λ _. to + 1 + k ≤ time_of timers x) [
    | inl low ↦ all k low x some
    | inr past ↦ let none = ap (listed x) (get_or_past timers.wheel k [] past) in absurd (omega arith)
  ];
  due = λ x some. absurd (omega arith);
}

-- a number that is listed has its time after that
pub listed_later : (t x : ℕ) (timers : TimerWheel) → IsTimerWheel t [] timers → time_of timers x ≢ never → t < time_of timers x
listed_later t x timers is listed_there = elim (cases_lt t (time_of timers x)) as (λ _. t < time_of timers x) [
  | inl later ↦ later
  | inr early ↦
      let none = in_none x timers.wheel (λ k. nowhere early k) in
      let all = is.once x in
      let e = ap (λ b. bit (not b)) (ne_eqb (time_of timers x) never listed_there) in
      absurd (omega arith)
]
  where
    nowhere : time_of timers x ≤ t → (k : ℕ) → listed x (slot_at timers.wheel k) ≡ 0
    nowhere early k = elim (cases_lt 0 (listed x (slot_at timers.wheel k))) as (λ _. listed x (slot_at timers.wheel k) ≡ 0) [
      | inl some ↦ let soon = is.soon x k some in absurd (omega arith)
      | inr none ↦ omega arith
    ]

at_place : (xs : List ℕ) (k d : ℕ) → k < length xs → 0 < listed (slice_index_or xs k d) xs
at_place [] k d low = absurd (omega arith)
at_place (x ∷ xs) zero d low = let all = one x x xs in let own = ap bit (eq-eqb x x refl) in omega arith
at_place (x ∷ xs) (suc k) d low =
    let all = one (slice_index_or xs k d) x xs in
    let rest = at_place xs k d (omega arith) in
    omega arith

-- the number at a place of a slot
pub slot_has : (xs : List ℕ) (k i d : ℕ) (timers : TimerWheel) → xs ≡ slot_at timers.wheel k → i < length xs → 0 < listed (slice_index_or xs i d) (slot_at timers.wheel k)
slot_has xs k i d timers same low = subst (λ (ys : List ℕ). 0 < listed (slice_index_or xs i d) ys) same (at_place xs i d low)
