-- The numbers of a wire are gone through, each behind the one before.
use Rattle.std.proofs.Common.{◌≡◌, ℕ, suc, ◌-◌, ◌^◌, ◌<◌, ◌≤◌, Bool, true, false, ◌||◌, [], length, refl, sym, ap, ◌∙◌, arith, subst, inl, inr, ◌⊎◌}
use Rattle.std.specs.Prelude.{◌==◌, Option, Some, None}
use Rattle.std.proofs.lemmas.Bool.{eq-eqb, eqb-true, or_cases, or_left, or_right}
use Rattle.std.proofs.lemmas.Option.{same_Some, none-some}
use Rattle.mp_partition.specs.runs.Outcomes.{Outcome}
use Rattle.mp_active.specs.declared.compare.numbers.Numbers.{Numbers}
use Rattle.mp_active.specs.declared.compare.comparison.Comparison.{Comparison}
use Rattle.mp_active.specs.compare.Comparing.{wire_of, delay_of, asleep_at, HasCursors, IsListed}
use Rattle.mp_active.specs.compare.Listing.{after, AreLinked}
use Rattle.mp_active.proofs.lemmas.compare.ChainLemmas.{AreBehind, all_seen, behind_within}

-- the next one is a number
abbrev pub IsNumber : Numbers → Option ℕ → Type 0
IsNumber numbers None = Unit {0}
IsNumber numbers (Some y) = y < length numbers.wires.items

-- what is left to go through
abbrev pub left : Numbers → Option ℕ → ℕ
left numbers None = 0
left numbers (Some y) = suc (2 ^ 32 - delay_of numbers y)

-- the numbers that were seen are listed, and what stands behind them was seen or is the next one
pub record IsTracking (run : Outcome) (now wire : ℕ) (next : Option ℕ) (was is : Comparison) : Type 0 where
  pub kept : is ≡ record was { timers = is.timers; places = is.places }
  pub cursors : HasCursors run now [] is
  pub others : (x : ℕ) → IsListed run now was x → IsListed run now is x
  pub number : IsNumber was.numbers next
  pub seen : ℕ → Bool
  pub first : (seen wire ≡ true) ⊎ (next ≡ Some wire)
  pub on : (x y : ℕ) → seen x ≡ true → after was.numbers x ≡ Some y → (seen y ≡ true) ⊎ (next ≡ Some y)
  pub done : (x : ℕ) → seen x ≡ true → 0 < asleep_at was x → IsListed run now is x

pub tracking_starts : (run : Outcome) (now wire : ℕ) (c : Comparison) → wire < length c.numbers.wires.items → HasCursors run now [] c → IsTracking run now wire (Some wire) c c
tracking_starts run now wire c low has = record {
  kept = refl;
  cursors = has;
  others = λ x listed. listed;
  number = low;
  seen = λ x. false;
  first = inr refl;
  on = λ x y seen. absurd (false_true seen);
  done = λ x seen. absurd (false_true seen);
}
  where
    false_true : false ≡ true → ⊥
    false_true e = cc

-- a number was listed, where a module reads it that sleeps
pub record HasListed (run : Outcome) (now number : ℕ) (was is : Comparison) : Type 0 where
  pub kept : is ≡ record was { timers = is.timers; places = is.places }
  pub cursors : HasCursors run now [] is
  pub others : (x : ℕ) → IsListed run now was x → IsListed run now is x
  pub listed : 0 < asleep_at was number → IsListed run now is number

pub listed_none : (run : Outcome) (now number : ℕ) (c : Comparison) → asleep_at c number ≤ 0 → HasCursors run now [] c → HasListed run now number c c
listed_none run now number c none has = record { kept = refl; cursors = has; others = λ x listed. listed; listed = λ some. absurd (omega arith) }

asleep_same : (was is : Comparison) (x : ℕ) → is ≡ record was { timers = is.timers; places = is.places } → asleep_at is x ≡ asleep_at was x
asleep_same was is x kept = ap (λ (c : Comparison). asleep_at c x) kept

next_number : (numbers : Numbers) (x : ℕ) → AreLinked numbers → (next : Option ℕ) → after numbers x ≡ next → IsNumber numbers next
next_number numbers x linked None e = tt
next_number numbers x linked (Some y) e = linked.within x y e

-- the next number is seen
pub tracking_goes_on : (run : Outcome) (now wire number : ℕ) (next : Option ℕ) (was mid is : Comparison) → AreLinked was.numbers → next ≡ after is.numbers number →
    IsTracking run now wire (Some number) was mid → HasListed run now number mid is → IsTracking run now wire next was is
tracking_goes_on run now wire number next was mid is linked after_is tracking listed = record {
  kept = listed.kept ∙ ap (λ (c : Comparison). record c { timers = is.timers; places = is.places }) tracking.kept;
  cursors = listed.cursors;
  others = λ x before. listed.others x (tracking.others x before);
  number = next_number was.numbers number linked next behind;
  seen = λ x. (x == number) || tracking.seen x;
  first = first_by tracking.first;
  on = λ x y seen at. on_by x y at (or_cases (x == number) (tracking.seen x) seen);
  done = λ x seen asleep. done_by x asleep (or_cases (x == number) (tracking.seen x) seen);
}
  where
    behind : after was.numbers number ≡ next
    behind = sym (after_is ∙ ap (λ (c : Comparison). after c.numbers number) (listed.kept ∙ ap (λ (c : Comparison). record c { timers = is.timers; places = is.places }) tracking.kept))

    here : (y : ℕ) → Some number ≡ Some y → ((y == number) || tracking.seen y) ≡ true
    here y e = or_left (y == number) (tracking.seen y) (eq-eqb y number (sym (same_Some number y e)))

    first_by : (tracking.seen wire ≡ true) ⊎ (Some number ≡ Some wire) → (((wire == number) || tracking.seen wire) ≡ true) ⊎ (next ≡ Some wire)
    first_by (inl seen) = inl (or_right (wire == number) (tracking.seen wire) seen)
    first_by (inr e) = inl (here wire e)

    on_now : (y : ℕ) → (tracking.seen y ≡ true) ⊎ (Some number ≡ Some y) → (((y == number) || tracking.seen y) ≡ true) ⊎ (next ≡ Some y)
    on_now y (inl seen) = inl (or_right (y == number) (tracking.seen y) seen)
    on_now y (inr e) = inl (here y e)

    on_by : (x y : ℕ) → after was.numbers x ≡ Some y → ((x == number) ≡ true) ⊎ (tracking.seen x ≡ true) → (((y == number) || tracking.seen y) ≡ true) ⊎ (next ≡ Some y)
    on_by x y at (inl own) = inr (sym behind ∙ ap (after was.numbers) (sym (eqb-true x number own)) ∙ at)
    on_by x y at (inr seen) = on_now y (tracking.on x y seen at)

    done_by : (x : ℕ) → 0 < asleep_at was x → ((x == number) ≡ true) ⊎ (tracking.seen x ≡ true) → IsListed run now is x
    done_by x asleep (inl own) = subst (λ y. IsListed run now is y) (sym (eqb-true x number own))
        (listed.listed (subst (λ y. 0 < asleep_at mid y) (eqb-true x number own) (let same = asleep_same was mid x tracking.kept in omega arith)))
    done_by x asleep (inr seen) = listed.others x (tracking.done x seen asleep)

are_behind : (numbers : Numbers) → AreLinked numbers → length numbers.next.items ≡ length numbers.wires.items →
    AreBehind (length numbers.wires.items) (after numbers) (λ x. (wire_of numbers x, delay_of numbers x))
are_behind numbers linked long = record {
  inside = λ x y at. let within = behind_within numbers.next.items x y at in omega arith;
  same = linked.same;
  later = linked.later;
  tied = linked.tied;
}

-- at the end all numbers of the wire are listed that modules read that sleep
pub tracking_ends : (run : Outcome) (now wire : ℕ) (was is : Comparison) → AreLinked was.numbers → HasCursors run now [] was → IsTracking run now wire None was is →
    (x : ℕ) → x < length was.numbers.wires.items → wire_of was.numbers x ≡ wire → 0 < asleep_at was x → IsListed run now is x
tracking_ends run now wire was is linked has tracking x low of asleep =
    tracking.done x
    (all_seen (length was.numbers.wires.items) (after was.numbers) (λ v. (wire_of was.numbers v, delay_of was.numbers v)) (are_behind was.numbers linked has.shape.next) wire tracking.seen (over wire tracking.first)
    (λ a b seen at. over b (tracking.on a b seen at)) (suc (delay_of was.numbers x)) x (omega arith) low of)
    asleep
  where
    over : (y : ℕ) → (tracking.seen y ≡ true) ⊎ (None ≡ Some y) → tracking.seen y ≡ true
    over y (inl seen) = seen
    over y (inr e) = absurd (none-some y e)
