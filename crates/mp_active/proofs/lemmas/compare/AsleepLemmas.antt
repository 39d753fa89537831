-- Inputs of modules fall asleep and wake, port by port.
use Rattle.std.proofs.Common.{◌≡◌, ℕ, zero, suc, ◌+◌, ◌^◌, ◌<◌, ◌≤◌, Bool, true, false, ◌||◌, List, [], ◌∷◌, ◌++◌, All, length, get_or, take, drop, refl, sym, ap, ◌∙◌, arith, subst, inl, inr, ◌⊎◌}
use Rattle.std.specs.Prelude.{◌==◌, nat_lt, Option, Some, None}
use Rattle.std.proofs.lemmas.Bool.{eqb-true, lt-ltb, ltb-true, and_parts, and_from, or_cases, or_left, or_right}
use Rattle.std.proofs.lemmas.List.{take_more, take-append-drop}
use Rattle.mp_modules.specs.automata.Codes.{bit}
use Rattle.mp_kernel.specs.events.Adding.{listed}
use Rattle.mp_partition.specs.runs.Outcomes.{Outcome}
use Rattle.mp_active.specs.declared.compare.comparison.Comparison.{Comparison}
use Rattle.mp_active.specs.compare.Comparing.{IsShaped, wire_of, delay_of, source_at, asleep_at, may_differ, is_following, is_tracked, HasCursors, IsListed, IsComplete}
use Rattle.mp_active.specs.compare.Waking.{number_in, numbers_in, AreReadAsleep}
use Rattle.mp_active.proofs.lemmas.compare.PassingLemmas.{one_of}
use Rattle.mp_active.proofs.lemmas.compare.RelistingLemmas.{needed_same, HasRelisted, step_complete}

numbers_append : (x : ℕ) (ps qs : List (Option ℕ)) → listed x (numbers_in (ps ++ qs)) ≡ listed x (numbers_in ps) + listed x (numbers_in qs)
numbers_append x [] qs = omega arith
numbers_append x (None ∷ ps) qs = numbers_append x ps qs
numbers_append x (Some n ∷ ps) qs =
    let rest = numbers_append x ps qs in
    let all = one_of x n (numbers_in (ps ++ qs)) in
    let front = one_of x n (numbers_in ps) in
    omega arith

-- one port more
pub numbers_more : (x : ℕ) (ps : List (Option ℕ)) (i : ℕ) (d : Option ℕ) → i < length ps → listed x (numbers_in (take (i + 1) ps)) ≡ listed x (numbers_in (take i ps)) + listed x (number_in (get_or ps i d) [])
numbers_more x ps i d low = ap (λ qs. listed x (numbers_in qs)) (take_more ps i d low) ∙ numbers_append x (take i ps) (get_or ps i d ∷ [])

numbers_few : (x : ℕ) (ps : List (Option ℕ)) (i : ℕ) → listed x (numbers_in (take i ps)) ≤ listed x (numbers_in ps)
numbers_few x ps i =
    let all = ap (λ qs. listed x (numbers_in qs)) (take-append-drop i ps) in
    let parts = numbers_append x (take i ps) (drop i ps) in
    omega arith

-- what holds of the numbers at all ports holds of that at one
pub number_all : (P : ℕ → Type 0) (ps : List (Option ℕ)) (i : ℕ) (d : Option ℕ) → i < length ps → All P (numbers_in ps) → All P (number_in (get_or ps i d) [])
number_all P [] i d low all = absurd (omega arith)
number_all P (None ∷ ps) zero d low all = λ k e less. absurd (omega arith)
number_all P (Some n ∷ ps) zero d low all = one (all 0 n (omega arith))
  where
    one : P n → All P (n ∷ [])
    one p zero e less = p
    one p (suc k) e less = absurd (omega arith)
number_all P (None ∷ ps) (suc i) d low all = number_all P ps i d (omega arith) all
number_all P (Some n ∷ ps) (suc i) d low all = number_all P ps i d (omega arith) (λ k e less. all (suc k) e (omega arith))

-- inputs at so many ports aren't asleep any more
pub record AreAwake (ports : List (Option ℕ)) (was is : Comparison) : Type 0 where
  pub kept : is ≡ record was { asleep = is.asleep }
  pub places : length is.asleep.items ≡ length was.asleep.items
  pub counts : (x : ℕ) → asleep_at is x + listed x (numbers_in ports) ≡ asleep_at was x

pub awake_none : (was : Comparison) → AreAwake [] was was
awake_none was = record { kept = refl; places = refl; counts = λ x. omega arith }

pub awake_more : (ports : List (Option ℕ)) (i : ℕ) (d : Option ℕ) (was mid is : Comparison) → i < length ports → AreAwake (take i ports) was mid → AreAwake (get_or ports i d ∷ []) mid is →
    AreAwake (take (i + 1) ports) was is
awake_more ports i d was mid is low before one = record {
  kept = one.kept ∙ ap (λ (c : Comparison). record c { asleep = is.asleep }) before.kept;
  places = one.places ∙ before.places;
  counts = λ x.
      let a = before.counts x in
      let b = one.counts x in
      let e = numbers_more x ports i d low in
      omega arith;
}

pub awake_reads : (ports : List (Option ℕ)) (i : ℕ) (d : Option ℕ) (was mid : Comparison) → i < length ports → AreAwake (take i ports) was mid → AreReadAsleep (numbers_in ports) was →
    AreReadAsleep (number_in (get_or ports i d) []) mid
awake_reads ports i d was mid low before reads = record {
  within =
      subst (λ (c : Comparison). All (λ x. x < length c.numbers.wires.items) (number_in (get_or ports i d) [])) (sym before.kept)
      (number_all (λ x. x < length was.numbers.wires.items) ports i d low reads.within);
  counted = λ x.
      let a = before.counts x in
      let b = reads.counted x in
      let e = numbers_more x ports i d low in
      let f = numbers_few x ports (i + 1) in
      omega arith;
}

-- fewer inputs asleep need fewer numbers
pub awake_complete : (run : Outcome) (t : ℕ) (ports : List (Option ℕ)) (was is : Comparison) → AreAwake ports was is → IsComplete run t was → IsComplete run t is
awake_complete run t ports was is awake =
    step_complete run t was is is (ap (λ (c : Comparison). c.numbers) awake.kept) (ap (λ (c : Comparison). c.timers) awake.kept)
    (record { kept = refl; others = λ x listed. listed })
    (λ x low needed. inl (fewer x (or_cases (is_following is x) (is_tracked is x (t + 1)) needed)))
  where
    numbers : is.numbers ≡ was.numbers
    numbers = ap (λ (c : Comparison). c.numbers) awake.kept

    follows : (x : ℕ) → is_following is x ≡ is_following was x
    follows x = ap (λ (c : Comparison). is_following c x) awake.kept

    differs : (x : ℕ) → may_differ (source_at is (wire_of is.numbers x)) (delay_of is.numbers x) (t + 1) ≡ may_differ (source_at was (wire_of was.numbers x)) (delay_of was.numbers x) (t + 1)
    differs x = ap (λ (c : Comparison). may_differ (source_at c (wire_of c.numbers x)) (delay_of c.numbers x) (t + 1)) awake.kept

    fewer : (x : ℕ) → (is_following is x ≡ true) ⊎ (is_tracked is x (t + 1) ≡ true) → (is_following was x || is_tracked was x (t + 1)) ≡ true
    fewer x (inl following) = or_left (is_following was x) (is_tracked was x (t + 1)) (sym (follows x) ∙ following)
    fewer x (inr tracked) =
        let parts = and_parts (nat_lt 0 (asleep_at is x)) (may_differ (source_at is (wire_of is.numbers x)) (delay_of is.numbers x) (t + 1)) tracked in
        let some = ltb-true 0 (asleep_at is x) parts.0 in
        let counts = awake.counts x in
        or_right (is_following was x) (is_tracked was x (t + 1))
        (and_from (nat_lt 0 (asleep_at was x)) (may_differ (source_at was (wire_of was.numbers x)) (delay_of was.numbers x) (t + 1)) (lt-ltb 0 (asleep_at was x) (omega arith)) (sym (differs x) ∙ parts.1))

-- inputs at so many ports are asleep, and what is needed is listed
pub record AreAsleep (run : Outcome) (t : ℕ) (ports : List (Option ℕ)) (was is : Comparison) : Type 0 where
  pub kept : is ≡ record was { asleep = is.asleep; timers = is.timers; places = is.places }
  pub cursors : HasCursors run t [] is
  pub complete : IsComplete run t was → IsComplete run t is
  pub counts : (x : ℕ) → asleep_at is x ≡ asleep_at was x + listed x (numbers_in ports)

pub asleep_none : (run : Outcome) (t : ℕ) (was : Comparison) → HasCursors run t [] was → AreAsleep run t [] was was
asleep_none run t was has = record { kept = refl; cursors = has; complete = λ all. all; counts = λ x. omega arith }

pub asleep_more : (run : Outcome) (t : ℕ) (ports : List (Option ℕ)) (i : ℕ) (d : Option ℕ) (was mid is : Comparison) → i < length ports → AreAsleep run t (take i ports) was mid →
    AreAsleep run t (get_or ports i d ∷ []) mid is → AreAsleep run t (take (i + 1) ports) was is
asleep_more run t ports i d was mid is low before one = record {
  kept = one.kept ∙ ap (λ (c : Comparison). record c { asleep = is.asleep; timers = is.timers; places = is.places }) before.kept;
  cursors = one.cursors;
  complete = λ all. one.complete (before.complete all);
  counts = λ x.
      let a = before.counts x in
      let b = one.counts x in
      let e = numbers_more x ports i d low in
      omega arith;
}

pub asleep_few : (run : Outcome) (t : ℕ) (ports : List (Option ℕ)) (i : ℕ) (d : Option ℕ) (was mid : Comparison) → i < length ports → AreAsleep run t (take i ports) was mid →
    ((x : ℕ) → asleep_at was x + listed x (numbers_in ports) < 2 ^ 32) → (x : ℕ) → asleep_at mid x + listed x (number_in (get_or ports i d) []) < 2 ^ 32
asleep_few run t ports i d was mid low before few x =
    let a = before.counts x in
    let b = few x in
    let e = numbers_more x ports i d low in
    let f = numbers_few x ports (i + 1) in
    omega arith

pub asleep_reads : (run : Outcome) (t : ℕ) (ports : List (Option ℕ)) (i : ℕ) (d : Option ℕ) (was mid : Comparison) → i < length ports → AreAsleep run t (take i ports) was mid →
    All (λ x. x < length was.numbers.wires.items) (numbers_in ports) → All (λ x. x < length mid.numbers.wires.items) (number_in (get_or ports i d) [])
asleep_reads run t ports i d was mid low before reads =
    subst (λ (c : Comparison). All (λ x. x < length c.numbers.wires.items) (number_in (get_or ports i d) [])) (sym before.kept)
    (number_all (λ x. x < length was.numbers.wires.items) ports i d low reads)

-- an input more that reads a number is asleep, and the number is listed if it is tracked
pub one_asleep : (run : Outcome) (t number : ℕ) (was mid is : Comparison) → mid ≡ record was { asleep = mid.asleep } → ((x : ℕ) → asleep_at mid x ≡ asleep_at was x + listed x (number ∷ [])) →
    HasCursors run t [] is → HasRelisted run t mid is → (is_tracked mid number (t + 1) ≡ true → IsListed run t is number) → AreAsleep run t (Some number ∷ []) was is
one_asleep run t number was mid is kept counts has listing own = record {
  kept = listing.kept ∙ ap (λ (c : Comparison). record c { timers = is.timers; places = is.places }) kept ∙ asleep_of;
  cursors = has;
  complete = step_complete run t was mid is numbers (ap (λ (c : Comparison). c.timers) kept) listing (λ x low needed. new x needed (number == x) refl);
  counts = λ x. ap (λ (c : Comparison). asleep_at c x) listing.kept ∙ counts x;
}
  where
    numbers : mid.numbers ≡ was.numbers
    numbers = ap (λ (c : Comparison). c.numbers) kept

    asleep_of : (record was { asleep = mid.asleep; timers = is.timers; places = is.places }) ≡ (record was { asleep = is.asleep; timers = is.timers; places = is.places })
    asleep_of = ap (λ a. record was { asleep = a; timers = is.timers; places = is.places }) (sym (ap (λ (c : Comparison). c.asleep) listing.kept))

    follows : (x : ℕ) → is_following mid x ≡ is_following was x
    follows x = ap (λ (c : Comparison). is_following c x) kept

    new : (x : ℕ) → (is_following mid x || is_tracked mid x (t + 1)) ≡ true → (same : Bool) → (number == x) ≡ same →
        ((is_following was x || is_tracked was x (t + 1)) ≡ true) ⊎ IsListed run t is x
    new x needed true e = by (or_cases (is_following mid x) (is_tracked mid x (t + 1)) needed)
      where
        by : (is_following mid x ≡ true) ⊎ (is_tracked mid x (t + 1) ≡ true) → ((is_following was x || is_tracked was x (t + 1)) ≡ true) ⊎ IsListed run t is x
        by (inl following) = inl (or_left (is_following was x) (is_tracked was x (t + 1)) (sym (follows x) ∙ following))
        by (inr tracked) = inr (subst (IsListed run t is) (eqb-true number x e) (own (ap (λ y. is_tracked mid y (t + 1)) (eqb-true number x e) ∙ tracked)))
    new x needed false e = inl (sym (needed_same was mid x (t + 1) numbers (same_count x e) (ap (λ (c : Comparison). source_at c (wire_of was.numbers x)) kept)) ∙ needed)
      where
        same_count : (x : ℕ) → (number == x) ≡ false → asleep_at mid x ≡ asleep_at was x
        same_count x e =
            let a = counts x in
            let b = one_of x number [] in
            let f = ap bit e in
            omega arith

pub awake_shape : (ports : List (Option ℕ)) (was mid : Comparison) → AreAwake ports was mid → IsShaped was → IsShaped mid
awake_shape ports was mid awake shape = subst IsShaped (sym awake.kept) (record {
  delays = shape.delays;
  next = shape.next;
  have_data = shape.have_data;
  asleep = awake.places ∙ shape.asleep;
  times = shape.times;
  places = shape.places;
  seen = shape.seen;
  few = shape.few;
  wires = shape.wires;
  own = shape.own;
})
