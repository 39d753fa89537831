-- Dead ports that wait for each other.
use Rattle.std.proofs.Common.{◌≡◌, ℕ, ◌/◌, ◌%◌, ◌<◌, ◌≤◌, ◌||◌, ◌⊎◌, inl, inr, Bool, true, false, cond, List, [], ◌∷◌, ◌++◌, filter, length, Option, Some, None, is_some, refl, ap, sym, subst, ◌∙◌, append_assoc, arith}
use Rattle.std.specs.Prelude.{slice_get, option_map, option_and_then}
use Rattle.std.specs.List.{list_any, flat_map}
use Rattle.std.specs.Option.{option_or}
use Rattle.std.proofs.lemmas.Bool.{and_parts}
use Rattle.mp_records.specs.declared.ids.WireId.{WireId}
use Rattle.mp_records.specs.declared.module_record.ModuleRecord.{ModuleRecord}
use Rattle.mp_records.specs.declared.ports.Input.{Input}
use Rattle.mp_netlist.specs.declared.driver.Driver.{Driver}
use Rattle.mp_netlist.specs.declared.driver.Driver.TheVariants.{Nothing, Stimulus, Port}
use Rattle.mp_netlist.specs.Circuit.{Circuit, module_at}
use Rattle.mp_netlist.specs.Drivers.{driver}
use Rattle.mp_netlist.proofs.TableLemmas.{slot_within}
use Rattle.mp_model.specs.Waves.{state}
use Rattle.mp_holding.specs.sets.Laws.{IsWithin, KeepsMore}
use Rattle.mp_holding.proofs.lemmas.sets.ClosedLemmas.{true_false, and_true, or_first, or_second, or_cases, union_is_closed}
use Rattle.mp_check.specs.Dead.{are_still, dead, last_unit, port_number, port_numbers, port_slots}
use Rattle.mp_check.specs.Waiting.{awaited, first_wait, has_driver, held_by, is_port_in, may_wait, may_wait_at, port_by, wait_for, waiting}
use Rattle.mp_check.specs.declared.wait.Wait.{Wait}

module _ (n : Circuit) where
  module _ (set other : ℕ → Bool) (within : IsWithin set other) where
    driver_grows : (d : Driver) → has_driver set d ≡ true → has_driver other d ≡ true
    driver_grows Nothing is = is
    driver_grows Stimulus is = is
    driver_grows (Port m p) is = within (port_number m.0 p) is

    port_grows : (i : Option Input) → is_port_in n set i ≡ true → is_port_in n other i ≡ true
    port_grows None is = is
    port_grows (Some i) is = driver_grows (driver n i.wire.0) is

    any_grows : (r : ModuleRecord) (qs : List ℕ) → list_any (λ q. is_port_in n set (slice_get r.inputs q)) qs ≡ true → list_any (λ q. is_port_in n other (slice_get r.inputs q)) qs ≡ true
    any_grows r [] is = is
    any_grows r (q ∷ qs) is = by (or_cases (is_port_in n set (slice_get r.inputs q)) (list_any (λ p. is_port_in n set (slice_get r.inputs p)) qs) is) (any_grows r qs)
      where
        by : (is_port_in n set (slice_get r.inputs q) ≡ true) ⊎ (list_any (λ p. is_port_in n set (slice_get r.inputs p)) qs ≡ true)
            → (list_any (λ p. is_port_in n set (slice_get r.inputs p)) qs ≡ true → list_any (λ p. is_port_in n other (slice_get r.inputs p)) qs ≡ true)
            → list_any (λ p. is_port_in n other (slice_get r.inputs p)) (q ∷ qs) ≡ true
        by (inl here) later = or_first (is_port_in n other (slice_get r.inputs q)) (list_any (λ p. is_port_in n other (slice_get r.inputs p)) qs) (port_grows (slice_get r.inputs q) here)
        by (inr rest) later = or_second (is_port_in n other (slice_get r.inputs q)) (list_any (λ p. is_port_in n other (slice_get r.inputs p)) qs) (later rest)

    slot_grows : (m p : ℕ) (slot : Option ModuleRecord) → may_wait_at n set m p slot ≡ true → may_wait_at n other m p slot ≡ true
    slot_grows m p None is = is
    slot_grows m p (Some r) is =
        let qs = awaited n r (state n m (last_unit n)) p in
        let parts = and_parts (dead n (port_number m p)) (list_any (λ q. is_port_in n set (slice_get r.inputs q)) qs) is in
        and_true (dead n (port_number m p)) (list_any (λ q. is_port_in n other (slice_get r.inputs q)) qs) parts.0 (any_grows r qs parts.1)

  pub waits_grow : KeepsMore (may_wait n)
  unfolding may_wait
  waits_grow set other within k is = slot_grows set other within (k / port_numbers) (k % port_numbers) (module_at n (k / port_numbers)) is

  slot_dead : (set : ℕ → Bool) (m p : ℕ) (slot : Option ModuleRecord) → may_wait_at n set m p slot ≡ true → dead n (port_number m p) ≡ true
  slot_dead set m p None is = absurd (true_false false is refl)
  slot_dead set m p (Some r) is = (and_parts (dead n (port_number m p)) (list_any (λ q. is_port_in n set (slice_get r.inputs q)) (awaited n r (state n m (last_unit n)) p)) is).0

  pub may_wait_is_dead : (set : ℕ → Bool) (k : ℕ) → may_wait n set k ≡ true → dead n k ≡ true
  unfolding may_wait
  may_wait_is_dead set k is =
      let whole : port_number (k / port_numbers) (k % port_numbers) ≡ k = omega arith in
      subst (λ i. dead n i ≡ true) whole (slot_dead set (k / port_numbers) (k % port_numbers) (module_at n (k / port_numbers)) is)

  pub not_dead : (set : ℕ → Bool) (k : ℕ) → dead n k ≡ false → may_wait n set k ≡ false
  not_dead set k alive = by (may_wait n set k) refl
    where
      by : (b : Bool) → may_wait n set k ≡ b → b ≡ false
      by true is = absurd (true_false (dead n k) (may_wait_is_dead set k is) alive)
      by false is = refl

  -- a port that waits is dead
  pub waiting_is_dead : (k : ℕ) → waiting n k ≡ true → dead n k ≡ true
  waiting_is_dead k is = may_wait_is_dead (waiting n) k (union_is_closed (may_wait n) (port_slots n) waits_grow k is)

  slot_low : (set : ℕ → Bool) (m p : ℕ) (slot : Option ModuleRecord) → module_at n m ≡ slot → may_wait_at n set m p slot ≡ true → m < length n.modules
  slot_low set m p None at is = absurd (true_false false is refl)
  slot_low set m p (Some r) at is = slot_within n.modules m (ap is_some at)

  pub no_wait_past : (set : ℕ → Bool) (k : ℕ) → port_slots n ≤ k → may_wait n set k ≡ false
  unfolding may_wait
  no_wait_past set k past = by (may_wait n set k) refl
    where
      by : (b : Bool) → may_wait n set k ≡ b → b ≡ false
      by true is = let low = slot_low set (k / port_numbers) (k % port_numbers) (module_at n (k / port_numbers)) refl is in absurd (omega (arith, low, past))
      by false is = refl

  -- ---- lists of inputs

  pub held_append : (r : ModuleRecord) (xs ys : List (List ℕ)) → held_by n r (xs ++ ys) ≡ held_by n r xs ++ held_by n r ys
  held_append r [] ys = refl
  held_append r (x ∷ xs) ys = by (are_still n (dead n) r x) (held_append r xs ys)
    where
      by : (b : Bool) → held_by n r (xs ++ ys) ≡ held_by n r xs ++ held_by n r ys
          → flat_map (λ set. set) (cond b (x ∷ filter (are_still n (dead n) r) (xs ++ ys)) (filter (are_still n (dead n) r) (xs ++ ys)))
          ≡ flat_map (λ set. set) (cond b (x ∷ filter (are_still n (dead n) r) xs) (filter (are_still n (dead n) r) xs)) ++ held_by n r ys
      by true rest = ap (λ l. x ++ l) rest ∙ sym (append_assoc x (held_by n r xs) (held_by n r ys))
      by false rest = rest

  pub held_one : (r : ModuleRecord) (x : List ℕ) (b : Bool) → are_still n (dead n) r x ≡ b → held_by n r (x ∷ []) ≡ cond b (x ++ []) []
  held_one r x true is = ap (λ t. flat_map (λ set. set) (cond t (x ∷ []) [])) is
  held_one r x false is = ap (λ t. flat_map (λ set. set) (cond t (x ∷ []) [])) is

  pub any_append : (r : ModuleRecord) (set : ℕ → Bool) (xs ys : List ℕ)
      → list_any (λ q. is_port_in n set (slice_get r.inputs q)) (xs ++ ys) ≡ (list_any (λ q. is_port_in n set (slice_get r.inputs q)) xs || list_any (λ q. is_port_in n set (slice_get r.inputs q)) ys)
  any_append r set [] ys = refl
  any_append r set (q ∷ xs) ys = ap (λ b. is_port_in n set (slice_get r.inputs q) || b) (any_append r set xs ys) ∙ sym (or_assoc (is_port_in n set (slice_get r.inputs q)) _ _)
    where
      or_assoc : (a b c : Bool) → ((a || b) || c) ≡ (a || (b || c))
      or_assoc true b c = refl
      or_assoc false b c = refl

  -- ---- the first wire that is waited for

  module _ (m : ℕ) (r : ModuleRecord) where
    -- a port that waits has a number, so what it drives is waited for
    driver_wait : (v : WireId) (d : Driver) → driver n v.0 ≡ d → has_driver (waiting n) d ≡ true → (w : Wait) × (wait_for n m v ≡ Some w)
    driver_wait v Nothing is has = absurd (true_false false has refl)
    driver_wait v Stimulus is has = absurd (true_false false has refl)
    driver_wait v (Port k s) is has = (
      record { waiter = record { 0 = m }; wire = v; next = port_number k.0 s },
      ap (λ (d : Driver). option_map (λ j. (let x : Wait = record { waiter = record { 0 = m }; wire = v; next = j } in x)) (port_by d)) is,
    )

    or_assoc : (a b c : Option Wait) → option_or (option_or a b) c ≡ option_or a (option_or b c)
    or_assoc None b c = refl
    or_assoc (Some x) b c = refl

    pub first_append : (xs ys : List ℕ) → first_wait n m r (xs ++ ys) ≡ option_or (first_wait n m r xs) (first_wait n m r ys)
    first_append [] ys = refl
    first_append (q ∷ xs) ys = by (slice_get r.inputs q) (first_append xs ys)
      where
        at : (i : Input) (b : Bool) → has_driver (waiting n) (driver n i.wire.0) ≡ b → first_wait n m r (xs ++ ys) ≡ option_or (first_wait n m r xs) (first_wait n m r ys)
            → cond b (wait_for n m i.wire) (first_wait n m r (xs ++ ys)) ≡ option_or (cond b (wait_for n m i.wire) (first_wait n m r xs)) (first_wait n m r ys)
        at i true is rest =
            let one = driver_wait i.wire (driver n i.wire.0) refl is in
            one.1 ∙ sym (ap (λ o. option_or o (first_wait n m r ys)) one.1)
        at i false is rest = rest

        by : (slot : Option Input) → first_wait n m r (xs ++ ys) ≡ option_or (first_wait n m r xs) (first_wait n m r ys)
            → cond (is_port_in n (waiting n) slot) (option_and_then (λ (i : Input). wait_for n m i.wire) slot) (first_wait n m r (xs ++ ys))
            ≡ option_or (cond (is_port_in n (waiting n) slot) (option_and_then (λ (i : Input). wait_for n m i.wire) slot) (first_wait n m r xs)) (first_wait n m r ys)
        by None rest = rest
        by (Some i) rest = at i (has_driver (waiting n) (driver n i.wire.0)) refl rest

    pub first_four : (a b c d : List ℕ) (first second third fourth : Option Wait) → first ≡ first_wait n m r a → second ≡ first_wait n m r b → third ≡ first_wait n m r c → fourth ≡ first_wait n m r d
        → option_or (option_or (option_or first second) third) fourth ≡ first_wait n m r ((a ++ b) ++ (c ++ d))
    first_four a b c d first second third fourth one two three four =
        ap (λ o. option_or (option_or (option_or o second) third) fourth) one ∙ ap (λ o. option_or (option_or (option_or (first_wait n m r a) o) third) fourth) two
        ∙ ap (λ o. option_or (option_or (option_or (first_wait n m r a) (first_wait n m r b)) o) fourth) three
        ∙ ap (λ o. option_or (option_or (option_or (first_wait n m r a) (first_wait n m r b)) (first_wait n m r c)) o) four
        ∙ or_assoc (option_or (first_wait n m r a) (first_wait n m r b)) (first_wait n m r c) (first_wait n m r d)
        ∙ ap (λ o. option_or o (option_or (first_wait n m r c) (first_wait n m r d))) (sym (first_append a b))
        ∙ ap (option_or (first_wait n m r (a ++ b))) (sym (first_append c d)) ∙ sym (first_append (a ++ b) (c ++ d))
