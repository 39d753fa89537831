-- What the wheels have of wires that go.
use Rattle.std.proofs.Common.{◌≡◌, ℕ, ◌+◌, ◌<◌, ◌≤◌, Bool, true, false, not, List, [], ◌∷◌, All, Option, Some, None, cond, length, nat_lt, refl, ap, sym, ◌∙◌, arith, inl, inr}
use Rattle.std.specs.Prelude.{◌==◌, ◌&&◌}
use Rattle.std.specs.List.{count_by, filter}
use Rattle.std.proofs.lemmas.Bool.{cases_Bool, eqb-true, le-ltb, and_right, both_ways}
use Rattle.std.proofs.lemmas.Option.{none-some}
use Rattle.std.proofs.lemmas.List.Elements.{All-nil, All-cons, All-head, All-tail}
use Rattle.std.proofs.lemmas.List.Sums.{sum_by-cons}
use Rattle.mp_netlist.specs.declared.driver.Driver.{Driver}
use Rattle.mp_netlist.specs.declared.driver.Driver.TheVariants.{Nothing, Stimulus, Port}
use Rattle.mp_netlist.specs.Circuit.{Circuit, IsCircuit, module_at}
use Rattle.mp_netlist.specs.Drivers.{driver}
use Rattle.mp_model.specs.Evaluations.{delay_in}
use Rattle.mp_modules.specs.automata.Codes.{bit}
use Rattle.mp_simulation.specs.declared.units.netlist_simulation.NetlistSimulation.{NetlistSimulation}
use Rattle.mp_simulation.specs.units.DataLevels.{is_data, changes_of}
use Rattle.mp_simulation.specs.units.DataWheels.{data_slot, driver_delay}
use Rattle.mp_active.specs.excerpt.Numberings.{Numbering}
use Rattle.mp_active.specs.excerpt.Levels.{shown_change, shown_delay, shown_ahead}
use Rattle.mp_active.specs.excerpt.Showing.{Shows}
use Rattle.mp_active.specs.excerpt.Leaving.{without, is_port_in}
use Rattle.mp_active.proofs.lemmas.excerpt.KeptLemmas.{bit_is, copies_undriven_in}
use Rattle.mp_active.specs.steps.Taking.{AreGone}

-- ---- what is kept by a key
pub turned : (b : Bool) (count : ℕ) → cond (not b) count 0 ≡ cond b 0 count
turned true count = refl
turned false count = refl

none_counted : (b : Bool) → ◌≡◌ {A = ℕ} 0 (cond b 0 0)
none_counted true = refl
none_counted false = refl

plus_zero : (a b : ℕ) → a ≡ 0 → a + b ≡ b
plus_zero a b none = omega arith

-- how many have this key
abbrev pub keyed : {A : Type 0} → (A → ℕ) → ℕ → List A → ℕ
keyed key u xs = count_by (λ x. key x == u) xs

pub keyed_cons : {A : Type 0} (key : A → ℕ) (u : ℕ) (x : A) (xs : List A) → keyed key u (x ∷ xs) ≡ bit (key x == u) + keyed key u xs
keyed_cons {A} key u x xs = sum_by-cons (λ (x : A). cond (key x == u) 1 0) x xs

module _ {A : Type 0} (key : A → ℕ) (p : ℕ → Bool) where
  kept_step : (u : ℕ) (x : A) (kept xs : List A) (b same : Bool) → p (key x) ≡ b → (key x == u) ≡ same → keyed key u kept ≡ cond (p u) (keyed key u xs) 0 → keyed key u (cond b (x ∷ kept) kept) ≡ cond (p u) (keyed key u (x ∷ xs)) 0
  kept_step u x kept xs true true is same rest =
      let e : p u ≡ true = ap p (sym (eqb-true (key x) u same)) ∙ is in
      keyed_cons key u x kept ∙ ap (λ j. bit (key x == u) + j) (rest ∙ ap (λ b. cond b (keyed key u xs) 0) e) ∙ sym (ap (λ b. cond b (keyed key u (x ∷ xs)) 0) e ∙ keyed_cons key u x xs)
  kept_step u x kept xs true false is same rest =
      keyed_cons key u x kept ∙ plus_zero (bit (key x == u)) (keyed key u kept) (ap bit same) ∙ rest
      ∙ sym (ap (λ j. cond (p u) j 0) (keyed_cons key u x xs ∙ plus_zero (bit (key x == u)) (keyed key u xs) (ap bit same)))
  kept_step u x kept xs false true is same rest =
      let e : p u ≡ false = ap p (sym (eqb-true (key x) u same)) ∙ is in
      rest ∙ ap (λ b. cond b (keyed key u xs) 0) e ∙ sym (ap (λ b. cond b (keyed key u (x ∷ xs)) 0) e)
  kept_step u x kept xs false false is same rest =
      rest ∙ sym (ap (λ j. cond (p u) j 0) (keyed_cons key u x xs ∙ plus_zero (bit (key x == u)) (keyed key u xs) (ap bit same)))

  pub counted_kept : (u : ℕ) (xs : List A) → keyed key u (filter (λ (x : A). p (key x)) xs) ≡ cond (p u) (keyed key u xs) 0
  counted_kept u [] = none_counted (p u)
  counted_kept u (x ∷ xs) = kept_step u x (filter (λ (x : A). p (key x)) xs) xs (p (key x)) (key x == u) refl refl (counted_kept u xs)

all_step : {A : Type 0} (P : A → Type 0) (x : A) (kept : List A) (b : Bool) → P x → All P kept → All P (cond b (x ∷ kept) kept)
all_step P x kept true first rest = All-cons P x kept first rest
all_step P x kept false first rest = rest

pub all_filtered : {A : Type 0} (P : A → Type 0) (p : A → Bool) (xs : List A) → All P xs → All P (filter p xs)
all_filtered P p [] each = All-nil P
all_filtered P p (x ∷ xs) each = all_step P x (filter p xs) (p x) (All-head P x xs each) (all_filtered P p xs (All-tail P x xs each))

-- ---- what an active module has decided
shown_low : (n : Circuit) (active : ℕ → Bool) (d : Driver) → shown_delay n active d ≤ driver_delay n d
shown_low n active Nothing = omega arith
shown_low n active Stimulus = omega arith
shown_low n active (Port k p) = by (active k.0)
  where
    by : (b : Bool) → cond b (delay_in (module_at n k.0) p) 0 ≤ delay_in (module_at n k.0) p
    by true = omega arith
    by false = omega arith

-- of a wire that goes and isn't one of the modules that leave nothing is known
none_resting : (n : Circuit) (active leaving : ℕ → Bool) (d : Driver) → is_port_in (without active leaving) d ≡ false → is_port_in leaving d ≡ false → shown_delay n active d ≡ 0
none_resting n active leaving Nothing rests stays = refl
none_resting n active leaving Stimulus rests stays = refl
none_resting n active leaving (Port j p) rests stays = ap (λ b. cond b (delay_in (module_at n j.0) p) 0) (by (active j.0) (leaving j.0) rests stays)
  where
    by : (a b : Bool) → (a && not b) ≡ false → b ≡ false → a ≡ false
    by true true rests stays = stays
    by true false rests stays = rests
    by false b rests stays = refl

module _ (n : Circuit) (ok : IsCircuit n) (active on : ℕ → Bool) (numbering : Numbering) (leaving gone : ℕ → Bool) (t units : ℕ) (s : NetlistSimulation)
    (are : AreGone n active leaving gone units) (shown : Shows n active on numbering t s) where
  -- nothing of the wires of a module comes later than it has decided
  pub none_later : (w k : ℕ) (known : Bool) → is_port_in leaving (driver n w) ≡ true → units ≤ k → bit (known && nat_lt k (shown_delay n active (driver n w))) ≡ 0
  none_later w k known is later =
      let most = shown_low n active (driver n w) in
      let own = are.decided w is in
      ap bit (and_right known (nat_lt k (shown_delay n active (driver n w))) (le-ltb k (shown_delay n active (driver n w)) (omega (arith, later, most, own))))

  pub nothing_resting : (w k : ℕ) (known : Bool) → gone w ≡ true → is_port_in leaving (driver n w) ≡ false → bit (known && nat_lt k (shown_delay n active (driver n w))) ≡ 0
  nothing_resting w k known goes stays =
      ap (λ d. bit (known && nat_lt k d)) (none_resting n active leaving (driver n w) (are.resting w goes) stays) ∙ ap bit (and_right known (nat_lt k 0) (le-ltb k 0 (omega arith)))

  pub no_change : (x k : ℕ) (o : Option ℕ) → numbering.data_before x ≡ o → x < length s.bits.simulator.fanout → k < length s.wires.wheel → units ≤ k → is_port_in leaving (driver n x) ≡ true →
      changes_of x (data_slot s.wires.wheel k) ≡ 0
  no_change x k None none below within late is =
      shown.wires.changes x k below within
      ∙ ap (λ (o : Option ℕ). bit ((shown_change n on (numbering.source x) (t + 1 + k) && is_data n (numbering.source x).0) && nat_lt k (shown_ahead n active s.wires.next.items x o))) none
      ∙ none_later x k (shown_change n on (numbering.source x) (t + 1 + k) && is_data n (numbering.source x).0) is late
  no_change x k (Some y) after below within late is =
      let no : ⊥ = (let never = sym (copies_undriven_in n ok numbering s shown.numbers leaving x y after) ∙ is in cc) in absurd no

  pub none_changes : (x k : ℕ) (o : Option ℕ) → numbering.data_before x ≡ o → x < length s.bits.simulator.fanout → k < length s.wires.wheel → gone x ≡ true → is_port_in leaving (driver n x) ≡ false →
      changes_of x (data_slot s.wires.wheel k) ≡ 0
  none_changes x k None none below within goes stays =
      shown.wires.changes x k below within
      ∙ ap (λ (o : Option ℕ). bit ((shown_change n on (numbering.source x) (t + 1 + k) && is_data n (numbering.source x).0) && nat_lt k (shown_ahead n active s.wires.next.items x o))) none
      ∙ nothing_resting x k (shown_change n on (numbering.source x) (t + 1 + k) && is_data n (numbering.source x).0) goes stays
  none_changes x k (Some y) after below within goes stays = elim (cases_Bool (is_data n x)) as (λ _. changes_of x (data_slot s.wires.wheel k) ≡ 0) [
    | inl wide ↦ absurd (none-some y (sym (shown.numbers.data_wires x wide).1 ∙ after))
    | inr narrow ↦
        let own : numbering.source x ≡ (x, 0) = shown.numbers.wires x (bit_is n x (are.stand x goes) narrow) in
        absurd (both_ways (is_data n x) narrow (sym (ap (λ (p : ℕ × ℕ). is_data n p.0) own) ∙ shown.numbers.data_copies x y after))
  ]
