-- What is known of wires is put into the wheels, one wire after the other.
use Rattle.std.proofs.Common.{◌≡◌, ℕ, ◌+◌, ◌-◌, ◌<◌, Bool, true, false, not, List, [], ◌∷◌, All, cond, length, nat_lt, refl, ap, sym, subst, ◌∙◌, arith, inl, inr}
use Rattle.std.specs.Prelude.{◌==◌, ◌&&◌, ◌||◌, slice_index_or}
use Rattle.std.specs.List.{count_by}
use Rattle.std.proofs.lemmas.Bool.{cases_lt, eqb-true, eqb-false, eq-eqb, ne_eqb, lt-ltb, le-ltb, and_right}
use Rattle.std.proofs.lemmas.List.Sums.{sum_by-cons}
use Rattle.mp_netlist.specs.Circuit.{Circuit, wire_at}
use Rattle.mp_netlist.specs.Drivers.{driver}
use Rattle.mp_model.specs.Levels.{initial_of}
use Rattle.mp_model.specs.Waves.{level}
use Rattle.mp_modules.specs.automata.Codes.{bit}
use Rattle.mp_simulation.specs.declared.bits.simulation.Simulation.{Simulation}
use Rattle.mp_simulation.specs.bits.Changes.{change_at}
use Rattle.mp_simulation.specs.bits.Simulators.{slot_at}
use Rattle.mp_kernel.specs.events.Adding.{listed}
use Rattle.mp_kernel.specs.events.Firing.{scheduled, is_entry}
use Rattle.mp_kernel.proofs.lemmas.events.EntryLemmas.{schedules_each}
use Rattle.mp_kernel.specs.declared.datapath.level_change.LevelChange.{LevelChange}
use Rattle.mp_kernel.specs.datapath.LevelWheels.{scheduled as levels_scheduled}
use Rattle.mp_simulation.specs.declared.units.data_wires.DataWires.{DataWires}
use Rattle.mp_simulation.specs.declared.units.netlist_simulation.NetlistSimulation.{NetlistSimulation}
use Rattle.mp_simulation.specs.units.DataLevels.{is_data, is_bit_wire, changes_of, IsLevelAt, late_level}
use Rattle.mp_simulation.specs.units.DataWheels.{data_slot, driver_delay}
use Rattle.mp_simulation.proofs.lemmas.units.LevelWheelLemmas.{changes_each, holds_scheduled, HoldsIn, HoldsOf}
use Rattle.mp_active.specs.excerpt.Numberings.{Numbering}
use Rattle.mp_active.proofs.lemmas.excerpt.KeptLemmas.{bit_is}
use Rattle.mp_active.specs.steps.Putting.{HasPut, toggle_of, toggles_of}
use Rattle.mp_active.specs.steps.Ahead.{is_entry_of, is_known, AreChangesOf, AreAhead, HasNothingAhead, PutsAhead}
use Rattle.mp_active.proofs.lemmas.steps.PutLemmas.{put_units, put_change_units}

pub counted_toggles : (k x : ℕ) (entries : List (ℕ × LevelChange)) → count_by (is_entry k x) (toggles_of entries) ≡ count_by (is_entry_of k x) entries
counted_toggles k x [] = refl
counted_toggles k x (e ∷ entries) =
    sum_by-cons (λ (e : ℕ × ℕ). cond (is_entry k x e) 1 0) (toggle_of e) (toggles_of entries)
    ∙ ap (λ j. bit (is_entry_of k x e) + j) (counted_toggles k x entries)
    ∙ sym (sum_by-cons (λ (e : ℕ × LevelChange). cond (is_entry_of k x e) 1 0) e entries)

-- what is added to a slot is what it has more
record IsAdded (known : ℕ) (was add : ℕ) (wv : Bool) : Type 0 where
  new : wv ≡ false
  none : was ≡ 0
  is : add ≡ known

merge : (wv e : Bool) (known was now mid add : ℕ) → now ≡ mid + add → mid ≡ cond wv known was → (e ≡ true → IsAdded known was add wv) → (e ≡ false → add ≡ 0) → now ≡ cond (wv || e) known was
merge true true known was now mid add is before here else = let no : ⊥ = (let new = (here refl).new in cc) in absurd no
merge true false known was now mid add is before here else = let none = else refl in omega (arith, is, before, none)
merge false true known was now mid add is before here else = let a = here refl in let none = a.none in let same = a.is in omega (arith, is, before, none, same)
merge false false known was now mid add is before here else = let none = else refl in omega (arith, is, before, none)

pub shifted : (t k d : ℕ) → nat_lt (t + 1 + k) (t + 1 + d) ≡ nat_lt k d
shifted t k d = elim (cases_lt k d) as (λ _. nat_lt (t + 1 + k) (t + 1 + d) ≡ nat_lt k d) [
  | inl low ↦ lt-ltb (t + 1 + k) (t + 1 + d) (omega (arith, low)) ∙ sym (lt-ltb k d low)
  | inr high ↦ le-ltb (t + 1 + k) (t + 1 + d) (omega (arith, high)) ∙ sym (le-ltb k d high)
]

-- a wire's own number has its level
pub level_now : (n : Circuit) (w u : ℕ) → late_level n (w, 0) u ≡ level n w u
level_now n w u = ap (λ b. cond b (initial_of (wire_at n w)) (level n w (u - 0))) (le-ltb u 0 (omega arith)) ∙ ap (level n w) (let e : u - 0 ≡ u = omega arith in e)

module _ (n : Circuit) (numbering : Numbering) (t w : ℕ) (wires : ℕ → Bool) (s mid new : NetlistSimulation) (entries : List (ℕ × LevelChange))
    (fresh : wires w ≡ false) (nothing : HasNothingAhead n numbering w s) (ahead : AreAhead n numbering t wires s mid)
    (known : AreChangesOf n w t t (t + 1 + driver_delay n (driver n w)) entries) (put : HasPut (is_data n w) entries mid new) where
  count_here : (v k : ℕ) → v ≡ w → count_by (is_entry_of k v) entries ≡ bit (is_known n t v k)
  count_here v k same =
      known.each k v
      ∙ ap (λ b. bit (b && (change_at n w (t + 1 + k) && (nat_lt t (t + 1 + k) && nat_lt (t + 1 + k) (t + 1 + driver_delay n (driver n w)))))) (eq-eqb w v (sym same))
      ∙ ap (λ b. bit (change_at n w (t + 1 + k) && (b && nat_lt (t + 1 + k) (t + 1 + driver_delay n (driver n w))))) (lt-ltb t (t + 1 + k) (omega arith))
      ∙ ap (λ b. bit (change_at n w (t + 1 + k) && b)) (shifted t k (driver_delay n (driver n w)))
      ∙ ap (λ x. bit (is_known n t x k)) (sym same)

  count_else : (v k : ℕ) → (v == w) ≡ false → count_by (is_entry_of k v) entries ≡ 0
  count_else v k other =
      known.each k v
      ∙ ap (λ b. bit (b && (change_at n w (t + 1 + k) && (nat_lt t (t + 1 + k) && nat_lt (t + 1 + k) (t + 1 + driver_delay n (driver n w)))))) (ne_eqb w v (λ e. eqb-false v w other (sym e)))

  -- ---- wires of width 1
  added_events : (wide : Bool) (v k : ℕ) → k < length mid.bits.simulator.wheel →
      new.bits.simulator.wheel ≡ cond wide mid.bits.simulator.wheel (scheduled mid.bits.simulator.wheel (toggles_of entries)) →
      listed v (slot_at new.bits.simulator k) ≡ listed v (slot_at mid.bits.simulator k) + cond wide 0 (count_by (is_entry_of k v) entries)
  added_events true v k within is = let same = ap (λ (wheel : List (List ℕ)). listed v (slice_index_or wheel k [])) is in omega (arith, same)
  added_events false v k within is =
      ap (λ (wheel : List (List ℕ)). listed v (slice_index_or wheel k [])) is ∙ schedules_each mid.bits.simulator.wheel (toggles_of entries) k v within
      ∙ ap (λ j. listed v (slot_at mid.bits.simulator k) + j) (counted_toggles k v entries)

  right_true : (b : Bool) → b ≡ (b && true)
  right_true true = refl
  right_true false = refl

  known_events : (wide : Bool) (v k : ℕ) → is_data n w ≡ wide → v ≡ w → cond wide 0 (count_by (is_entry_of k v) entries) ≡ bit (is_known n t v k && is_bit_wire n v)
  known_events true v k is same =
      let narrow : is_bit_wire n v ≡ false = ap (λ b. nat_lt v (length n.wires) && not b) (ap (is_data n) same ∙ is) ∙ and_right (nat_lt v (length n.wires)) false refl in
      sym (ap bit (and_right (is_known n t v k) (is_bit_wire n v) narrow))
  known_events false v k narrow same =
      let own : is_bit_wire n v ≡ true = ap (is_bit_wire n) same ∙ bit_is n w nothing.stands narrow in
      count_here v k same ∙ ap bit (right_true (is_known n t v k)) ∙ sym (ap (λ b. bit (is_known n t v k && b)) own)

  none_added : (wide : Bool) (v k : ℕ) → (v == w) ≡ false → cond wide 0 (count_by (is_entry_of k v) entries) ≡ 0
  none_added true v k other = refl
  none_added false v k other = count_else v k other

  events_ahead : (v k : ℕ) → k < length s.bits.simulator.wheel →
      listed v (slot_at new.bits.simulator k) ≡ cond (wires v || (v == w)) (bit (is_known n t v k && is_bit_wire n v)) (listed v (slot_at s.bits.simulator k))
  events_ahead v k within =
      merge (wires v) (v == w) (bit (is_known n t v k && is_bit_wire n v)) (listed v (slot_at s.bits.simulator k)) (listed v (slot_at new.bits.simulator k)) (listed v (slot_at mid.bits.simulator k))
      (cond (is_data n w) 0 (count_by (is_entry_of k v) entries))
      (added_events (is_data n w) v k (let same = ahead.units in omega (arith, within, same)) put.events)
      (ahead.events v k within)
      (λ e. let same = eqb-true v w e in record {
        new = ap wires same ∙ fresh;
        none = ap (λ x. listed x (slot_at s.bits.simulator k)) same ∙ nothing.events k within;
        is = known_events (is_data n w) v k refl same;
      })
      (λ e. none_added (is_data n w) v k e)

  -- ---- wires with data
  added_changes : (wide : Bool) (v k : ℕ) → k < length mid.wires.wheel → new.wires.wheel ≡ cond wide (levels_scheduled mid.wires.wheel entries) mid.wires.wheel →
      changes_of v (data_slot new.wires.wheel k) ≡ changes_of v (data_slot mid.wires.wheel k) + cond wide (count_by (is_entry_of k v) entries) 0
  added_changes false v k within is = let same = ap (λ (wheel : List (List LevelChange)). changes_of v (data_slot wheel k)) is in omega (arith, same)
  added_changes true v k within is =
      ap (λ (wheel : List (List LevelChange)). changes_of v (data_slot wheel k)) is ∙ changes_each mid.wires.wheel entries k v within

  known_changes : (wide : Bool) (v k : ℕ) → is_data n w ≡ wide → v ≡ w → cond wide (count_by (is_entry_of k v) entries) 0 ≡ bit (is_known n t v k && is_data n v)
  known_changes false v k narrow same = sym (ap bit (and_right (is_known n t v k) (is_data n v) (ap (is_data n) same ∙ narrow)))
  known_changes true v k is same =
      count_here v k same ∙ ap bit (right_true (is_known n t v k)) ∙ sym (ap (λ b. bit (is_known n t v k && b)) (ap (is_data n) same ∙ is))

  none_changed : (wide : Bool) (v k : ℕ) → (v == w) ≡ false → cond wide (count_by (is_entry_of k v) entries) 0 ≡ 0
  none_changed false v k other = refl
  none_changed true v k other = count_else v k other

  changes_ahead : (v k : ℕ) → k < length s.wires.wheel →
      changes_of v (data_slot new.wires.wheel k) ≡ cond (wires v || (v == w)) (bit (is_known n t v k && is_data n v)) (changes_of v (data_slot s.wires.wheel k))
  changes_ahead v k within =
      merge (wires v) (v == w) (bit (is_known n t v k && is_data n v)) (changes_of v (data_slot s.wires.wheel k)) (changes_of v (data_slot new.wires.wheel k)) (changes_of v (data_slot mid.wires.wheel k))
      (cond (is_data n w) (count_by (is_entry_of k v) entries) 0)
      (added_changes (is_data n w) v k (let same = ahead.change_units in omega (arith, within, same)) put.changes)
      (ahead.changes v k within)
      (λ e. let same = eqb-true v w e in record {
        new = ap wires same ∙ fresh;
        none = ap (λ x. changes_of x (data_slot s.wires.wheel k)) same ∙ nothing.changes k within;
        is = known_changes (is_data n w) v k refl same;
      })
      (λ e. none_changed (is_data n w) v k e)

  -- what holds of all that is put holds in the wheel
  holds_put : (P : ℕ → LevelChange → Type 0) (wide : Bool) → new.wires.wheel ≡ cond wide (levels_scheduled mid.wires.wheel entries) mid.wires.wheel → HoldsIn P mid.wires.wheel →
      All (HoldsOf P) entries → HoldsIn P new.wires.wheel
  holds_put P true is before each = subst (HoldsIn P) (sym is) (holds_scheduled P mid.wires.wheel entries before each)
  holds_put P false is before each = subst (HoldsIn P) (sym is) before

  puts : AreAhead n numbering t (λ v. wires v || (v == w)) s new
  puts = record {
    bits = put.bits ∙ ap (λ (b : Simulation). record b { simulator = record (b.simulator) { wheel = new.bits.simulator.wheel } }) ahead.bits;
    units = put_units (is_data n w) entries mid new put ∙ ahead.units;
    events = events_ahead;
    others = put.wires ∙ ap (λ (x : DataWires). record x { wheel = new.wires.wheel }) ahead.others;
    change_units = put_change_units (is_data n w) entries mid new put ∙ ahead.change_units;
    changes = changes_ahead;
    numbered = λ bound all before.
        holds_put (λ k c. c.number < bound) (is_data n w) put.changes (ahead.numbered bound all before)
        (λ k d low. let e = known.own k d low in let is = e.wire in let stands = nothing.stands in omega (arith, all, is, stands));
    levels = λ before.
        holds_put (λ k c. IsLevelAt n numbering.source (t + 1 + k) c) (is_data n w) put.changes (ahead.levels before)
        (λ k d low.
        let e = known.own k d low in
        e.level ∙ sym (level_now n w (t + 1 + (slice_index_or entries k d).0)) ∙ sym (ap (λ (v : ℕ × ℕ). late_level n v (t + 1 + (slice_index_or entries k d).0)) (ap numbering.source e.wire ∙ nothing.own)));
    modules = put.modules ∙ ahead.modules;
  }

pub puts_ahead : PutsAhead
puts_ahead = puts
