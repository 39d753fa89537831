-- What a simulation has when a module becomes active.
use Rattle.std.proofs.Common.{◌≡◌, ℕ, ◌+◌, ◌<◌, Bool, true, false, cond, nat_lt, List, Option, Some, None, is_some, All, length, refl, ap, sym, subst, ◌∙◌, arith, inl, inr}
use Rattle.std.specs.Prelude.{◌&&◌, ◌==◌}
use Rattle.std.proofs.lemmas.Bool.{cases_Bool, eqb-true, eq-eqb}
use Rattle.std.proofs.lemmas.Option.{none-some, same_Some}
use Rattle.mp_records.specs.declared.module_record.ModuleRecord.{ModuleRecord}
use Rattle.mp_netlist.specs.declared.driver.Driver.{Driver}
use Rattle.mp_netlist.specs.declared.driver.Driver.TheVariants.{Nothing, Stimulus, Port}
use Rattle.mp_netlist.specs.Circuit.{Circuit, IsCircuit, module_at, module_width}
use Rattle.mp_netlist.specs.Drivers.{driver}
use Rattle.mp_netlist.proofs.DriverLemmas.{finds_only_ports, driven_stands}
use Rattle.mp_modules.specs.automata.Codes.{bit}
use Rattle.mp_kernel.specs.declared.events.fanout_entry.FanoutEntry.{FanoutEntry}
use Rattle.mp_kernel.specs.events.Firing.{HasSlot}
use Rattle.mp_simulation.specs.declared.bits.delayed_copies.DelayedCopies.{DelayedCopies}
use Rattle.mp_simulation.specs.bits.Changes.{change_at, late_change}
use Rattle.mp_kernel.specs.declared.datapath.data_module.DataModule.{DataModule}
use Rattle.mp_kernel.specs.datapath.DataFiring.{place_at, module_at as data_module_at}
use Rattle.mp_simulation.specs.declared.units.data_wires.DataWires.{DataWires}
use Rattle.mp_simulation.specs.declared.units.netlist_simulation.NetlistSimulation.{NetlistSimulation}
use Rattle.mp_simulation.specs.units.DataLevels.{is_data, changes_of}
use Rattle.mp_simulation.specs.units.DataSeats.{IsDataSeat}
use Rattle.mp_simulation.specs.units.DataWheels.{data_slot, driver_delay}
use Rattle.mp_simulation.proofs.lemmas.units.PresentLemmas.{at_once}
use Rattle.mp_active.specs.excerpt.Excerpts.{ArePortsOn}
use Rattle.mp_active.specs.excerpt.Numberings.{Numbering, place_of, scope_of}
use Rattle.mp_active.specs.excerpt.Levels.{shown_change, shown_delay, shown_ahead, IsChangeShown}
use Rattle.mp_active.specs.excerpt.Showing.{AreWiresShown, IsDataSeatShown, AreModulesShown, Shows}
use Rattle.mp_active.specs.excerpt.Leaving.{is_port_of}
use Rattle.mp_active.specs.excerpt.Activating.{with_module, IsActivated, ActivatingShows}
use Rattle.mp_active.proofs.lemmas.excerpt.KeptLemmas.{numbers_kept, copies_undriven, stands_within, bit_is}
use Rattle.mp_active.proofs.lemmas.excerpt.ActiveLemmas.{awake_here, same_with, place_with, delay_own, delay_with}
use Rattle.mp_active.proofs.lemmas.excerpt.ActivatedBitLemmas.{same_fanout, wide_here, bits_made}

module _ (n : Circuit) (ok : IsCircuit n) (active on : ℕ → Bool) (numbering : Numbering) (m t : ℕ) (r : ModuleRecord) (s new : NetlistSimulation)
    (at : module_at n m ≡ Some r) (ports : ArePortsOn n (with_module active m) on) (shown : Shows n active on numbering t s) (made : IsActivated n active numbering m t r s new) where
  abbrev numbers : ℕ
  numbers = length s.bits.simulator.fanout

  abbrev mid_wires : DataWires
  mid_wires = record (s.wires) { wheel = new.wires.wheel }

  kept_rows : new.bits.simulator.fanout ≡ s.bits.simulator.fanout
  kept_rows = same_fanout n ok active on numbering m t r s new at shown made

  -- ---- wires with data
  -- a wire that a port of the module drives
  own_source : (x : ℕ) → is_port_of m (driver n x) ≡ true → (numbering.source x ≡ (x, 0)) × (on x ≡ true)
  own_source x is = by (driver n x) refl is
    where
      own : x < length n.wires → numbering.source x ≡ (x, 0)
      own low = elim (cases_Bool (is_data n x)) as (λ _. numbering.source x ≡ (x, 0)) [
        | inl wide ↦ (shown.numbers.data_wires x wide).0
        | inr narrow ↦ shown.numbers.wires x (bit_is n x low narrow)
      ]

      by : (d : Driver) → driver n x ≡ d → is_port_of m d ≡ true → (numbering.source x ≡ (x, 0)) × (on x ≡ true)
      by Nothing e is = let never : ⊥ = cc in absurd never
      by Stimulus e is = let never : ⊥ = cc in absurd never
      by (Port j p) e is =
          let drives = finds_only_ports n x p j e in
          (own (stands_within n x _ refl (driven_stands n ok j.0 p x drives)), ports.driven j.0 p x (awake_here n active m j.0 is) drives)

  change_here : (x k : ℕ) → is_port_of m (driver n x) ≡ true →
      ((change_at n x (t + 1 + k) && is_data n x) && nat_lt k (driver_delay n (driver n x)))
      ≡ ((shown_change n on (numbering.source x) (t + 1 + k) && is_data n (numbering.source x).0) && nat_lt k (shown_delay n (with_module active m) (driver n x)))
  change_here x k is =
      let own = own_source x is in
      ap (λ d. (change_at n x (t + 1 + k) && is_data n x) && nat_lt k d) (delay_own n active m (driver n x) is)
      ∙ ap (λ b. (b && is_data n x) && nat_lt k (shown_delay n (with_module active m) (driver n x)))
      (sym (at_once n x (t + 1 + k) (omega arith)) ∙ sym (ap (λ b. b && late_change n (x, 0) (t + 1 + k)) own.1))
      ∙ ap (λ (v : ℕ × ℕ). (shown_change n on v (t + 1 + k) && is_data n v.0) && nat_lt k (shown_delay n (with_module active m) (driver n x))) (sym own.0)

  change_by : (x k : ℕ) (o : Option ℕ) (b : Bool) → x < numbers → k < length s.wires.wheel → numbering.data_before x ≡ o → is_port_of m (driver n x) ≡ b →
      cond b (bit ((change_at n x (t + 1 + k) && is_data n x) && nat_lt k (driver_delay n (driver n x)))) (changes_of x (data_slot s.wires.wheel k))
      ≡ bit ((shown_change n on (numbering.source x) (t + 1 + k) && is_data n (numbering.source x).0) && nat_lt k (shown_ahead n (with_module active m) s.wires.next.items x o))
  change_by x k None true low within none is = ap bit (change_here x k is)
  change_by x k None false low within none is =
      shown.wires.changes x k low within
      ∙ ap (λ (o : Option ℕ). bit ((shown_change n on (numbering.source x) (t + 1 + k) && is_data n (numbering.source x).0) && nat_lt k (shown_ahead n active s.wires.next.items x o))) none
      ∙ ap (λ d. bit ((shown_change n on (numbering.source x) (t + 1 + k) && is_data n (numbering.source x).0) && nat_lt k d)) (delay_with n active m (driver n x) is)
  change_by x k (Some y) true low within after is = let undriven = copies_undriven n ok numbering s shown.numbers m x y after in let no : ⊥ = cc in absurd no
  change_by x k (Some y) false low within after is =
      shown.wires.changes x k low within
      ∙ ap (λ (o : Option ℕ). bit ((shown_change n on (numbering.source x) (t + 1 + k) && is_data n (numbering.source x).0) && nat_lt k (shown_ahead n active s.wires.next.items x o))) after

  change_made : (x k : ℕ) → x < numbers → k < length new.wires.wheel → IsChangeShown n (with_module active m) on numbering s.wires.next.items t new.wires.wheel x k
  change_made x k low within =
      let inside : k < length s.wires.wheel = let same = made.change_units in omega (arith, within, same) in
      made.changes x k low inside ∙ change_by x k (numbering.data_before x) (is_port_of m (driver n x)) low inside refl refl

  wires_mid : AreWiresShown n (with_module active m) on numbering numbers t mid_wires
  wires_mid =
      let old = shown.wires in
      record {
        places = old.places;
        next = old.next;
        chained = old.chained;
        below = old.below;
        within = subst (λ k. All (HasSlot k) s.wires.next.items) (sym made.change_units) old.within;
        some = let some = old.some in let same = made.change_units in omega (arith, some, same);
        numbered = made.numbered;
        changes = change_made;
        change_levels = made.change_levels;
        levels = old.levels;
        wires = old.wires;
        waves = old.waves;
        over = old.over;
      }

  -- ---- modules with data
  data_seat_else : (q k : ℕ) → (q == m) ≡ false → place_at s.modules.places.items q ≡ Some k →
      IsDataSeatShown n (with_module active m) numbering numbers (length s.bits.simulator.wheel) (length s.wires.wheel) t q k new.modules
  data_seat_else q k other place =
      let is = shown.modules.seats q k place in
      let seat = is.seat in
      record {
        awake = same_with n active m q other ∙ is.awake;
        seat = subst (λ (x : DataModule). IsDataSeat n (scope_of n (with_module active m) numbering t) numbers (length s.bits.simulator.wheel) (length s.wires.wheel) t q x)
            (sym (made.other_modules q k other place))
            (record {
              record_of = seat.record_of;
              stands = seat.stands;
              inactive = place_with n active m q other ∙ seat.inactive;
              does = seat.does;
              outputs = seat.outputs;
              sources = seat.sources;
              reads = seat.reads;
              low = seat.low;
              bits = seat.bits;
              level = seat.level;
              first = seat.first;
              fit = seat.fit;
            });
      }

  -- a module at whose place one with data stands has data
  wide_at : (k : ℕ) → place_at new.modules.places.items m ≡ Some k → (module_width n r == 1) ≡ false
  wide_at k place = elim (cases_Bool (module_width n r == 1)) as (λ _. (module_width n r == 1) ≡ false) [
    | inl narrow ↦ absurd (none-some k (sym (made.no_place narrow) ∙ place))
    | inr wide ↦ wide
  ]

  data_seat_here : (k : ℕ) → place_at new.modules.places.items m ≡ Some k →
      IsDataSeatShown n (with_module active m) numbering numbers (length s.bits.simulator.wheel) (length s.wires.wheel) t m k new.modules
  data_seat_here k place =
      let own = made.data_seat (wide_at k place) in
      let same : own.number ≡ k = same_Some own.number k (sym own.place ∙ place) in
      record {
        awake = awake_here n active m m (eq-eqb m m refl);
        seat = subst (λ j. IsDataSeat n (scope_of n (with_module active m) numbering t) numbers (length s.bits.simulator.wheel) (length s.wires.wheel) t m (data_module_at new.modules.modules.items j)) same
            (subst (λ c. IsDataSeat n (scope_of n (with_module active m) numbering t) numbers (length s.bits.simulator.wheel) c t m (data_module_at new.modules.modules.items own.number)) made.change_units
            (subst (λ b. IsDataSeat n (scope_of n (with_module active m) numbering t) numbers b (length new.wires.wheel) t m (data_module_at new.modules.modules.items own.number)) made.bits.units
            (subst (λ (rows : List (List FanoutEntry)).
            IsDataSeat n (scope_of n (with_module active m) numbering t) (length rows) (length new.bits.simulator.wheel) (length new.wires.wheel) t m (data_module_at new.modules.modules.items own.number))
            kept_rows own.seat)));
      }

  data_seat_made : (q k : ℕ) → place_at new.modules.places.items q ≡ Some k →
      IsDataSeatShown n (with_module active m) numbering numbers (length s.bits.simulator.wheel) (length s.wires.wheel) t q k new.modules
  data_seat_made q k place = elim (cases_Bool (q == m)) as (λ _. IsDataSeatShown n (with_module active m) numbering numbers (length s.bits.simulator.wheel) (length s.wires.wheel) t q k new.modules) [
    | inl here ↦
        let same = eqb-true q m here in
        subst (λ j. IsDataSeatShown n (with_module active m) numbering numbers (length s.bits.simulator.wheel) (length s.wires.wheel) t j k new.modules) (sym same)
        (data_seat_here k (subst (λ j. place_at new.modules.places.items j ≡ Some k) same place))
    | inr other ↦ data_seat_else q k other (sym (made.other_places q other) ∙ place)
  ]

  whole_made : (k : ℕ) (q : ModuleRecord) → module_at n k ≡ Some q → with_module active m k ≡ true → place_of n (with_module active m) k ≡ None → is_some (place_at new.modules.places.items k) ≡ true
  whole_made k q stands awake none = elim (cases_Bool (k == m)) as (λ _. is_some (place_at new.modules.places.items k) ≡ true) [
    | inl here ↦
        let own = made.data_seat (wide_here n ok active on numbering m t r s new at shown made k here none) in
        ap (λ j. is_some (place_at new.modules.places.items j)) (eqb-true k m here) ∙ ap (is_some {T = ℕ}) own.place
    | inr other ↦ ap (is_some {T = ℕ}) (made.other_places k other) ∙ shown.modules.whole k q stands (sym (same_with n active m k other) ∙ awake) (sym (place_with n active m k other) ∙ none)
  ]

  modules_mid : AreModulesShown n (with_module active m) numbering numbers (length s.bits.simulator.wheel) (length s.wires.wheel) t new.modules
  modules_mid = record {
    long = made.places ∙ shown.modules.long;
    placed = made.placed;
    fit = made.fit;
    seats = data_seat_made;
    whole = whole_made;
  }

  activating : Shows n (with_module active m) on numbering t new
  activating =
      let kept : AreModulesShown n (with_module active m) numbering numbers (length new.bits.simulator.wheel) (length new.wires.wheel) t new.modules =
      subst (λ k. AreModulesShown n (with_module active m) numbering numbers k (length new.wires.wheel) t new.modules) (sym made.bits.units)
      (subst (λ k. AreModulesShown n (with_module active m) numbering numbers (length s.bits.simulator.wheel) k t new.modules) (sym made.change_units) modules_mid) in
      let wires : AreWiresShown n (with_module active m) on numbering numbers t new.wires =
      subst (λ (x : DataWires). AreWiresShown n (with_module active m) on numbering numbers t x) (sym made.wires) wires_mid in
      record {
        numbers = numbers_kept n numbering s new kept_rows (ap (λ (c : DelayedCopies). c.next.items) made.copies) shown.numbers;
        bits = bits_made n ok active on numbering m t r s new at shown made;
        wires = subst (λ (rows : List (List FanoutEntry)). AreWiresShown n (with_module active m) on numbering (length rows) t new.wires) (sym kept_rows) wires;
        modules = subst (λ (rows : List (List FanoutEntry)). AreModulesShown n (with_module active m) numbering (length rows) (length new.bits.simulator.wheel) (length new.wires.wheel) t new.modules)
            (sym kept_rows) kept;
      }

pub activating_shows : ActivatingShows
activating_shows = activating
