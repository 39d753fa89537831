-- The wheels have nothing of a wire whose module isn't active.
use Rattle.std.proofs.Common.{◌≡◌, ℕ, ◌+◌, ◌<◌, Bool, true, false, Option, Some, None, cond, length, nat_lt, refl, ap, sym, ◌∙◌, arith, inl, inr}
use Rattle.std.specs.Prelude.{◌&&◌}
use Rattle.std.proofs.lemmas.Bool.{cases_Bool, eq-eqb, le-ltb, and_right}
use Rattle.mp_records.specs.declared.ids.ModuleId.{ModuleId}
use Rattle.mp_netlist.specs.declared.driver.Driver.TheVariants.{Port}
use Rattle.mp_netlist.specs.Circuit.{Circuit, IsCircuit, wire_at, module_at}
use Rattle.mp_netlist.specs.Drivers.{driver}
use Rattle.mp_netlist.proofs.DriverLemmas.{finds_only_ports, driven_stands}
use Rattle.mp_model.specs.Evaluations.{delay_in}
use Rattle.mp_modules.specs.automata.Codes.{bit}
use Rattle.mp_simulation.specs.bits.Changes.{change_at}
use Rattle.mp_simulation.specs.declared.units.netlist_simulation.NetlistSimulation.{NetlistSimulation}
use Rattle.mp_simulation.specs.units.DataLevels.{is_data, is_bit_wire, changes_of}
use Rattle.mp_simulation.specs.units.DataWheels.{data_slot}
use Rattle.mp_active.specs.excerpt.Numberings.{Numbering}
use Rattle.mp_active.specs.excerpt.Levels.{shown_change, shown_delay, shown_ahead}
use Rattle.mp_active.specs.excerpt.Showing.{Shows}
use Rattle.mp_active.specs.excerpt.Leaving.{is_port_of}
use Rattle.mp_active.proofs.lemmas.excerpt.KeptLemmas.{stands_within, bit_is, copies_undriven}
use Rattle.mp_active.specs.steps.Ahead.{HasNothingAhead, NoneAhead, RestingHaveNothing}

pub none_ahead : NoneAhead
none_ahead n numbering t s = record {
  bits = refl;
  units = refl;
  events = λ w k within. refl;
  others = refl;
  change_units = refl;
  changes = λ w k within. refl;
  numbered = λ bound all before. before;
  levels = λ before. before;
  modules = refl;
}

module _ (n : Circuit) (ok : IsCircuit n) (active on : ℕ → Bool) (numbering : Numbering) (t w p : ℕ) (m : ModuleId) (s : NetlistSimulation) (shown : Shows n active on numbering t s)
    (drives : driver n w ≡ Port m p) (resting : active m.0 ≡ false) where
  stands : w < length n.wires
  stands = stands_within n w (wire_at n w) refl (driven_stands n ok m.0 p w (finds_only_ports n w p m drives))

  below : w < length s.bits.simulator.fanout
  below = let low = stands in let same = shown.bits.wires in let rows = shown.bits.sound.simulator.rows in omega (arith, low, same, rows)

  no_delay : shown_delay n active (driver n w) ≡ 0
  no_delay = ap (shown_delay n active) drives ∙ ap (λ b. cond b (delay_in (module_at n m.0) p) 0) resting

  none_known : (known : Bool) (k : ℕ) → bit (known && nat_lt k (shown_delay n active (driver n w))) ≡ 0
  none_known known k = ap (λ d. bit (known && nat_lt k d)) no_delay ∙ ap bit (and_right known (nat_lt k 0) (le-ltb k 0 (omega arith)))

  none_changes : (o : Option ℕ) → numbering.data_before w ≡ o → (k : ℕ) → k < length s.wires.wheel → changes_of w (data_slot s.wires.wheel k) ≡ 0
  none_changes None none k within =
      shown.wires.changes w k below within
      ∙ ap (λ (o : Option ℕ). bit ((shown_change n on (numbering.source w) (t + 1 + k) && is_data n (numbering.source w).0) && nat_lt k (shown_ahead n active s.wires.next.items w o))) none
      ∙ none_known (shown_change n on (numbering.source w) (t + 1 + k) && is_data n (numbering.source w).0) k
  none_changes (Some y) after k within =
      let own : is_port_of m.0 (driver n w) ≡ true = ap (is_port_of m.0) drives ∙ eq-eqb m.0 m.0 refl in
      let no : ⊥ = (let never = sym (copies_undriven n ok numbering s shown.numbers m.0 w y after) ∙ own in cc) in
      absurd no

  nothing : HasNothingAhead n numbering w s
  nothing = record {
    own = elim (cases_Bool (is_data n w)) as (λ _. numbering.source w ≡ (w, 0)) [
      | inl wide ↦ (shown.numbers.data_wires w wide).0
      | inr narrow ↦ shown.numbers.wires w (bit_is n w stands narrow)
    ];
    stands = stands;
    events = λ k within. shown.bits.events w k within ∙ none_known (change_at n w (t + 1 + k) && is_bit_wire n w) k;
    changes = none_changes (numbering.data_before w) refl;
  }

pub resting_have_nothing : RestingHaveNothing
resting_have_nothing n ok active on numbering t w p m s shown drives resting = nothing n ok active on numbering t w p m s shown drives resting
