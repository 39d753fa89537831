-- What stays where a simulation keeps its rows and its copies.
use Rattle.std.proofs.Common.{◌≡◌, ℕ, ◌<◌, Bool, true, false, not, nat_lt, List, Option, Some, None, is_some, length, refl, ap, sym, subst, ◌∙◌, arith, inl, inr}
use Rattle.std.specs.Prelude.{◌&&◌, ◌==◌}
use Rattle.std.proofs.lemmas.Bool.{cases_Bool, and_parts, lt-ltb, ltb-true}
use Rattle.std.proofs.lemmas.Option.{none-some}
use Rattle.mp_records.specs.declared.ids.ModuleId.{ModuleId}
use Rattle.mp_records.specs.declared.wire_record.WireRecord.{WireRecord}
use Rattle.mp_netlist.specs.declared.driver.Driver.{Driver}
use Rattle.mp_netlist.specs.declared.driver.Driver.TheVariants.{Nothing, Stimulus, Port}
use Rattle.mp_netlist.specs.Circuit.{Circuit, IsCircuit, wire_at}
use Rattle.mp_netlist.specs.Drivers.{driver}
use Rattle.mp_netlist.proofs.DriverLemmas.{finds_only_ports, driven_stands}
use Rattle.mp_model.proofs.SlotLemmas.{slot_within}
use Rattle.mp_simulation.specs.units.DataLevels.{is_data, is_bit_wire}
use Rattle.mp_active.specs.excerpt.Leaving.{is_port_in, is_port_of}
use Rattle.mp_kernel.specs.declared.events.output_port.OutputPort.{OutputPort}
use Rattle.mp_kernel.specs.declared.events.fanout_entry.FanoutEntry.{FanoutEntry}
use Rattle.mp_kernel.specs.events.Ports.{HasPorts}
use Rattle.mp_simulation.specs.bits.Copies.{AreChained}
use Rattle.mp_simulation.specs.declared.units.netlist_simulation.NetlistSimulation.{NetlistSimulation}
use Rattle.mp_active.specs.excerpt.Numberings.{Numbering, HasNumbers}

pub numbers_kept : (n : Circuit) (numbering : Numbering) (s new : NetlistSimulation) → new.bits.simulator.fanout ≡ s.bits.simulator.fanout → new.bits.copies.next.items ≡ s.bits.copies.next.items →
    HasNumbers n numbering s → HasNumbers n numbering new
numbers_kept n numbering s new same next is =
    let long : length new.bits.simulator.fanout ≡ length s.bits.simulator.fanout = ap (length {A = List FanoutEntry}) same in
    record {
      ports = λ q. subst (λ (rows : List (List FanoutEntry)). HasPorts rows q (numbering.inputs q)) (sym same) (is.ports q);
      chained = subst (λ (xs : List OutputPort). AreChained numbering.source numbering.before xs) (sym next) is.chained;
      wires = is.wires;
      copies = is.copies;
      bits = λ x low narrow. is.bits x (omega (arith, low, long)) narrow;
      with_data = λ x low wide none. is.with_data x (omega (arith, low, long)) wide none;
      data_wires = is.data_wires;
      data_copies = is.data_copies;
      bit_copies = is.bit_copies;
    }

pub stands_within : (n : Circuit) (w : ℕ) (slot : Option WireRecord) → wire_at n w ≡ slot → is_some slot ≡ true → w < length n.wires
stands_within n w None at some = let no : ⊥ = cc in absurd no
stands_within n w (Some r) at some = slot_within n.wires w r at

pub bit_is : (n : Circuit) (w : ℕ) → w < length n.wires → is_data n w ≡ false → is_bit_wire n w ≡ true
bit_is n w within narrow = ap (λ b. b && not (is_data n w)) (lt-ltb w (length n.wires) within) ∙ ap not narrow

-- no port drives a copy
pub copies_undriven_in : (n : Circuit) → IsCircuit n → (numbering : Numbering) (s : NetlistSimulation) → HasNumbers n numbering s → (modules : ℕ → Bool) (x y : ℕ) → numbering.data_before x ≡ Some y →
    is_port_in modules (driver n x) ≡ false
copies_undriven_in n ok numbering s is modules x y after = by (driver n x) refl
  where
    never : (j : ModuleId) (p : ℕ) → driver n x ≡ Port j p → ⊥
    never j p e =
        let low = stands_within n x (wire_at n x) refl (driven_stands n ok j.0 p x (finds_only_ports n x p j e)) in
        elim (cases_Bool (is_data n x)) as (λ _. ⊥) [
          | inl wide ↦ none-some y (sym (is.data_wires x wide).1 ∙ after)
          | inr narrow ↦
              let own = is.wires x (bit_is n x low narrow) in
              let wide : is_data n x ≡ true = subst (λ (v : ℕ × ℕ). is_data n v.0 ≡ true) own (is.data_copies x y after) in
              let no : ⊥ = cc in no
        ]

    by : (d : Driver) → driver n x ≡ d → is_port_in modules d ≡ false
    by Nothing e = refl
    by Stimulus e = refl
    by (Port j p) e = absurd (never j p e)

pub copies_undriven : (n : Circuit) → IsCircuit n → (numbering : Numbering) (s : NetlistSimulation) → HasNumbers n numbering s → (m x y : ℕ) → numbering.data_before x ≡ Some y → is_port_of m (driver n x) ≡ false
copies_undriven n ok numbering s is m x y after = copies_undriven_in n ok numbering s is (λ k. k == m) x y after

-- a wire of width 1 is one of the wires
pub bit_wire_below : (n : Circuit) (w : ℕ) → is_bit_wire n w ≡ true → w < length n.wires
bit_wire_below n w is = ltb-true w (length n.wires) (and_parts (nat_lt w (length n.wires)) (not (is_data n w)) is).0
