-- The numbers of a wire that is to be turned on.
use Rattle.std.proofs.Common.{◌≡◌, ℕ, ◌<◌, Bool, true, false, List, All, Option, Some, None, is_some, length, refl, ap, sym, ◌∙◌, arith}
use Rattle.std.specs.Prelude.{◌||◌}
use Rattle.std.proofs.lemmas.Option.{none-some}
use Rattle.mp_netlist.specs.Circuit.{Circuit}
use Rattle.mp_kernel.specs.declared.events.output_port.OutputPort.{OutputPort}
use Rattle.mp_simulation.specs.bits.Copies.{AreChained}
use Rattle.mp_simulation.specs.bits.Simulators.{IsBelow}
use Rattle.mp_simulation.specs.declared.units.netlist_simulation.NetlistSimulation.{NetlistSimulation}
use Rattle.mp_simulation.specs.units.DataLevels.{is_data, is_bit_wire}
use Rattle.mp_active.specs.excerpt.Numberings.{Numbering, is_bit_number}
use Rattle.mp_active.specs.excerpt.Showing.{Shows}
use Rattle.mp_active.proofs.lemmas.excerpt.CopyLemmas.{next_inside}
use Rattle.mp_active.proofs.lemmas.excerpt.KeptLemmas.{bit_is}
use Rattle.mp_active.specs.steps.Chains.{next_in}

-- what each number stands after, with data or not
abbrev pub before_in : Bool → Numbering → ℕ → Option ℕ
before_in true numbering = numbering.data_before
before_in false numbering = numbering.before

-- the copies of a wire are chained, and each number of it is one of them or its own
pub record HasChain (numbering : Numbering) (w numbers : ℕ) (before : ℕ → Option ℕ) (next : List OutputPort) : Type 0 where
  pub chained : AreChained numbering.source before next
  pub below : All (IsBelow numbers) next
  pub own : numbering.source w ≡ (w, 0)
  pub root : (x y : ℕ) → before x ≡ Some y → (numbering.source y).0 ≡ w → before y ≡ None → y ≡ w
  pub single : (x : ℕ) → x < numbers → (numbering.source x).0 ≡ w → before x ≡ None → x ≡ w

module _ (n : Circuit) (active on : ℕ → Bool) (numbering : Numbering) (w now : ℕ) (s : NetlistSimulation) (shown : Shows n active on numbering now s) where
  abbrev numbers : ℕ
  numbers = length s.bits.simulator.fanout

  own_number : (y : ℕ) → numbering.source y ≡ (y, 0) → (numbering.source y).0 ≡ w → y ≡ w
  own_number y own wire = sym (ap (λ (p : ℕ × ℕ). p.0) own) ∙ wire

  wide_single : (x : ℕ) → is_data n w ≡ true → x < numbers → (numbering.source x).0 ≡ w → numbering.data_before x ≡ None → x ≡ w
  wide_single x wide low wire none = own_number x (shown.numbers.with_data x low (ap (is_data n) wire ∙ wide) none) wire

  bit_own : (x : ℕ) → is_bit_number n numbering x ≡ true → numbering.before x ≡ None → is_bit_wire n x ≡ true
  bit_own x is none = by (is_bit_wire n x) (numbering.before x) none is
    where
      by : (b : Bool) (o : Option ℕ) → o ≡ None → (b || is_some o) ≡ true → b ≡ true
      by true o none is = refl
      by false None none is = is
      by false (Some y) none is = absurd (none-some y (sym none))

  pub chain_of : (wide : Bool) → is_data n w ≡ wide → w < length n.wires → HasChain numbering w numbers (before_in wide numbering) (next_in wide s)
  chain_of true wide stands = record {
    chained = shown.wires.chained;
    below = shown.wires.below;
    own = (shown.numbers.data_wires w wide).0;
    root = λ x y after wire none.
        wide_single y wide (let low = next_inside s.wires.next.items y x (shown.wires.chained.first x y after) in let long = shown.wires.next in omega (arith, low, long)) wire none;
    single = λ x low wire none. wide_single x wide low wire none;
  }
  chain_of false narrow stands = record {
    chained = shown.numbers.chained;
    below = shown.bits.sound.copies.below;
    own = shown.numbers.wires w (bit_is n w stands narrow);
    root = λ x y after wire none. own_number y (shown.numbers.wires y (bit_own y (shown.numbers.copies x y after).1 none)) wire;
    single = λ x low wire none. own_number x (shown.numbers.wires x (bit_own x (shown.numbers.bits x low (ap (is_data n) wire ∙ narrow)) none)) wire;
  }
