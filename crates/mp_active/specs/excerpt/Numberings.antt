-- The numbers of a netlist's wires and of their delayed copies, which stay over a whole run.
use Rattle.std.specs.Prelude.{◌≡◌, ℕ, ◌+◌, ◌<◌, Bool, true, false, List, Option, Some, None, is_some, length, map, ◌&&◌, ◌||◌, ◌==◌, if◌then◌else◌}
use Rattle.mp_records.specs.declared.module_record.ModuleRecord.{ModuleRecord}
use Rattle.mp_netlist.specs.Circuit.{Circuit, module_at, module_width}
use Rattle.mp_kernel.specs.events.Ports.{HasPorts}
use Rattle.mp_simulation.specs.bits.PortEvents.{source_of}
use Rattle.mp_simulation.specs.bits.Scopes.{Scope}
use Rattle.mp_simulation.specs.bits.Copies.{AreChained}
use Rattle.mp_simulation.specs.declared.units.netlist_simulation.NetlistSimulation.{NetlistSimulation}
use Rattle.mp_simulation.specs.units.DataLevels.{is_data, is_bit_wire}

-- the numbers that a module's inputs read; the wire of each number, and how many units later it is; and the number that each copy stands after,
-- of a wire of width 1 and of a wire with data
pub record Numbering : Type 0 where
  pub inputs : ℕ → List ℕ
  pub source : ℕ → ℕ × ℕ
  pub before : ℕ → Option ℕ
  pub data_before : ℕ → Option ℕ

-- the number is a wire of width 1, or a copy of one
abbrev pub is_bit_number : Circuit → Numbering → ℕ → Bool
is_bit_number n numbering x = is_bit_wire n x || is_some (numbering.before x)

-- the inputs of a module read these numbers
abbrev pub ReadsNumbers : Numbering → ℕ → ModuleRecord → Type 0
ReadsNumbers numbering m r = map numbering.source (numbering.inputs m) ≡ map source_of r.inputs

-- a simulation has the numbers of a netlist: its rows are those of the inputs, active or not, and a wire has its own number
pub record HasNumbers (n : Circuit) (numbering : Numbering) (s : NetlistSimulation) : Type 0 where
  pub ports : (q : ℕ) → HasPorts s.bits.simulator.fanout q (numbering.inputs q)
  pub chained : AreChained numbering.source numbering.before s.bits.copies.next.items
  pub wires : (w : ℕ) → is_bit_wire n w ≡ true → numbering.source w ≡ (w, 0)
  pub copies : (x y : ℕ) → numbering.before x ≡ Some y → (is_bit_wire n x ≡ false) × (is_bit_number n numbering y ≡ true)
  pub bits : (x : ℕ) → x < length s.bits.simulator.fanout → is_data n (numbering.source x).0 ≡ false → is_bit_number n numbering x ≡ true
  pub with_data : (x : ℕ) → x < length s.bits.simulator.fanout → is_data n (numbering.source x).0 ≡ true → numbering.data_before x ≡ None → numbering.source x ≡ (x, 0)
  pub data_wires : (w : ℕ) → is_data n w ≡ true → (numbering.source w ≡ (w, 0)) × (numbering.data_before w ≡ None)
  pub data_copies : (x y : ℕ) → numbering.data_before x ≡ Some y → is_data n (numbering.source x).0 ≡ true
  pub bit_copies : (x y : ℕ) → numbering.before x ≡ Some y → is_data n (numbering.source x).0 ≡ false

-- the place of what stands in a module's slot: its own number, if it is active and has width 1
abbrev pub place_in : Circuit → Bool → ℕ → Option ModuleRecord → Option ℕ
place_in n awake m None = None
place_in n awake m (Some r) = if awake && (module_width n r == 1) then Some m else None

abbrev pub place_of : Circuit → (ℕ → Bool) → ℕ → Option ℕ
place_of n active m = place_in n (active m) m (module_at n m)

-- what a simulator has, in which these modules are active and have answered up to t
abbrev pub scope_of : Circuit → (ℕ → Bool) → Numbering → ℕ → Scope
scope_of n active numbering t = record {
  place = place_of n active;
  is_active = λ q. is_some (place_of n active q);
  inputs = numbering.inputs;
  source = numbering.source;
  known = λ m. t + 1;
  owns = λ w u. is_bit_wire n w;
  traces = λ w. is_bit_wire n w;
}
