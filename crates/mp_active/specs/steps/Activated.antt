-- A module that has taken its place, and whose wires are ahead, is active.
use Rattle.std.specs.Prelude.{◌≡◌, ℕ, ◌<◌, ◌≤◌, Bool, true, false, All, Option, Some, length, ◌==◌}
use Rattle.mp_records.specs.declared.module_record.ModuleRecord.{ModuleRecord}
use Rattle.mp_records.specs.Outputs.{delay_of}
use Rattle.mp_netlist.specs.Circuit.{Circuit, IsCircuit, Drives, module_at, module_width}
use Rattle.mp_netlist.specs.Drivers.{driver}
use Rattle.mp_model.specs.Levels.{built}
use Rattle.mp_model.specs.Waves.{state}
use Rattle.mp_kernel.specs.events.Firing.{ports_at}
use Rattle.mp_kernel.specs.declared.datapath.data_module.DataModule.{DataModule}
use Rattle.mp_kernel.specs.datapath.DataFiring.{place_at}
use Rattle.mp_simulation.specs.bits.Schedules.{output_ports_of}
use Rattle.mp_simulation.specs.declared.units.netlist_simulation.NetlistSimulation.{NetlistSimulation}
use Rattle.mp_simulation.specs.units.DataSeats.{IsDataSeat}
use Rattle.mp_active.specs.excerpt.Numberings.{Numbering, ReadsNumbers, is_bit_number, scope_of}
use Rattle.mp_active.specs.excerpt.Showing.{Shows}
use Rattle.mp_active.specs.excerpt.Leaving.{is_port_of}
use Rattle.mp_active.specs.excerpt.Activating.{with_module, IsActivated}
use Rattle.mp_active.specs.steps.Seating.{IsBitSeated, HasTakenSeat}
use Rattle.mp_active.specs.steps.Ahead.{AreAhead}

-- a module of width 1 has its inputs and outputs in the simulation, though it may sleep there
pub record IsWired (n : Circuit) (numbering : Numbering) (m : ℕ) (r : ModuleRecord) (s : NetlistSimulation) : Type 0 where
  pub reads : ReadsNumbers numbering m r
  pub numbers : All (λ x. is_bit_number n numbering x ≡ true) (numbering.inputs m)
  pub drives : ports_at s.bits.simulator.outputs m ≡ output_ports_of r
  pub room : (w p : ℕ) → Drives n m p w → delay_of r p ≤ length s.bits.simulator.wheel

-- a module of width 1
abbrev pub BitModulesActivate : Type 0
BitModulesActivate = (n : Circuit) → IsCircuit n → (active on : ℕ → Bool) (numbering : Numbering) (m t : ℕ) (r : ModuleRecord) (wires : ℕ → Bool) (s mid new : NetlistSimulation) →
    module_at n m ≡ Some r → active m ≡ false → (module_width n r == 1) ≡ true → ((w : ℕ) → wires w ≡ is_port_of m (driver n w)) → Shows n active on numbering t s → IsWired n numbering m r s →
    IsBitSeated m (built n r) (state n m t) s mid → AreAhead n numbering t wires mid new → IsActivated n active numbering m t r s new

-- a module with data can take the seat, which is new or no other module's, and is as it is after t
pub record CanTakeSeat (n : Circuit) (active : ℕ → Bool) (numbering : Numbering) (m t : ℕ) (r : ModuleRecord) (seat : Option ℕ) (part : DataModule) (s : NetlistSimulation) : Type 0 where
  pub within : (k : ℕ) → seat ≡ Some k → k < length s.modules.modules.items
  pub free : (q k : ℕ) → seat ≡ Some k → place_at s.modules.places.items q ≡ Some k → ⊥
  pub is : IsDataSeat n (scope_of n (with_module active m) numbering t) (length s.bits.simulator.fanout) (length s.bits.simulator.wheel) (length s.wires.wheel) t m part
  pub room : (w p : ℕ) → Drives n m p w → delay_of r p ≤ length s.bits.simulator.wheel

-- a module with data
abbrev pub DataModulesActivate : Type 0
DataModulesActivate = (n : Circuit) → IsCircuit n → (active on : ℕ → Bool) (numbering : Numbering) (m t : ℕ) (r : ModuleRecord) (seat : Option ℕ) (part : DataModule) (place : ℕ) (wires : ℕ → Bool)
    (s mid new : NetlistSimulation) → module_at n m ≡ Some r → active m ≡ false → (module_width n r == 1) ≡ false → ((w : ℕ) → wires w ≡ is_port_of m (driver n w)) →
    Shows n active on numbering t s → CanTakeSeat n active numbering m t r seat part s → HasTakenSeat m seat part place s mid → AreAhead n numbering t wires mid new → IsActivated n active numbering m t r s new
