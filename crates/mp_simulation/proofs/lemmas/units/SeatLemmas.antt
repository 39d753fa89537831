-- Where modules with data have their places, and how far their changes are known ahead.
use Rattle.std.proofs.Common.{◌≡◌, ℕ, ◌+◌, ◌≤◌, Bool, true, false, not, cond, nat_lt, Option, Some, None, length, refl, ap, ◌∙◌, arith, subst}
use Rattle.std.specs.Prelude.{◌&&◌}
use Rattle.mp_records.specs.declared.ids.ModuleId.{ModuleId}
use Rattle.mp_records.specs.declared.module_record.ModuleRecord.{ModuleRecord}
use Rattle.mp_records.specs.Outputs.{output_at, delay_of}
use Rattle.mp_netlist.specs.declared.driver.Driver.{Driver}
use Rattle.mp_netlist.specs.declared.driver.Driver.TheVariants.{Nothing, Stimulus, Port}
use Rattle.mp_netlist.specs.Circuit.{Circuit, IsCircuit, module_at}
use Rattle.mp_netlist.specs.Drivers.{driver}
use Rattle.mp_netlist.proofs.DriverLemmas.{finds_only_ports}
use Rattle.mp_model.specs.Evaluations.{delay_in}
use Rattle.mp_kernel.specs.declared.events.output_port.OutputPort.{OutputPort}
use Rattle.mp_kernel.specs.events.Firing.{HasSlot, no_port}
use Rattle.mp_simulation.specs.bits.Schedules.{output_port_of}
use Rattle.mp_simulation.proofs.lemmas.bits.ScheduleLemmas.{same_part}
use Rattle.mp_kernel.specs.datapath.DataFiring.{place_at, module_at as data_module_at}
use Rattle.mp_simulation.specs.declared.units.netlist_simulation.NetlistSimulation.{NetlistSimulation}
use Rattle.mp_simulation.specs.units.DataLevels.{is_data, is_bit_wire}
use Rattle.mp_simulation.specs.units.DataWheels.{driver_delay}
use Rattle.mp_simulation.specs.units.DataSeats.{drives_data}
use Rattle.mp_simulation.specs.units.NetlistSimulations.{IsSimulated}
use Rattle.mp_simulation.proofs.lemmas.units.FiredLemmas.{both}
use Rattle.mp_simulation.proofs.lemmas.units.FiringLemmas.{some_is}

and_false : (b : Bool) → (b && not true) ≡ false
and_false true = refl
and_false false = refl

none_when : (o : Option ℕ) → ((q : ℕ) → o ≡ Some q → ⊥) → o ≡ None
none_when None never = refl
none_when (Some q) never = absurd (never q refl)

module _ (n : Circuit) (ok : IsCircuit n) (t : ℕ) (s : NetlistSimulation) (is : IsSimulated n t s) where
  pub seat_of : (m : ℕ) (r : ModuleRecord) → module_at n m ≡ Some r → is.scope.place m ≡ None → (j : ℕ) × (place_at s.modules.places.items m ≡ Some j)
  seat_of m r at none = some_is (place_at s.modules.places.items m) (is.modules.whole m r at none)

  pub owns : (w u : ℕ) → is.scope.owns w u ≡ is_bit_wire n w
  owns w u = is.own w u ∙ is.traces w

  -- a wire with data is driven by a module with data
  pub placeless : (w q : ℕ) (m : ModuleId) → driver n w ≡ Port m q → is_data n w ≡ true → is.scope.place m.0 ≡ None
  placeless w q m drives wide =
      let drv = finds_only_ports n w q m drives in
      none_when (is.scope.place m.0)
      (λ place at.
      let seat = is.running.simulator.stands.layout.seats m.0 place drv.part drv.stands at in
      let own = seat.owned w q (is.scope.known m.0 + 1) drv (omega arith) in
      both (is.scope.owns w (is.scope.known m.0 + 1)) own (owns w (is.scope.known m.0 + 1) ∙ ap (λ b. nat_lt w (length n.wires) && not b) wide ∙ and_false (nat_lt w (length n.wires))))

  slot_of : (w q : ℕ) (m : ModuleId) → driver n w ≡ Port m q → is_data n w ≡ true → driver_delay n (Port m q) ≤ length s.wires.wheel
  slot_of w q m drives wide =
      let drv = finds_only_ports n w q m drives in
      let j = seat_of m.0 drv.part drv.stands (placeless w q m drives wide) in
      let seat = is.modules.seats m.0 j.0 j.1 in
      let first : q ≡ 0 = seat.first w q drv wide in
      let same : drv.part ≡ seat.record_of = same_part n m.0 drv.part seat.record_of drv.stands seat.stands in
      let wire : (output_at seat.record_of 0).wire ≡ Some (record { 0 = w }) =
      subst (λ i. (output_at seat.record_of i).wire ≡ Some (record { 0 = w })) first (subst (λ (r : ModuleRecord). (output_at r q).wire ≡ Some (record { 0 = w })) same drv.output) in
      let is_wide : drives_data n (output_at seat.record_of 0).wire ≡ true = ap (drives_data n) wire ∙ wide in
      let port : (data_module_at s.modules.modules.items j.0).ports.level ≡ output_port_of (output_at seat.record_of 0) =
      seat.level ∙ ap (λ b. cond b (output_port_of (output_at seat.record_of 0)) no_port) is_wide in
      let slot : HasSlot (length s.wires.wheel) (output_port_of (output_at seat.record_of 0)) = subst (λ (o : OutputPort). HasSlot (length s.wires.wheel) o) port seat.fit.level in
      let low : delay_of seat.record_of 0 ≤ length s.wires.wheel = slot.room in
      let is_delay : driver_delay n (Port m q) ≡ delay_of seat.record_of 0 = ap (λ o. delay_in o q) seat.stands ∙ ap (delay_of seat.record_of) first in
      omega arith

  pub far_driver : (x : ℕ) (d : Driver) → driver n x ≡ d → is_data n x ≡ true → driver_delay n d ≤ length s.wires.wheel
  far_driver x Nothing drives wide = omega arith
  far_driver x Stimulus drives wide = omega arith
  far_driver x (Port m q) drives wide = slot_of x q m drives wide
