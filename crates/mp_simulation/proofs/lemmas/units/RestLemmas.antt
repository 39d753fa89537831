-- A module that isn't due in a unit stays in its state.
use Rattle.std.proofs.Common.{◌≡◌, ℕ, ◌+◌, ◌++◌, Option, Some, None, refl}
use Rattle.std.specs.Prelude.{slice_index_or}
use Rattle.mp_records.specs.declared.module_record.ModuleRecord.{ModuleRecord}
use Rattle.mp_netlist.specs.Circuit.{Circuit, IsCircuit, module_at}
use Rattle.mp_model.specs.Waves.{state}
use Rattle.mp_kernel.specs.events.Adding.{listed}
use Rattle.mp_simulation.specs.bits.Simulators.{next_slot, AreOnlyDue}
use Rattle.mp_kernel.specs.datapath.DataFiring.{place_at}
use Rattle.mp_simulation.specs.declared.units.netlist_simulation.NetlistSimulation.{NetlistSimulation}
use Rattle.mp_simulation.specs.units.Units.{others_of, IsApplied}
use Rattle.mp_simulation.proofs.lemmas.units.StepLemmas.{rests}
use Rattle.mp_simulation.proofs.lemmas.units.HeardLemmas.{heard_each, due}
use Rattle.mp_simulation.proofs.lemmas.units.MemoryLemmas.{own_place}

module _ (n : Circuit) (ok : IsCircuit n) (t : ℕ) (now : NetlistSimulation) (a : IsApplied n t now) where
  only : AreOnlyDue a.before.bits.simulator.fanout ((next_slot a.before.bits.simulator ++ a.set) ++ others_of a.before a.changes) now.bits.simulator.due.items
  only = a.applied.toggled.only a.is.running.simulator.due

  bit_rests : (m : ℕ) (r : ModuleRecord) → module_at n m ≡ Some r → a.is.scope.place m ≡ Some m → listed m now.bits.simulator.due.items ≡ 0 → state n m (t + 1) ≡ state n m t
  bit_rests m r at place idle =
      let layout = a.is.running.simulator.stands.layout in
      let seat = layout.seats m m r at place in
      rests n ok m t r at a.is.scope.source (a.is.scope.inputs m) seat.reads a.before.bits.simulator.fanout
      ((next_slot a.before.bits.simulator ++ a.set) ++ others_of a.before a.changes) now.bits.simulator.due.items (layout.ports m)
      ((due n ok t a.before a.is a.set a.changes a.stimuli).heard m seat.active) only idle

  data_rests : (m k : ℕ) → place_at a.before.modules.places.items m ≡ Some k → listed m now.bits.simulator.due.items ≡ 0 → state n m (t + 1) ≡ state n m t
  data_rests m k place idle =
      let seat = a.is.modules.seats m k place in
      rests n ok m t seat.record_of seat.stands a.is.scope.source (a.is.scope.inputs m) seat.sources a.before.bits.simulator.fanout
      ((next_slot a.before.bits.simulator ++ a.set) ++ others_of a.before a.changes) now.bits.simulator.due.items (a.is.running.simulator.stands.layout.ports m)
      (λ j d within. heard_each n ok t a.before a.is a.set a.changes a.stimuli (slice_index_or (a.is.scope.inputs m) j d) (seat.low j d within)) only idle

  by_place : (m : ℕ) (r : ModuleRecord) (o : Option ℕ) → module_at n m ≡ Some r → place_at a.before.modules.places.items m ≡ o → listed m now.bits.simulator.due.items ≡ 0 →
      state n m (t + 1) ≡ state n m t
  by_place m r None at place idle = bit_rests m r at (own_place n ok t a.before a.is m r at place) idle
  by_place m r (Some k) at place idle = data_rests m k place idle

  pub stays : (m : ℕ) (r : ModuleRecord) → module_at n m ≡ Some r → listed m now.bits.simulator.due.items ≡ 0 → state n m (t + 1) ≡ state n m t
  stays m r at idle = by_place m r (place_at a.before.modules.places.items m) at refl idle
