-- The states of modules, as a simulation between two units has them.
use Rattle.std.proofs.Common.{◌≡◌, ℕ, ◌<◌, Bool, true, false, cond, Option, Some, None, is_some, length, sym, ◌∙◌, subst, arith}
use Rattle.std.specs.Prelude.{◌==◌}
use Rattle.mp_records.specs.declared.module_record.ModuleRecord.{ModuleRecord}
use Rattle.mp_netlist.specs.Circuit.{Circuit, IsCircuit, module_at, module_width}
use Rattle.mp_model.specs.Waves.{state}
use Rattle.mp_kernel.specs.declared.datapath.data_module.DataModule.{DataModule}
use Rattle.mp_kernel.specs.datapath.DataModules.{ReadsBelow, memory_of}
use Rattle.mp_kernel.specs.datapath.DataFiring.{place_at, module_at as data_module_at, no_module}
use Rattle.mp_simulation.specs.declared.units.netlist_simulation.NetlistSimulation.{NetlistSimulation}
use Rattle.mp_simulation.specs.units.NetlistSimulations.{IsSimulated, CanTell}
use Rattle.mp_simulation.proofs.lemmas.units.StepLemmas.{memory_is}

-- a module that isn't among those with data has its own place
place_when : (o : Option ℕ) (narrow : Bool) (m : ℕ) (data_too : Option ℕ) → o ≡ (cond narrow (Some m) None) → (o ≡ None → is_some data_too ≡ true) → data_too ≡ None → o ≡ Some m
place_when o true m data_too is whole none = is
place_when o false m data_too is whole none =
    let some = whole is in
    absurd (cc (some, none))

module _ (n : Circuit) (ok : IsCircuit n) (t : ℕ) (s : NetlistSimulation) (is : IsSimulated n t s) (m : ℕ) (r : ModuleRecord) (at : module_at n m ≡ Some r) where
  pub own_place : place_at s.modules.places.items m ≡ None → is.scope.place m ≡ Some m
  own_place none = place_when (is.scope.place m) (module_width n r == 1) m (place_at s.modules.places.items m) (is.seats m r at) (is.modules.whole m r at) none

  -- a module with data has its state
  pub data_memory : (k : ℕ) → place_at s.modules.places.items m ≡ Some k → memory_of s.wires.levels.items (data_module_at s.modules.modules.items k) ≡ state n m t
  data_memory k place =
      let seat = is.modules.seats m k place in
      memory_is n ok m t seat.record_of seat.stands is.scope.source (is.scope.inputs m) seat.sources (data_module_at s.modules.modules.items k) (length s.bits.simulator.fanout) s.wires.levels.items
      seat.does seat.outputs seat.reads seat.low is.wires.levels

-- ---- what a call of it asks for

module _ (number : ℕ) (s : NetlistSimulation) (f : CanTell number s) where
  pub in_places : number < length s.modules.places.items
  in_places = let low = f.within in let long = f.is.modules.long in let all = f.is.places in omega arith

  pub in_states : number < length s.bits.simulator.states.items
  in_states = let low = f.within in let all = f.is.places in omega arith

  pub in_modules : (k : ℕ) → place_at s.modules.places.items number ≡ Some k → k < length s.modules.modules.items
  in_modules k place = f.is.modules.placed.below number k place

  pub can_read : (k levels : ℕ) (m : DataModule) → levels ≡ length s.wires.levels.items → place_at s.modules.places.items number ≡ Some k → m ≡ data_module_at s.modules.modules.items k → ReadsBelow levels m
  can_read k levels m same place is =
      let reads = (f.is.modules.fit k no_module (in_modules k place)).reads in
      subst (λ j. ReadsBelow j m) (sym (same ∙ f.is.wires.places)) (subst (ReadsBelow (length s.bits.simulator.fanout)) (sym is) reads)
