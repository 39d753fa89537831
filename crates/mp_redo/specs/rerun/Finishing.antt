-- What is left of a re-evaluation when all units are over.
use Rattle.std.specs.Prelude.{◌≡◌, ℕ, ◌-◌, ◌<◌, ◌≤◌, Bool, true, false, List, Some, IsSome, length, slice_index_or}
use Rattle.mp_records.specs.declared.module_record.ModuleRecord.{ModuleRecord}
use Rattle.mp_netlist.specs.Circuit.{Circuit, IsCircuit, wire_at, module_at}
use Rattle.mp_model.specs.Waves.{state, slot_wave}
use Rattle.mp_kernel.specs.events.Toggling.{wave_at}
use Rattle.mp_partition.specs.runs.Marks.{is_marked}
use Rattle.mp_partition.specs.runs.Outcomes.{Outcome, wave_of, end_of}
use Rattle.mp_partition.specs.runs.Runs.{end_memory}
use Rattle.mp_simulation.specs.declared.units.netlist_simulation.NetlistSimulation.{NetlistSimulation}
use Rattle.mp_simulation.specs.units.DataWaves.{building_at}
use Rattle.mp_simulation.specs.units.NetlistSimulations.{IsSimulated}
use Rattle.mp_simulation.specs.run.Runs.{wave_for}
use Rattle.mp_active.specs.declared.compare.wire_source.WireSource.{WireSource}
use Rattle.mp_active.specs.compare.Comparing.{off}
use Rattle.mp_depend.specs.OldWaves.{old_from}
use Rattle.mp_redo.specs.rerun.Splicing.{IsSplicedAt}

-- the simulation is one of a netlist after a unit, in which the active modules stand with their last states; the others have those of the old run
pub record HaveEnds (new : Circuit) (run : Outcome) (active : List Bool) (s : NetlistSimulation) : Type 0 where
  pub shown : Circuit
  pub form : IsCircuit shown
  pub time : ℕ
  pub simulated : IsSimulated shown time s
  pub places : length shown.modules ≡ length new.modules
  pub stand : (m : ℕ) (r : ModuleRecord) → module_at new m ≡ Some r → is_marked active m ≡ true → module_at shown m ≡ Some r
  pub awake : (m : ℕ) (r : ModuleRecord) → module_at new m ≡ Some r → is_marked active m ≡ true → state shown m time ≡ state new m (new.horizon - 1)
  pub asleep : (m : ℕ) (r : ModuleRecord) → module_at new m ≡ Some r → is_marked active m ≡ false → end_of run m ≡ end_memory new m

-- from when on a wire has the levels of the old run
abbrev pub until_in : List WireSource → ℕ → ℕ
until_in sources w = (slice_index_or sources w off).until

-- a wire that has always had the levels of the old run has its wave there, and any other wire has its wave in the simulation up to when it goes on
-- with that of the old run, if it does
pub record HaveWaves (new : Circuit) (run : Outcome) (sources : List WireSource) (end : ℕ) (s : NetlistSimulation) : Type 0 where
  pub places : length sources ≡ length new.wires
  pub toggles : length s.bits.simulator.waves ≡ length new.wires
  pub built : length s.wires.waves.items ≡ length new.wires
  pub old : (w : ℕ) → until_in sources w ≡ 0 → IsSome (wire_at new w) → wave_of run w ≡ slot_wave new w (wire_at new w)
  pub shown : (w : ℕ) → w < length new.wires → new.horizon ≤ old_from (until_in sources w) end →
      wave_for (wire_at new w) (Some (wave_at s.bits.simulator.waves w)) (Some (building_at s.wires.waves.items w)) ≡ slot_wave new w (wire_at new w)
  pub spliced : (w : ℕ) → w < length new.wires → 0 < old_from (until_in sources w) end → old_from (until_in sources w) end < new.horizon → IsSome (wire_at new w) →
      IsSplicedAt new run w (old_from (until_in sources w) end) (wave_for (wire_at new w) (Some (wave_at s.bits.simulator.waves w)) (Some (building_at s.wires.waves.items w)))
