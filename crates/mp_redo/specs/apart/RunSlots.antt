-- A run of a netlist, slot by slot.
use Rattle.std.specs.Prelude.{◌≡◌, ℕ, Some, length}
use Rattle.mp_records.specs.declared.module_record.ModuleRecord.{ModuleRecord}
use Rattle.mp_netlist.specs.Slots.{slot_at}
use Rattle.mp_netlist.specs.Circuit.{Circuit, wire_at, module_at}
use Rattle.mp_model.specs.Waves.{slot_wave}
use Rattle.mp_partition.specs.runs.Outcomes.{Outcome, AreSlots}
use Rattle.mp_partition.specs.runs.Runs.{IsRun, end_memory, AreCheckpoints}
use Rattle.mp_depend.specs.recording.Endings.{HasCheckpoints}

-- there is a slot for each wire and each module, with what the netlist gives of it
pub record HasRunSlots (n : Circuit) (run : Outcome) : Type 0 where
  pub horizon : run.horizon ≡ n.horizon
  pub waves : AreSlots (length n.wires) (λ w. slot_wave n w (wire_at n w)) run.waves
  pub ends : AreSlots (length n.modules) (end_memory n) run.ends
  pub kept : AreCheckpoints n run.kept

-- then it is the run of the netlist
abbrev pub RunsAreBySlots : Type 0
RunsAreBySlots = (n : Circuit) (run : Outcome) → HasRunSlots n run → IsRun n run

-- a run keeps the states of each module that stands
abbrev pub RunsKeepStates : Type 0
RunsKeepStates = (n : Circuit) (run : Outcome) → IsRun n run → (m : ℕ) (r : ModuleRecord) → module_at n m ≡ Some r → HasCheckpoints n m (slot_at run.kept m)
