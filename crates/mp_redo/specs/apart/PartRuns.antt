-- What the run of a netlist and the runs of its parts have of each other, where no wire connects the parts.
use Rattle.std.specs.Prelude.{◌≡◌, ℕ, List, Some}
use Rattle.mp_records.specs.declared.module_record.ModuleRecord.{ModuleRecord}
use Rattle.mp_netlist.specs.Slots.{slot_at}
use Rattle.mp_netlist.specs.Circuit.{Circuit, IsCircuit, wire_at, module_at}
use Rattle.mp_model.specs.Waves.{slot_wave}
use Rattle.mp_partition.specs.runs.Outcomes.{Outcome, wave_of, end_of}
use Rattle.mp_partition.specs.runs.Runs.{IsRun, end_memory}
use Rattle.mp_partition.specs.regions.Regions.{partition_of}
use Rattle.mp_depend.specs.recording.Endings.{HasCheckpoints}
use Rattle.mp_redo.specs.apart.Parts.{part_of, AreUnconnected, IsDrivenWithin}

-- the run of a netlist has the wave that a wire has in a part, where no other part drives the wire
abbrev pub RunsHavePartWaves : Type 0
RunsHavePartWaves = (n : Circuit) → IsCircuit n → (homes : List ℕ) → AreUnconnected n homes → (run : Outcome) → IsRun n run → (k w : ℕ) → IsDrivenWithin n homes k w →
    wave_of run w ≡ slot_wave (part_of n homes k) w (wire_at (part_of n homes k) w)

-- and the last state that a module of the part has in it
abbrev pub RunsHavePartEnds : Type 0
RunsHavePartEnds = (n : Circuit) → IsCircuit n → (homes : List ℕ) → AreUnconnected n homes → (run : Outcome) → IsRun n run → (k m : ℕ) →
    partition_of homes m ≡ k → end_of run m ≡ end_memory (part_of n homes k) m

-- and its states before checkpoints
abbrev pub RunsKeepPartStates : Type 0
RunsKeepPartStates = (n : Circuit) → IsCircuit n → (homes : List ℕ) → AreUnconnected n homes → (run : Outcome) → IsRun n run → (k m : ℕ) (r : ModuleRecord) →
    partition_of homes m ≡ k → module_at n m ≡ Some r → HasCheckpoints (part_of n homes k) m (slot_at run.kept m)

-- the run of a part has the wave of each wire that no other part drives
abbrev pub PartRunsHaveWaves : Type 0
PartRunsHaveWaves = (n : Circuit) → IsCircuit n → (homes : List ℕ) → AreUnconnected n homes → (k : ℕ) (run : Outcome) → IsRun (part_of n homes k) run → (w : ℕ) →
    IsDrivenWithin n homes k w → wave_of run w ≡ slot_wave n w (wire_at n w)

-- and the last state of each module that is at home there
abbrev pub PartRunsHaveEnds : Type 0
PartRunsHaveEnds = (n : Circuit) → IsCircuit n → (homes : List ℕ) → AreUnconnected n homes → (k : ℕ) (run : Outcome) → IsRun (part_of n homes k) run → (m : ℕ) →
    partition_of homes m ≡ k → end_of run m ≡ end_memory n m

-- and its states before checkpoints
abbrev pub PartRunsKeepStates : Type 0
PartRunsKeepStates = (n : Circuit) → IsCircuit n → (homes : List ℕ) → AreUnconnected n homes → (k : ℕ) (run : Outcome) → IsRun (part_of n homes k) run → (m : ℕ) (r : ModuleRecord) →
    partition_of homes m ≡ k → module_at n m ≡ Some r → HasCheckpoints n m (slot_at run.kept m)
