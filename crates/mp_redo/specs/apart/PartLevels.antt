-- Below the horizon a part has the levels and states of its netlist, where no wire connects the parts.
use Rattle.std.specs.Prelude.{◌≡◌, ℕ, ◌<◌, List, [], Some, option_map}
use Rattle.mp_wave.specs.Waveform.{Waveform}
use Rattle.mp_records.specs.declared.wire_record.WireRecord.{WireRecord}
use Rattle.mp_records.specs.declared.module_record.ModuleRecord.{ModuleRecord}
use Rattle.mp_netlist.specs.Circuit.{Circuit, IsCircuit, wire_at, module_at}
use Rattle.mp_model.specs.Levels.{initial_of, inputs_by}
use Rattle.mp_model.specs.Waves.{level, state, slot_wave}
use Rattle.mp_partition.specs.runs.Checkpoints.{state_before}
use Rattle.mp_partition.specs.regions.Regions.{partition_of}
use Rattle.mp_redo.specs.apart.Parts.{part_of, AreUnconnected, IsDrivenWithin, IsDrivenElsewhere}

-- the wave of a wire that stays at its initial level
abbrev pub resting_wave : WireRecord → Waveform
resting_wave r = record { initial = r.initial; changes = [] }

-- a wire that isn't driven elsewhere has its levels
abbrev pub PartsHaveLevels : Type 0
PartsHaveLevels = (n : Circuit) → IsCircuit n → (homes : List ℕ) → AreUnconnected n homes → (k w t : ℕ) → IsDrivenWithin n homes k w → t < n.horizon →
    level (part_of n homes k) w t ≡ level n w t

-- and its wave
abbrev pub PartsHaveWaves : Type 0
PartsHaveWaves = (n : Circuit) → IsCircuit n → (homes : List ℕ) → AreUnconnected n homes → (k w : ℕ) → IsDrivenWithin n homes k w →
    slot_wave (part_of n homes k) w (wire_at (part_of n homes k) w) ≡ slot_wave n w (wire_at n w)

-- any other wire stays at its initial level
abbrev pub OthersRest : Type 0
OthersRest = (n : Circuit) → IsCircuit n → (homes : List ℕ) (k w t : ℕ) → IsDrivenElsewhere n homes k w →
    level (part_of n homes k) w t ≡ initial_of (wire_at n w)

-- and its wave has no changes
abbrev pub OthersHaveNoChanges : Type 0
OthersHaveNoChanges = (n : Circuit) → IsCircuit n → (homes : List ℕ) (k w : ℕ) → IsDrivenElsewhere n homes k w →
    slot_wave (part_of n homes k) w (wire_at (part_of n homes k) w) ≡ option_map resting_wave (wire_at n w)

-- a module that is at home in the part has its states
abbrev pub PartsHaveStates : Type 0
PartsHaveStates = (n : Circuit) → IsCircuit n → (homes : List ℕ) → AreUnconnected n homes → (k m t : ℕ) (r : ModuleRecord) → partition_of homes m ≡ k →
    module_at n m ≡ Some r → t < n.horizon → state (part_of n homes k) m t ≡ state n m t

-- also before a unit
abbrev pub PartsHaveStatesBefore : Type 0
PartsHaveStatesBefore = (n : Circuit) → IsCircuit n → (homes : List ℕ) → AreUnconnected n homes → (k m t : ℕ) (r : ModuleRecord) → partition_of homes m ≡ k →
    module_at n m ≡ Some r → t < n.horizon → state_before (part_of n homes k) m r t ≡ state_before n m r t

-- and the levels at its inputs
abbrev pub PartsHaveInputs : Type 0
PartsHaveInputs = (n : Circuit) → IsCircuit n → (homes : List ℕ) → AreUnconnected n homes → (k m t : ℕ) (r : ModuleRecord) → partition_of homes m ≡ k →
    module_at n m ≡ Some r → t < n.horizon → inputs_by (part_of n homes k) (level (part_of n homes k)) r t ≡ inputs_by n (level n) r t
