-- Changes of wires, and what modules hear and answer.
use Rattle.std.specs.Prelude.{◌≡◌, ℕ, ◌+◌, ◌<◌, ◌≤◌, false, not, Some, ◌==◌, if◌then◌else◌}
use Rattle.mp_modules.specs.declared.memory.Memory.{Memory}
use Rattle.mp_modules.specs.Memories.{output_of}
use Rattle.mp_modules.specs.declared.storage.any_module.AnyModule.{AnyModule}
use Rattle.mp_records.specs.declared.module_record.ModuleRecord.{ModuleRecord}
use Rattle.mp_records.specs.declared.ids.ModuleId.{ModuleId}
use Rattle.mp_records.specs.declared.ports.Input.{Input}
use Rattle.mp_records.specs.Outputs.{delay_of}
use Rattle.mp_netlist.specs.Circuit.{Circuit, IsCircuit, wire_at, module_at}
use Rattle.mp_netlist.specs.declared.driver.Driver.TheVariants.{Port}
use Rattle.mp_netlist.specs.Drivers.{driver}
use Rattle.mp_wave.specs.Waveform.{Waveform, wave_upto}
use Rattle.mp_modules.specs.storage.AnyModules.{step}
use Rattle.mp_model.specs.Levels.{initial_of, input_by, built}
use Rattle.mp_model.specs.Waves.{level, state}
use Rattle.mp_modules.specs.automata.Automata.{automaton_of}
use Rattle.mp_modules.specs.automata.Phases.{phase_of}
use Rattle.mp_modules.specs.automata.BitModules.{IsOfBits, IsBitState}
use Rattle.mp_modules.specs.automata.Codes.{no_events}
use Rattle.mp_modules.specs.automata.Reactions.{react, quiet}
use Rattle.mp_wave.specs.ToggleWaves.{toggled_at}
use Rattle.mp_simulation.specs.bits.Changes.{change_at, late_change}
use Rattle.mp_simulation.specs.bits.Traces.{IsTrace}

abbrev pub PortsChange : Type 0
PortsChange = (n : Circuit) → IsCircuit n → (w p t : ℕ) (m : ModuleId) (r : ModuleRecord) → driver n w ≡ Port m p → module_at n m.0 ≡ Some r → 0 < delay_of r p →
    change_at n w (t + 1 + delay_of r p) ≡ not (output_of (state n m.0 t) p == output_of (state n m.0 (t + 1)) p)

abbrev pub PortsBegin : Type 0
PortsBegin = (n : Circuit) → IsCircuit n → (w p : ℕ) (m : ModuleId) (r : ModuleRecord) → driver n w ≡ Port m p → module_at n m.0 ≡ Some r → 0 < delay_of r p →
    change_at n w (delay_of r p) ≡ not (initial_of (wire_at n w) == output_of (state n m.0 0) p)

abbrev pub PortsWait : Type 0
PortsWait = (n : Circuit) → IsCircuit n → (w p u : ℕ) (m : ModuleId) (r : ModuleRecord) → driver n w ≡ Port m p → module_at n m.0 ≡ Some r → u < delay_of r p →
    change_at n w u ≡ false

abbrev pub InputsChange : Type 0
InputsChange = (n : Circuit) → IsCircuit n → (i : Input) (t : ℕ) →
    not (input_by n (level n) i t == input_by n (level n) i (t + 1)) ≡ late_change n (i.wire.0, i.delay) (t + 1)

abbrev pub RestsWithoutEvents : Type 0
RestsWithoutEvents = (part : AnyModule) (m : Memory) → IsOfBits part → IsBitState part m →
    react (automaton_of part) (phase_of part m) no_events ≡ quiet (phase_of part m)

abbrev pub WavesGrow : Type 0
WavesGrow = (level : ℕ → ℕ) (t : ℕ) → ((u : ℕ) → level u ≤ 1) →
    wave_upto level (t + 1) ≡ (if not (level t == level (t + 1)) then toggled_at (wave_upto level t) (t + 1) else wave_upto level t)

-- and so what is kept of the changes of a wire of any width grows
abbrev pub TracesGrow : Type 0
TracesGrow = (level : ℕ → ℕ) (t : ℕ) (wave : Waveform) → IsTrace level t wave →
    IsTrace level (t + 1) (if not (level t == level (t + 1)) then toggled_at wave (t + 1) else wave)

-- a state stays while no input changes
abbrev pub StatesStay : Type 0
StatesStay = (n : Circuit) → IsCircuit n → (m t : ℕ) (r : ModuleRecord) → module_at n m ≡ Some r →
    step (built n r) (state n m t) (state n m t).inputs ≡ state n m t
