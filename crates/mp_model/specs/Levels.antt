-- What the levels, inputs and states of a netlist are, each in terms of the others.
use Rattle.std.specs.Prelude.{◌≡◌, ℕ, ◌+◌, ◌-◌, List, map, Option, Some, None, nat_lt, if◌then◌else◌}
use Rattle.mp_wave.specs.Waveform.{level_from}
use Rattle.mp_modules.specs.declared.memory.Memory.{Memory}
use Rattle.mp_modules.specs.Memories.{output_of}
use Rattle.mp_modules.specs.declared.storage.any_module.AnyModule.{AnyModule}
use Rattle.mp_modules.specs.storage.AnyModules.{any_part_of, settle, step}
use Rattle.mp_records.specs.declared.wire_record.WireRecord.{WireRecord}
use Rattle.mp_records.specs.declared.module_record.ModuleRecord.{ModuleRecord}
use Rattle.mp_records.specs.declared.ports.Input.{Input}
use Rattle.mp_records.specs.Outputs.{delay_of}
use Rattle.mp_netlist.specs.declared.driver.Driver.{Driver}
use Rattle.mp_netlist.specs.declared.driver.Driver.TheVariants.{Nothing, Stimulus, Port}
use Rattle.mp_netlist.specs.Circuit.{Circuit, wire_at, module_at, module_width, stimulus_at}
use Rattle.mp_netlist.specs.Drivers.{driver}

-- the event module that a record stands for, of the width that the module has
abbrev pub built : Circuit → ModuleRecord → AnyModule
built n r = any_part_of r.kind r.params (module_width n r)

abbrev pub initial_of : Option WireRecord → ℕ
initial_of None = 0
initial_of (Some wire) = wire.initial

-- the last level that is set at a time not after t, or else the initial level
abbrev pub stimulus_level : Option (List (ℕ × ℕ)) → ℕ → ℕ → ℕ
stimulus_level None initial t = initial
stimulus_level (Some changes) initial t = level_from initial changes t

-- the level at a port of the module m: the initial level until the delay is over, then the output of so much before
abbrev pub port_level : (ℕ → ℕ → Memory) → Option ModuleRecord → ℕ → ℕ → ℕ → ℕ → ℕ
port_level state None m p initial t = initial
port_level state (Some r) m p initial t =
    if nat_lt t (delay_of r p) then initial else output_of (state m (t - delay_of r p)) p

abbrev pub driven_level : Driver → Circuit → (ℕ → ℕ → Memory) → ℕ → ℕ → ℕ
driven_level Nothing n state w t = initial_of (wire_at n w)
driven_level Stimulus n state w t = stimulus_level (stimulus_at n w) (initial_of (wire_at n w)) t
driven_level (Port m p) n state w t = port_level state (module_at n m.0) m.0 p (initial_of (wire_at n w)) t

-- the level of the wire w at the time t, from the states of modules
abbrev pub level_by : Circuit → (ℕ → ℕ → Memory) → ℕ → ℕ → ℕ
level_by n state w t = driven_level (driver n w) n state w t

-- the level at an input port at the time t: the initial level of its wire until the delay is over, then the wire's level of so much before
abbrev pub input_by : Circuit → (ℕ → ℕ → ℕ) → Input → ℕ → ℕ
input_by n level i t = if nat_lt t i.delay then initial_of (wire_at n i.wire.0) else level i.wire.0 (t - i.delay)

-- the levels at a module's input ports at the time t, from the levels of wires
abbrev pub inputs_by : Circuit → (ℕ → ℕ → ℕ) → ModuleRecord → ℕ → List ℕ
inputs_by n level r t = map (λ i. input_by n level i t) r.inputs

-- levels and states that satisfy the equations
pub record IsBehaviour (n : Circuit) (level : ℕ → ℕ → ℕ) (state : ℕ → ℕ → Memory) : Type 0 where
  pub levels : (w t : ℕ) → level w t ≡ level_by n state w t
  pub settled : (m : ℕ) (r : ModuleRecord) → module_at n m ≡ Some r → state m 0 ≡ settle (built n r) (inputs_by n level r 0)
  pub stepped : (m t : ℕ) (r : ModuleRecord) → module_at n m ≡ Some r → state m (t + 1) ≡ step (built n r) (state m t) (inputs_by n level r (t + 1))
