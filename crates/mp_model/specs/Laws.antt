-- What the levels, states and waves of a netlist satisfy.
use Rattle.std.specs.Prelude.{◌≡◌, ℕ, ◌+◌, ◌<◌, ◌^◌, Some}
use Rattle.mp_wave.specs.Waveform.{level_of}
use Rattle.mp_modules.specs.declared.memory.Memory.{Memory}
use Rattle.mp_modules.specs.Memories.{output_of}
use Rattle.mp_records.specs.declared.module_record.ModuleRecord.{ModuleRecord}
use Rattle.mp_records.specs.Outputs.{delay_of}
use Rattle.mp_netlist.specs.declared.driver.Driver.TheVariants.{Port}
use Rattle.mp_netlist.specs.Circuit.{Circuit, IsCircuit, wire_at, module_at, width_of}
use Rattle.mp_netlist.specs.Drivers.{driver}
use Rattle.mp_model.specs.Levels.{IsBehaviour, initial_of}
use Rattle.mp_model.specs.Waves.{level, state, wave}

-- the levels and states of every netlist satisfy the equations
abbrev pub Satisfies : Type 0
Satisfies = (n : Circuit) → IsCircuit n → IsBehaviour n (level n) (state n)

-- no others do
abbrev pub IsOnlyOne : Type 0
IsOnlyOne = (n : Circuit) → IsCircuit n → (levels : ℕ → ℕ → ℕ) (states : ℕ → ℕ → Memory) → IsBehaviour n levels states →
    ((w t : ℕ) → levels w t ≡ level n w t) × ((m t : ℕ) (r : ModuleRecord) → module_at n m ≡ Some r → states m t ≡ state n m t)

-- a wire that a port drives has the level of the module's output, the port's delay later
abbrev pub FollowsPorts : Type 0
FollowsPorts = (n : Circuit) → IsCircuit n → (m p w t : ℕ) (r : ModuleRecord) → module_at n m ≡ Some r → driver n w ≡ Port (record { 0 = m }) p →
    level n w (t + delay_of r p) ≡ output_of (state n m t) p

-- at time 0 a wire has its initial level
abbrev pub BeginsAtInitialLevels : Type 0
BeginsAtInitialLevels = (n : Circuit) → IsCircuit n → (w : ℕ) → level n w 0 ≡ initial_of (wire_at n w)

-- a wave has the levels of its wire
abbrev pub HasLevels : Type 0
HasLevels = (n : Circuit) → IsCircuit n → (w t : ℕ) → t < n.horizon → level_of (wave n w) t ≡ level n w t

-- no level is wider than its wire
abbrev pub HaveWidth : Type 0
HaveWidth = (n : Circuit) → IsCircuit n → (w t : ℕ) → level n w t < 2 ^ width_of (wire_at n w)
