-- A module of width 1 goes on to the next unit.
use Rattle.std.specs.Prelude.{◌≡◌, ℕ, ◌+◌, Some}
use Rattle.mp_records.specs.declared.module_record.ModuleRecord.{ModuleRecord}
use Rattle.mp_netlist.specs.Circuit.{Circuit, IsCircuit, module_at}
use Rattle.mp_model.specs.Levels.{built, inputs_by}
use Rattle.mp_model.specs.Waves.{level, state}
use Rattle.mp_modules.specs.automata.Automata.{automaton_of}
use Rattle.mp_modules.specs.automata.Phases.{phase_of}
use Rattle.mp_modules.specs.automata.BitModules.{events_in, toggles_between, AreBits, IsOfBits, IsBitState}
use Rattle.mp_kernel.specs.events.Firing.{UnitState, reaction}

-- the state of a module in the unit after t, once it has heard all events
abbrev pub unit_state_at : Circuit → ModuleRecord → ℕ → ℕ → UnitState
unit_state_at n r m t = record {
  automaton = automaton_of (built n r);
  phase = phase_of (built n r) (state n m t);
  events = events_in (state n m t) (inputs_by n (level n) r (t + 1));
}

-- what comes of it is the phase after the unit, and the outputs that toggle are those that differ
pub record Advances (n : Circuit) (m t : ℕ) (r : ModuleRecord) : Type 0 where
  pub phase : (reaction (unit_state_at n r m t)).phase ≡ phase_of (built n r) (state n m (t + 1))
  pub toggles : (reaction (unit_state_at n r m t)).toggles ≡ toggles_between (state n m t) (state n m (t + 1))

abbrev pub StatesAdvance : Type 0
StatesAdvance = (n : Circuit) → IsCircuit n → (m t : ℕ) (r : ModuleRecord) → module_at n m ≡ Some r → IsOfBits (built n r) →
    IsBitState (built n r) (state n m t) → AreBits (inputs_by n (level n) r (t + 1)) → Advances n m t r
