-- A module of width 1 goes on as its automaton does.
use Rattle.std.specs.Prelude.{◌≡◌, ℕ, List, bit_xor}
use Rattle.mp_modules.specs.declared.memory.Memory.{Memory}
use Rattle.mp_modules.specs.declared.storage.any_module.AnyModule.{AnyModule}
use Rattle.mp_modules.specs.storage.AnyModules.{step}
use Rattle.mp_modules.specs.declared.automata.reaction.Reaction.{Reaction}
use Rattle.mp_modules.specs.automata.Automata.{automaton_of}
use Rattle.mp_modules.specs.automata.Phases.{phase_of}
use Rattle.mp_modules.specs.automata.BitModules.{events_in, toggles_between, AreBits, IsOfBits, IsBitState}
use Rattle.mp_modules.specs.automata.Reactions.{react}
use Rattle.mp_modules.specs.automata.PortLevels.{ports_code, levels_code}

-- what a module does in a unit, without levels
abbrev pub reaction_of : AnyModule → Memory → List ℕ → Reaction
reaction_of part m x = record { phase = phase_of part (step part m x); toggles = toggles_between m (step part m x) }

abbrev pub ReactsAsModule : Type 0
ReactsAsModule = (part : AnyModule) (m : Memory) (x : List ℕ) → IsOfBits part → IsBitState part m → AreBits x →
    reaction_of part m x ≡ react (automaton_of part) (phase_of part m) (events_in m x)

-- the levels at its ports change at the inputs that have an event and at the outputs that toggle
abbrev pub LevelsFollow : Type 0
LevelsFollow = (part : AnyModule) (m : Memory) (x : List ℕ) → IsOfBits part → IsBitState part m → AreBits x → AreBits (step part m x).outputs →
    bit_xor (levels_code m) (ports_code (events_in m x) (react (automaton_of part) (phase_of part m) (events_in m x)).toggles) ≡ levels_code (step part m x)
