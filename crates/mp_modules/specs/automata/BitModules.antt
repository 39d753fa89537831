-- Modules of width 1: their states, and what happens at their ports in a unit.
use Rattle.std.specs.Prelude.{◌≡◌, ℕ, ◌≤◌, not, List, [], ◌∷◌, slice_index, ◌==◌}
use Rattle.mp_modules.specs.declared.memory.Memory.{Memory}
use Rattle.mp_modules.specs.Memories.{output_of, is_event}
use Rattle.mp_modules.specs.declared.function.Function.{Function}
use Rattle.mp_modules.specs.declared.function.Function.TheVariants as functions
use Rattle.mp_modules.specs.declared.storage.any_module.AnyModule.{AnyModule}
use Rattle.mp_modules.specs.declared.storage.any_module.AnyModule.TheVariants as parts
use Rattle.mp_modules.specs.storage.AnyModules.{step}
use Rattle.mp_modules.specs.declared.automata.events.Events.{Events}
use Rattle.mp_modules.specs.declared.automata.toggles.Toggles.{Toggles}
use Rattle.mp_modules.specs.declared.automata.phase.Phase.{Phase}
use Rattle.mp_modules.specs.automata.Automata.{automaton_of}
use Rattle.mp_modules.specs.automata.Phases.{phase_of, clients_in}

-- the events of a unit that begins in a state, where the inputs have these levels in it
abbrev pub events_in : Memory → List ℕ → Events
events_in m x = record { first = is_event m x 0; second = is_event m x 1; third = is_event m x 2; fourth = is_event m x 3 }

-- the outputs that differ between two states
abbrev pub toggles_between : Memory → Memory → Toggles
toggles_between m k = record {
  first = not (output_of m 0 == output_of k 0);
  second = not (output_of m 1 == output_of k 1);
  third = not (output_of m 2 == output_of k 2);
}

abbrev pub AreBits : List ℕ → Type 0
AreBits levels = (p : ℕ) → slice_index levels p ≤ 1

-- all ports of a module of this function have width 1, given the module's width and its constant: a JOIN has an output of width 2 or more
abbrev pub IsFunctionOfBits : Function → ℕ → ℕ → Type 0
IsFunctionOfBits functions.AddC width k = width ≡ 1
IsFunctionOfBits functions.XorC width k = k ≤ 1
IsFunctionOfBits functions.Sum width k = width ≡ 1
IsFunctionOfBits functions.Bit width k = k ≡ 0
IsFunctionOfBits functions.Sub width k = width ≡ 1
IsFunctionOfBits functions.Join width k = ⊥
IsFunctionOfBits _ width k = Unit {0}

-- all ports of the module have width 1
abbrev pub IsOfBits : AnyModule → Type 0
IsOfBits (parts.Function part) = IsFunctionOfBits part.function part.width part.constant
IsOfBits _ = Unit {0}

-- whom a module serves in a state, and who waits
abbrev pub clients_of : Memory → Phase
clients_of m = record { served = m.served; waiting = m.waiting }

-- a state of a module of width 1: its levels are bits, it serves nobody if its kind has no clients, and it stays as it is while no input changes
pub record IsBitState (part : AnyModule) (m : Memory) : Type 0 where
  pub inputs : AreBits m.inputs
  pub outputs : AreBits m.outputs
  pub shape : m.outputs ≡ output_of m 0 ∷ output_of m 1 ∷ output_of m 2 ∷ []
  pub clients : clients_of m ≡ clients_in (automaton_of part) (phase_of part m)
  pub stays : step part m m.inputs ≡ m
