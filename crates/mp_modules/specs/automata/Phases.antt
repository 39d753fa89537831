-- The phase of a module of width 1: what its answers depend on beside its automaton and its events.
use Rattle.std.specs.Prelude.{ℕ, Bool, false, not, slice_index, ◌==◌}
use Rattle.mp_modules.specs.declared.core_module.CoreModule.{CoreModule}
use Rattle.mp_modules.specs.declared.core_module.CoreModule.TheVariants as core
use Rattle.mp_modules.specs.declared.function.Function.{Function}
use Rattle.mp_modules.specs.declared.function.Function.TheVariants as functions
use Rattle.mp_modules.specs.declared.memory.Memory.{Memory}
use Rattle.mp_modules.specs.declared.memory.Client.TheVariants.{Nobody}
use Rattle.mp_modules.specs.CElement.{bubbled}
use Rattle.mp_modules.specs.Memories.{output_of}
use Rattle.mp_modules.specs.declared.storage.any_module.AnyModule.{AnyModule}
use Rattle.mp_modules.specs.declared.storage.any_module.AnyModule.TheVariants as parts
use Rattle.mp_modules.specs.declared.automata.automaton.Automaton.{Automaton}
use Rattle.mp_modules.specs.declared.automata.automaton.Automaton.TheVariants.{Serve, Grant}
use Rattle.mp_modules.specs.declared.automata.phase.Phase.{Phase}

-- nobody is served, and these wait
abbrev pub unserved : Bool → Bool → Phase
unserved first second = record { served = Nobody; waiting = record { first = first; second = second } }

-- an input, behind its bubble, differs from the output
abbrev pub waits_at : Bool → ℕ → ℕ → Bool
waits_at bubble input output = not (bubbled bubble input == output)

abbrev pub core_phase : CoreModule → Memory → Phase
core_phase (core.C c) m =
    unserved (waits_at c.bubble_a (slice_index m.inputs 0) (output_of m 0)) (waits_at c.bubble_b (slice_index m.inputs 1) (output_of m 0))
core_phase core.Toggle m = unserved (not (output_of m 0 == output_of m 1)) false
core_phase core.Select m = unserved (slice_index m.inputs 1 == 1) false
core_phase core.Call m = record { served = m.served; waiting = m.waiting }
core_phase core.Arbiter m = record { served = m.served; waiting = m.waiting }

-- by the levels a, b and s of the inputs, where what the function answers depends on them
abbrev pub phase_at : Function → ℕ → ℕ → ℕ → Phase
phase_at functions.And a b s = unserved (a == 1) (b == 1)
phase_at functions.Or a b s = unserved (a == 0) (b == 0)
phase_at functions.Less a b s = unserved (a == 0) (b == 1)
phase_at functions.Mux a b s = unserved (s == 1) (not (a == b))
phase_at _ a b s = unserved false false

abbrev pub function_phase : Function → Memory → Phase
function_phase function m = phase_at function (slice_index m.inputs 0) (slice_index m.inputs 1) (slice_index m.inputs 2)

-- the phase of a module in a state
abbrev pub phase_of : AnyModule → Memory → Phase
phase_of (parts.Core part) m = core_phase part m
phase_of (parts.Reg part) m =
    unserved (not (slice_index m.inputs 1 == slice_index m.inputs 2)) (not (slice_index m.inputs 0 == output_of m 0))
phase_of (parts.Function part) m = function_phase part.function m

-- whom an automaton serves in a phase, and who waits: nobody, if it serves no clients
abbrev pub clients_in : Automaton → Phase → Phase
clients_in Serve phase = phase
clients_in Grant phase = phase
clients_in _ phase = unserved false false
