-- Which inputs hold an output: it keeps its level as long as they keep theirs.
use Rattle.std.specs.Prelude.{ℕ, Bool, not, ◌==◌, List, [], ◌∷◌, ◌++◌, slice_index, zero, suc, if◌then◌else◌}
use Rattle.mp_modules.specs.declared.kind.Kind.{Kind}
use Rattle.mp_modules.specs.declared.kind.Kind.TheVariants as kinds
use Rattle.mp_modules.specs.declared.function.Function.{Function}
use Rattle.mp_modules.specs.declared.function.Function.TheVariants as functions
use Rattle.mp_modules.specs.declared.memory.Memory.{Memory}
use Rattle.mp_modules.specs.declared.memory.Client.{Client}
use Rattle.mp_modules.specs.declared.memory.Client.TheVariants.{Nobody, First, Second}
use Rattle.mp_modules.specs.declared.rendezvous.Rendezvous.{Rendezvous}
use Rattle.mp_modules.specs.CElement.{bubbled}
use Rattle.mp_modules.specs.Kinds.{function_shape}
use Rattle.mp_modules.specs.Clients.{is_free, is_same, waits}
use Rattle.mp_modules.specs.Memories.{output_of}
use Rattle.mp_modules.specs.Tables.{rendezvous}
use Rattle.mp_modules.specs.storage.Reg.{is_open}

-- a set of inputs, where something is so
abbrev pub where_so : Bool → List ℕ → List (List ℕ)
where_so is set = if is then set ∷ [] else []

-- C: an input that has the level of the output, behind its bubble
abbrev pub joining_sets : Rendezvous → Memory → List (List ℕ)
joining_sets c s =
    where_so (bubbled c.bubble_a (slice_index s.inputs 0) == output_of s 0) (0 ∷ []) ++ where_so (bubbled c.bubble_b (slice_index s.inputs 1) == output_of s 0) (1 ∷ [])

-- the request output of a CALL: done, while a client is served, and both requests
abbrev pub calling_sets : Memory → List (List ℕ)
calling_sets s = where_so (not (is_free s.served)) (2 ∷ []) ++ (0 ∷ 1 ∷ []) ∷ []

-- the done output of a client of a CALL, whose request is this input: done, and the request of a client that isn't served
abbrev pub returning_sets : Client → ℕ → Client → List (List ℕ)
returning_sets client request Nobody = (request ∷ []) ∷ (2 ∷ []) ∷ []
returning_sets client request served = (2 ∷ []) ∷ where_so (not (is_same client served)) (request ∷ [])

-- ARBITER: done of the owner
abbrev pub owning_sets : Client → List (List ℕ)
owning_sets Nobody = []
owning_sets First = (2 ∷ []) ∷ []
owning_sets Second = (3 ∷ []) ∷ []

-- the grant of a client, whose request is this input: also its request, where it doesn't wait
abbrev pub granting_sets : Client → ℕ → Memory → List (List ℕ)
granting_sets client request s = owning_sets s.served ++ where_so (not (waits client s.waiting)) (request ∷ [])

-- the data of a REG: capture and pass, while they hold it, and the data, where they are what is held
abbrev pub storing_sets : Memory → List (List ℕ)
storing_sets s = where_so (not (is_open s.inputs)) (1 ∷ 2 ∷ []) ++ where_so (slice_index s.inputs 0 == output_of s 0) (0 ∷ [])

abbrev pub client_at : ℕ → Client
client_at zero = First
client_at (suc p) = Second

abbrev pub call_sets : Memory → ℕ → List (List ℕ)
call_sets s zero = calling_sets s
call_sets s (suc p) = returning_sets (client_at p) p s.served

abbrev pub register_sets : Memory → ℕ → List (List ℕ)
register_sets s zero = storing_sets s
register_sets s (suc p) = (suc p ∷ []) ∷ []

-- a function: all inputs; MUX: the input that it chooses, and the one by which it does
abbrev pub function_set : Function → List ℕ → List ℕ
function_set functions.Mux x = (if slice_index x 2 == 0 then 0 else 1) ∷ 2 ∷ []
function_set function x = if (function_shape function).inputs == 1 then 0 ∷ [] else 0 ∷ 1 ∷ []

-- the sets of inputs of which each holds an output of a module in a state
abbrev pub holding_sets : Kind → List ℕ → Memory → ℕ → List (List ℕ)
holding_sets kinds.C params s p = joining_sets (rendezvous params) s
holding_sets kinds.Call params s p = call_sets s p
holding_sets kinds.Arbiter params s p = granting_sets (client_at p) p s
holding_sets kinds.Reg params s p = register_sets s p
holding_sets (kinds.Function function) params s p = function_set function s.inputs ∷ []
holding_sets kind params s p = (0 ∷ []) ∷ []
