-- Whom modules of width 1 serve.
use Rattle.std.proofs.Common.{◌≡◌, ℕ, zero, suc, ◌+◌, Bool, true, false, cond, List, slice_index, Some, refl, sym, ◌∙◌, arith, subst}
use Rattle.mp_modules.specs.declared.core_module.CoreModule.{CoreModule}
use Rattle.mp_modules.specs.declared.core_module.CoreModule.TheVariants as core
use Rattle.mp_modules.specs.declared.memory.Memory.{Memory}
use Rattle.mp_modules.specs.Memories.{is_event, flipped, seen}
use Rattle.mp_modules.specs.Toggle.{turn}
use Rattle.mp_modules.specs.Select.{chosen}
use Rattle.mp_modules.specs.Tables as tables
use Rattle.mp_modules.specs.declared.function.Function.{Function}
use Rattle.mp_modules.specs.declared.function.Function.TheVariants as functions
use Rattle.mp_modules.specs.declared.storage.any_module.AnyModule.{AnyModule}
use Rattle.mp_modules.specs.declared.storage.any_module.AnyModule.TheVariants as parts
use Rattle.mp_modules.specs.storage.AnyModules.{start, step}
use Rattle.mp_records.specs.declared.module_record.ModuleRecord.{ModuleRecord}
use Rattle.mp_netlist.specs.Circuit.{Circuit, IsCircuit, module_at}
use Rattle.mp_model.specs.Levels.{built, inputs_by}
use Rattle.mp_model.specs.Waves.{level, state}
use Rattle.mp_model.proofs.BehaviourLemmas.{satisfies}
use Rattle.mp_model.proofs.StepLemmas.{settle_steps}
use Rattle.mp_modules.specs.automata.Automata.{automaton_of, function_automaton}
use Rattle.mp_modules.specs.automata.Phases.{unserved, phase_of, phase_at, clients_in}
use Rattle.mp_modules.specs.automata.BitModules.{clients_of}

abbrev HasClients : AnyModule → Memory → Type 0
HasClients part m = clients_of m ≡ clients_in (automaton_of part) (phase_of part m)

-- an event at an output is none of a client
still_none : (event : Bool) (port : ℕ) (m : Memory) (x : List ℕ) → clients_of m ≡ unserved false false → clients_of (seen x (cond event (flipped port m) m)) ≡ unserved false false
still_none true port m x none = none
still_none false port m x none = none

core_clients : (part : CoreModule) (m : Memory) (x : List ℕ) → HasClients (parts.Core part) m → HasClients (parts.Core part) (tables.step part m x)
core_clients (core.C c) m x has = refl
core_clients core.Toggle m x has = still_none (is_event m x 0) (turn m) m x has
core_clients core.Select m x has = still_none (is_event m x 0) (chosen x) m x has
core_clients core.Call m x has = refl
core_clients core.Arbiter m x has = refl

-- a function has no clients
no_clients : (f : Function) (a b s : ℕ) → unserved false false ≡ clients_in (function_automaton f) (phase_at f a b s)
no_clients functions.Buf a b s = refl
no_clients _ a b s = refl

step_clients : (part : AnyModule) (m : Memory) (x : List ℕ) → HasClients part m → HasClients part (step part m x)
unfolding step
step_clients (parts.Core part) m x has = core_clients part m x has
step_clients (parts.Reg part) m x has = refl
step_clients (parts.Function part) m x has = no_clients part.function (slice_index x 0) (slice_index x 1) (slice_index x 2)

core_start : (part : CoreModule) (x : List ℕ) → HasClients (parts.Core part) (seen x (tables.start part))
core_start (core.C c) x = refl
core_start _ x = refl

start_clients : (part : AnyModule) (x : List ℕ) → HasClients part (seen x (start part))
unfolding start
start_clients (parts.Core part) x = core_start part x
start_clients (parts.Reg part) x = refl
start_clients (parts.Function part) x = no_clients part.function (slice_index x 0) (slice_index x 1) (slice_index x 2)

-- a module whose kind has no clients serves nobody
pub clients_at : (n : Circuit) → IsCircuit n → (m t : ℕ) (r : ModuleRecord) → module_at n m ≡ Some r → HasClients (built n r) (state n m t)
clients_at n ok m zero r at =
    let x = inputs_by n (level n) r 0 in
    subst (λ (k : Memory). HasClients (built n r) k) (sym ((satisfies n ok).settled m r at ∙ settle_steps (built n r) x))
    (step_clients (built n r) (seen x (start (built n r))) x (start_clients (built n r) x))
clients_at n ok m (suc t) r at =
    let e : t + 1 ≡ suc t = omega arith in
    subst (λ k. HasClients (built n r) (state n m k)) e
    (subst (λ (k : Memory). HasClients (built n r) k) (sym ((satisfies n ok).stepped m t r at))
    (step_clients (built n r) (state n m t) (inputs_by n (level n) r (t + 1)) (clients_at n ok m t r at)))
