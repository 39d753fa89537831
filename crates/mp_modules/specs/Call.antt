-- CALL: serves one of two clients at a time. The rules of one unit, in their order, each beside its finding.
use Rattle.std.specs.Prelude.{ℕ, Bool, List, ◌&&◌, ◌||◌, not, if◌then◌else◌}
use Rattle.mp_modules.specs.declared.memory.Client.{Client}
use Rattle.mp_modules.specs.declared.memory.Client.TheVariants.{Nobody, First, Second}
use Rattle.mp_modules.specs.declared.memory.Memory.{Memory}
use Rattle.mp_modules.specs.Memories.{is_event, flipped, seen}
use Rattle.mp_modules.specs.Clients.{is_free, serving}

-- the client's done output changes, and nobody is served then
abbrev pub returned : Client → Memory → Memory
returned Nobody memory = memory
returned First memory = serving Nobody (flipped 1 memory)
returned Second memory = serving Nobody (flipped 2 memory)

-- 1. a done event returns to the client that is served; while nobody is served it is ignored
abbrev pub ended : Bool → Memory → Memory
ended event memory = if event then returned memory.served memory else memory

-- done-without-call: it was ignored
abbrev pub is_end_ignored : Bool → Memory → Bool
is_end_ignored event memory = event && is_free memory.served

-- 2. a request event of the first client, then of the second: while nobody is served the request output changes and the client is served; else it is ignored
abbrev pub called : Client → Bool → Memory → Memory
called client event memory = if event && is_free memory.served then serving client (flipped 0 memory) else memory

-- call-overlap: it was ignored
abbrev pub is_call_ignored : Bool → Memory → Bool
is_call_ignored event memory = event && not (is_free memory.served)

-- after the done event, and after the first request
abbrev pub before_calls : Memory → List ℕ → Memory
before_calls memory x = ended (is_event memory x 2) memory

abbrev pub after_first_call : Memory → List ℕ → Memory
after_first_call memory x = called First (is_event memory x 0) (before_calls memory x)

abbrev pub call_step : Memory → List ℕ → Memory
call_step memory x = seen x (called Second (is_event memory x 1) (after_first_call memory x))

abbrev pub is_done_without_call : Memory → List ℕ → Bool
is_done_without_call memory x = is_end_ignored (is_event memory x 2) memory

abbrev pub is_overlap : Memory → List ℕ → Bool
is_overlap memory x = is_call_ignored (is_event memory x 0) (before_calls memory x) || is_call_ignored (is_event memory x 1) (after_first_call memory x)
