-- ARBITER: grants one of two ports at a time. The rules of one unit, in their order, each beside its finding.
use Rattle.std.specs.Prelude.{ℕ, Bool, false, true, List, ◌&&◌, ◌||◌, if◌then◌else◌}
use Rattle.mp_modules.specs.declared.memory.Client.{Client}
use Rattle.mp_modules.specs.declared.memory.Client.TheVariants.{Nobody, First, Second}
use Rattle.mp_modules.specs.declared.memory.Memory.{Memory}
use Rattle.mp_modules.specs.Memories.{is_event, flipped, seen}
use Rattle.mp_modules.specs.Clients.{is_free, is_same, waits, with_waiting, serving}

-- whether one of the done events is the owner's
abbrev pub is_owner_done : Client → Bool → Bool → Bool
is_owner_done Nobody first second = false
is_owner_done First first second = first
is_owner_done Second first second = second

-- 1. the owner's done event ends its ownership; another port's is ignored
abbrev pub released : Bool → Bool → Memory → Memory
released first second memory = if is_owner_done memory.served first second then serving Nobody memory else memory

-- done-without-grant: a done event was ignored
abbrev pub is_done_ignored : Client → Bool → Bool → Bool
is_done_ignored Nobody first second = first || second
is_done_ignored First first second = second
is_done_ignored Second first second = first

-- the port's grant output changes, it owns, and it waits no longer
abbrev pub owning : Client → Memory → Memory
owning client memory = record memory { served = client; waiting = with_waiting client false memory.waiting }

abbrev pub granted : Client → Memory → Memory
granted Nobody memory = memory
granted First memory = owning First (flipped 0 memory)
granted Second memory = owning Second (flipped 1 memory)

-- 2. where nobody owns, a port that waits is granted
abbrev pub promoted : Memory → Memory
promoted memory =
    if is_free memory.served
    then (if memory.waiting.first then granted First memory else (if memory.waiting.second then granted Second memory else memory))
    else memory

abbrev pub made_wait : Client → Memory → Memory
made_wait client memory = record memory { waiting = with_waiting client true memory.waiting }

-- the port owns or waits
abbrev pub is_engaged : Client → Memory → Bool
is_engaged client memory = is_same client memory.served || waits client memory.waiting

-- 3. a request event of the first port, then of the second: of a port that owns or waits it is ignored; else the port is granted where nobody owns, and waits where one does
abbrev pub requested : Client → Bool → Memory → Memory
requested client false memory = memory
requested client true memory =
    if is_engaged client memory then memory
    else (if is_free memory.served then granted client memory else made_wait client memory)

-- repeat-request: it was ignored
abbrev pub is_request_ignored : Client → Bool → Memory → Bool
is_request_ignored client event memory = event && is_engaged client memory

-- after the done events and a grant to a port that waited, and after the first request
abbrev pub before_requests : Memory → List ℕ → Memory
before_requests memory x = promoted (released (is_event memory x 2) (is_event memory x 3) memory)

abbrev pub after_first_request : Memory → List ℕ → Memory
after_first_request memory x = requested First (is_event memory x 0) (before_requests memory x)

abbrev pub arbitrated : Memory → List ℕ → Memory
arbitrated memory x = requested Second (is_event memory x 1) (after_first_request memory x)

abbrev pub arbiter_step : Memory → List ℕ → Memory
arbiter_step memory x = seen x (arbitrated memory x)

abbrev pub is_done_without_grant : Memory → List ℕ → Bool
is_done_without_grant memory x = is_done_ignored memory.served (is_event memory x 2) (is_event memory x 3)

abbrev pub is_repeat_request : Memory → List ℕ → Bool
is_repeat_request memory x =
    is_request_ignored First (is_event memory x 0) (before_requests memory x) || is_request_ignored Second (is_event memory x 1) (after_first_request memory x)
