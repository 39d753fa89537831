-- A further unit with the same input levels changes nothing in an arbiter: nobody waits where nobody owns.
use Rattle.std.specs.Prelude.{◌≡◌, ℕ, Bool, true, false, List, slice_index, refl}
use Rattle.std.proofs.Common.{ap}
use Rattle.mp_modules.specs.declared.memory.Client.{Client}
use Rattle.mp_modules.specs.declared.memory.Client.TheVariants.{Nobody, First, Second}
use Rattle.mp_modules.specs.declared.memory.Memory.{Memory}
use Rattle.mp_modules.specs.Memories.{is_event, seen}
use Rattle.mp_modules.specs.Quiet.{unchanged}
use Rattle.mp_modules.specs.Arbiter.{is_owner_done, released, promoted, requested, before_requests, after_first_request, arbitrated, arbiter_step}

abbrev pub promotes : Client → Bool → Bool → Bool
promotes Nobody true second = true
promotes Nobody false second = second
promotes _ first second = false

-- nobody waits where nobody owns
abbrev pub IsServed : Memory → Type 0
IsServed m = promotes m.served m.waiting.first m.waiting.second ≡ false

abbrev pub at : Memory → Client → Bool → Bool → Memory
at m client first second = record m { served = client; waiting = record { first = first; second = second } }

served_promote : (m : Memory) (client : Client) (a b : Bool) → IsServed (promoted (at m client a b))
served_promote m First a b = refl
served_promote m Second a b = refl
served_promote m Nobody true b = refl
served_promote m Nobody false true = refl
served_promote m Nobody false false = refl

served_request : (port : Client) (event : Bool) (m : Memory) (client : Client) (a b : Bool) → IsServed (at m client a b) → IsServed (requested port event (at m client a b))
served_request port false m client a b served = served
served_request Nobody true m Nobody a b served = served
served_request Nobody true m First a b served = refl
served_request Nobody true m Second a b served = refl
served_request First true m First a b served = refl
served_request First true m Second true b served = refl
served_request First true m Second false b served = refl
served_request First true m Nobody true b served = served
served_request First true m Nobody false true served = refl
served_request First true m Nobody false false served = refl
served_request Second true m Second a b served = refl
served_request Second true m First a true served = refl
served_request Second true m First a false served = refl
served_request Second true m Nobody a true served = served
served_request Second true m Nobody true false served = refl
served_request Second true m Nobody false false served = refl

promote_served : (m : Memory) (client : Client) (a b : Bool) → IsServed (at m client a b) → promoted (at m client a b) ≡ at m client a b
promote_served m First a b served = refl
promote_served m Second a b served = refl
promote_served m Nobody true b served = cc
promote_served m Nobody false true served = cc
promote_served m Nobody false false served = refl

not_done : (client : Client) → is_owner_done client false false ≡ false
not_done Nobody = refl
not_done First = refl
not_done Second = refl

none_released : (m : Memory) → released false false m ≡ m
none_released m = rw (not_done m.served) refl

pub arbitrated_served : (m : Memory) (x : List ℕ) → IsServed (arbitrated m x)
arbitrated_served m x =
    let a = released (is_event m x 2) (is_event m x 3) m in
    let b = before_requests m x in
    let c = after_first_request m x in
    let in_b : IsServed b = served_promote a a.served a.waiting.first a.waiting.second in
    let in_c : IsServed c = served_request First (is_event m x 0) b b.served b.waiting.first b.waiting.second in_b in
    served_request Second (is_event m x 1) c c.served c.waiting.first c.waiting.second in_c

-- where there is no event
quiet : (m : Memory) → IsServed m → requested Second false (requested First false (promoted (released false false m))) ≡ m
quiet m served = rw (none_released m) (promote_served m m.served m.waiting.first m.waiting.second served)

pub stays_after : (x : List ℕ) (m : Memory) → IsServed m → arbiter_step (seen x m) x ≡ seen x m
stays_after x m served =
    rw (unchanged (slice_index x 0), unchanged (slice_index x 1), unchanged (slice_index x 2), unchanged (slice_index x 3))
    (ap (seen x) (quiet (seen x m) served))

pub arbiter_stays : (m : Memory) (x : List ℕ) → arbiter_step (arbiter_step m x) x ≡ arbiter_step m x
arbiter_stays m x = stays_after x (arbitrated m x) (arbitrated_served m x)
