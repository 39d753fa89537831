-- What the event modules do with events, where `x` are any levels at their inputs over time. Events are counted up to a time; ports from 0.
use Rattle.std.specs.Prelude.{◌≡◌, ◌≢◌, ℕ, ◌+◌, ◌/◌, ◌≤◌, List, zero, suc, Bool, false, ◌&&◌, ◌||◌, IsTrue, if◌then◌else◌}
use Rattle.mp_modules.specs.declared.core_module.CoreModule.TheVariants.{C, Toggle, Select, Call, Arbiter}
use Rattle.mp_modules.specs.declared.memory.Client.TheVariants.{First, Second}
use Rattle.mp_modules.specs.declared.rendezvous.Rendezvous.{Rendezvous}
use Rattle.mp_modules.specs.CElement.{bubbled}
use Rattle.mp_modules.specs.Clients.{is_free, is_same, waits}
use Rattle.mp_modules.specs.Arbiter.{is_owner_done}
use Rattle.mp_modules.specs.Histories.{FindsNothing, state_at, has_event, events, input, output, served}

-- TOGGLE, with the outputs dot and blank: dot has had half of the input's events, rounded up
abbrev pub DotHasHalfUp : Type 0
DotHasHalfUp = (x : ℕ → List ℕ) (t : ℕ) → events (output Toggle x 0) t ≡ (events (input x 0) t + 1) / 2

-- and blank half of them, rounded down
abbrev pub BlankHasHalfDown : Type 0
BlankHasHalfDown = (x : ℕ → List ℕ) (t : ℕ) → events (output Toggle x 1) t ≡ events (input x 0) t / 2

-- C: its output has an event only where both inputs, behind their bubbles, have its new level
abbrev pub ChangesWhereInputsAgree : Type 0
ChangesWhereInputsAgree = (c : Rendezvous) (x : ℕ → List ℕ) (t : ℕ) → IsTrue (has_event (output (C c) x 0) t) →
    (bubbled c.bubble_a (input x 0 t) ≡ output (C c) x 0 t) × (bubbled c.bubble_b (input x 1 t) ≡ output (C c) x 0 t)

-- and where they agree it has their level
abbrev pub HasAgreedLevel : Type 0
HasAgreedLevel = (c : Rendezvous) (x : ℕ → List ℕ) (t : ℕ) →
    bubbled c.bubble_a (input x 0 t) ≡ bubbled c.bubble_b (input x 1 t) → output (C c) x 0 t ≡ bubbled c.bubble_a (input x 0 t)

-- SELECT, with the inputs a and diamond and the outputs true and false: the outputs together have had as many events as a
abbrev pub HasEachEvent : Type 0
HasEachEvent = (x : ℕ → List ℕ) (t : ℕ) → events (output Select x 0) t + events (output Select x 1) t ≡ events (input x 0) t

-- true has an event only where the diamond is 1
abbrev pub TrueWhereDiamondIsOne : Type 0
TrueWhereDiamondIsOne = (x : ℕ → List ℕ) (t : ℕ) → IsTrue (has_event (output Select x 0) t) → input x 1 t ≡ 1

-- and false only where it isn't
abbrev pub FalseWhereDiamondIsNot : Type 0
FalseWhereDiamondIsNot = (x : ℕ → List ℕ) (t : ℕ) → IsTrue (has_event (output Select x 1) t) → input x 1 t ≢ 1

-- CALL, with the inputs r1, r2 and d and the outputs r, d1 and d2: r has had as many events as d1 and d2 together, and one more while a client is served
abbrev pub HasOnePending : Type 0
HasOnePending = (x : ℕ → List ℕ) (t : ℕ) →
    events (output Call x 0) t ≡ events (output Call x 1) t + events (output Call x 2) t + (if is_free (served Call x t) then 0 else 1)

-- d1 has had at most as many events as r1, and d2 as r2
abbrev pub ReturnsToAskers : Type 0
ReturnsToAskers = (x : ℕ → List ℕ) (t : ℕ) →
    (events (output Call x 1) t ≤ events (input x 0) t) × (events (output Call x 2) t ≤ events (input x 1) t)

-- where nothing was found, just as many, but for one request of the client that is served
abbrev pub ServesEachRequest : Type 0
ServesEachRequest = (x : ℕ → List ℕ) (t : ℕ) → FindsNothing Call x t →
    (events (input x 0) t ≡ events (output Call x 1) t + (if is_same First (served Call x t) then 1 else 0))
    × (events (input x 1) t ≡ events (output Call x 2) t + (if is_same Second (served Call x t) then 1 else 0))

-- and d1 and d2 together have had as many events as d
abbrev pub ReturnsEachDone : Type 0
ReturnsEachDone = (x : ℕ → List ℕ) (t : ℕ) → FindsNothing Call x t →
    events (input x 2) t ≡ events (output Call x 1) t + events (output Call x 2) t

-- ARBITER, with the inputs r1, r2, d1 and d2 and the outputs g1 and g2: a port is granted in a unit
abbrev pub is_grant : (ℕ → List ℕ) → ℕ → Bool
is_grant x t = has_event (output Arbiter x 0) t || has_event (output Arbiter x 1) t

-- no more than one port is
abbrev pub GrantsOneAUnit : Type 0
GrantsOneAUnit = (x : ℕ → List ℕ) (t : ℕ) → (has_event (output Arbiter x 0) t && has_event (output Arbiter x 1) t) ≡ false

-- and only where nobody owned one unit before, or the owner's done event comes in this unit
abbrev pub may_grant : (ℕ → List ℕ) → ℕ → Bool
may_grant x zero = false
may_grant x (suc t) =
    is_free (served Arbiter x t) || is_owner_done (served Arbiter x t) (has_event (input x 2) (suc t)) (has_event (input x 3) (suc t))

abbrev pub GrantsWhileFree : Type 0
GrantsWhileFree = (x : ℕ → List ℕ) (t : ℕ) → IsTrue (is_grant x t) → IsTrue (may_grant x t)

-- the port that is granted owns then
abbrev pub OwnsFromGrant : Type 0
OwnsFromGrant = (x : ℕ → List ℕ) (t : ℕ) →
    (IsTrue (has_event (output Arbiter x 0) t) → served Arbiter x t ≡ First)
    × (IsTrue (has_event (output Arbiter x 1) t) → served Arbiter x t ≡ Second)

-- each port has had at most as many grants as done events, and one more while it owns
abbrev pub EndsEachGrant : Type 0
EndsEachGrant = (x : ℕ → List ℕ) (t : ℕ) →
    (events (output Arbiter x 0) t ≤ events (input x 2) t + (if is_same First (served Arbiter x t) then 1 else 0))
    × (events (output Arbiter x 1) t ≤ events (input x 3) t + (if is_same Second (served Arbiter x t) then 1 else 0))

-- and at most as many as requests
abbrev pub AsksEachGrant : Type 0
AsksEachGrant = (x : ℕ → List ℕ) (t : ℕ) →
    (events (output Arbiter x 0) t ≤ events (input x 0) t) × (events (output Arbiter x 1) t ≤ events (input x 1) t)

-- where nothing was found, just as many as requests but for one that waits
abbrev pub GrantsEachRequest : Type 0
GrantsEachRequest = (x : ℕ → List ℕ) (t : ℕ) → FindsNothing Arbiter x t →
    (events (input x 0) t ≡ events (output Arbiter x 0) t + (if waits First (state_at Arbiter x t).waiting then 1 else 0))
    × (events (input x 1) t ≡ events (output Arbiter x 1) t + (if waits Second (state_at Arbiter x t).waiting then 1 else 0))

-- and just as many as done events but for one while it owns
abbrev pub EndsEachGrantOnce : Type 0
EndsEachGrantOnce = (x : ℕ → List ℕ) (t : ℕ) → FindsNothing Arbiter x t →
    (events (output Arbiter x 0) t ≡ events (input x 2) t + (if is_same First (served Arbiter x t) then 1 else 0))
    × (events (output Arbiter x 1) t ≡ events (input x 3) t + (if is_same Second (served Arbiter x t) then 1 else 0))

-- nobody waits while nobody owns
abbrev pub NobodyWaitsWhileFree : Type 0
NobodyWaitsWhileFree = (x : ℕ → List ℕ) (t : ℕ) → IsTrue (is_free (served Arbiter x t)) →
    (waits First (state_at Arbiter x t).waiting || waits Second (state_at Arbiter x t).waiting) ≡ false
