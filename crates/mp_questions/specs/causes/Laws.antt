-- What causes, chains and shares satisfy.
use Rattle.std.specs.Prelude.{◌≡◌, ℕ, ◌+◌, ◌<◌, true, List, [], ◌∷◌, All, length, max, Some, IsSome}
use Rattle.std.specs.List.{sum_by}
use Rattle.mp_modules.specs.Histories.{has_event}
use Rattle.mp_records.specs.declared.ids.WireId.{WireId}
use Rattle.mp_netlist.specs.Circuit.{Circuit, IsCircuit, stimulus_at}
use Rattle.mp_model.specs.Waves.{level}
use Rattle.mp_questions.specs.declared.causes.wire_change.WireChange.{WireChange}
use Rattle.mp_questions.specs.declared.causes.input_event.InputEvent.{InputEvent}
use Rattle.mp_questions.specs.declared.causes.module_share.ModuleShare.{ModuleShare}
use Rattle.mp_questions.specs.declared.causes.moment.Moment.{Moment}
use Rattle.mp_questions.specs.causes.Changes.{last_change}
use Rattle.mp_questions.specs.timing.Ranges.{read_time}
use Rattle.mp_questions.specs.causes.Causes.{Cause, Outside, Start, Events, cause_of}
use Rattle.mp_questions.specs.causes.Chains.{chain, begin_of}
use Rattle.mp_questions.specs.causes.Paths.{path}
use Rattle.mp_questions.specs.causes.Shares.{shares_above}

-- a wire has a new level at a time from 1 on
pub record IsChange (n : Circuit) (c : WireChange) : Type 0 where
  pub differs : has_event (level n c.wire.0) c.time ≡ true
  pub level_is : c.level ≡ level n c.wire.0 c.time

-- an event is a change at a time from 1 on, and before the change that it causes
pub record IsEarlier (n : Circuit) (t : ℕ) (e : InputEvent) : Type 0 where
  pub change : IsChange n e.change
  pub from : 0 < e.change.time
  pub before : e.change.time < t

-- what a cause tells of a change: a stimulus stands, the delay of the port is over just then, or there are events, each before the change
abbrev pub Explains : Circuit → WireChange → Cause → Type 0
Explains n c Outside = IsSome (stimulus_at n c.wire.0)
Explains n c (Start g) = c.time ≡ g.delay
Explains n c (Events g es) = (g.delay < c.time) × (0 < length es) × All (IsEarlier n c.time) es

-- every change has a cause
abbrev pub HasCause : Type 0
HasCause = (n : Circuit) → IsCircuit n → (c : WireChange) → IsChange n c → Explains n c (cause_of n c)

-- a list of changes, each later than the one behind it
abbrev pub AreFalling : List WireChange → Type 0
AreFalling [] = Unit {0}
AreFalling (c ∷ []) = Unit {0}
AreFalling (c ∷ d ∷ cs) = (d.time < c.time) × AreFalling (d ∷ cs)

-- the times of a chain fall, and all of it are changes
abbrev pub TimesFall : Type 0
TimesFall = (n : Circuit) → IsCircuit n → (wire : WireId) (t : ℕ) → AreFalling (chain n wire t) × All (IsChange n) (chain n wire t)

-- a cause from which a chain doesn't go on
abbrev pub IsFirst : Cause → Type 0
IsFirst Outside = Unit {0}
IsFirst (Start g) = Unit {0}
IsFirst (Events g es) = ⊥

abbrev pub IsWhole : Circuit → List WireChange → Type 0
IsWhole n [] = Unit {0}
IsWhole n (c ∷ []) = IsFirst (cause_of n c)
IsWhole n (c ∷ d ∷ cs) = IsWhole n (d ∷ cs)

-- a chain goes back to a stimulus or a start
abbrev pub GoesBack : Type 0
GoesBack = (n : Circuit) → IsCircuit n → (wire : WireId) (t : ℕ) → IsWhole n (chain n wire t)

-- the units of all shares are the time from the begin of the chain to its last change
abbrev pub AddsUp : Type 0
AddsUp = (n : Circuit) → IsCircuit n → (moment : Moment) (c : WireChange) → last_change n moment.wire (read_time n.horizon moment.time) ≡ Some c →
    begin_of n (chain n moment.wire (read_time n.horizon moment.time)) + sum_by (λ (s : ModuleShare). s.units) (path n moment) ≡ c.time

-- those above a time are the time from there, or from the begin of the chain, whichever is later, to its last change; none where that isn't above it
abbrev pub AddsUpAbove : Type 0
AddsUpAbove = (n : Circuit) → IsCircuit n → (moment : Moment) (from : ℕ) (c : WireChange) → last_change n moment.wire (read_time n.horizon moment.time) ≡ Some c →
    max from (begin_of n (chain n moment.wire (read_time n.horizon moment.time)))
    + sum_by (λ (s : ModuleShare). s.units) (shares_above n from (chain n moment.wire (read_time n.horizon moment.time))) ≡ max from c.time
