-- Modules of width 1 fire: their states go on, and the wires that they drive are scheduled.
use Rattle.std.specs.Prelude.{◌≡◌, ◌≢◌, ℕ, ◌+◌, ◌-◌, ◌<◌, ◌≤◌, Bool, List, [], ◌∷◌, ◌++◌, Option, Some, None, length, slice_index_or, ◌==◌, ◌&&◌, if◌then◌else◌}
use Rattle.std.specs.List.{flat_map, count_by}
use Rattle.mp_modules.specs.declared.automata.automaton.Automaton.{Automaton}
use Rattle.mp_modules.specs.declared.automata.phase.Phase.{Phase}
use Rattle.mp_modules.specs.declared.automata.events.Events.{Events}
use Rattle.mp_modules.specs.declared.automata.reaction.Reaction.{Reaction}
use Rattle.mp_modules.specs.declared.automata.toggles.Toggles.{Toggles}
use Rattle.mp_modules.specs.declared.automata.automaton_state.AutomatonState.{AutomatonState}
use Rattle.mp_modules.specs.automata.Reactions.{react}
use Rattle.mp_modules.specs.automata.Codes.{state_code, no_events}
use Rattle.mp_kernel.specs.declared.events.output_port.OutputPort.{OutputPort}
use Rattle.mp_kernel.specs.declared.events.output_ports.OutputPorts.{OutputPorts}
use Rattle.mp_kernel.specs.events.EventWheels.{with_entry}
use Rattle.mp_kernel.specs.events.Adding.{state_at, listed}

-- the delay of the port is one of the wheel's
pub record HasSlot (units : ℕ) (port : OutputPort) : Type 0 where
  pub some : 0 < port.delay
  pub room : port.delay ≤ units

pub record HaveSlots (units : ℕ) (ports : OutputPorts) : Type 0 where
  pub first : HasSlot units ports.first
  pub second : HasSlot units ports.second
  pub third : HasSlot units ports.third

-- the wheel with these events: how many units after the next, and the wire
abbrev pub scheduled : List (List ℕ) → List (ℕ × ℕ) → List (List ℕ)
scheduled slots [] = slots
scheduled slots (entry ∷ entries) = scheduled (with_entry slots entry.0 entry.1) entries

abbrev pub entry_at : Option ℕ → ℕ → List (ℕ × ℕ)
entry_at None delay = []
entry_at (Some wire) delay = (delay - 1, wire) ∷ []

abbrev pub entry_of : OutputPort → List (ℕ × ℕ)
entry_of port = entry_at port.wire port.delay

abbrev pub entry_if : Bool → OutputPort → List (ℕ × ℕ)
entry_if toggles port = if toggles then entry_of port else []

-- what is scheduled where these outputs toggle
abbrev pub fired_at : OutputPorts → Toggles → List (ℕ × ℕ)
fired_at ports t = entry_if t.first ports.first ++ entry_if t.second ports.second ++ entry_if t.third ports.third

abbrev pub no_port : OutputPort
no_port = record { wire = None; delay = 1 }

abbrev pub ports_at : List OutputPorts → ℕ → OutputPorts
ports_at ports m = slice_index_or ports m (record { first = no_port; second = no_port; third = no_port })

-- a state within a unit, before anything fires
pub record UnitState : Type 0 where
  pub automaton : Automaton
  pub phase : Phase
  pub events : Events

abbrev pub number_of : UnitState → ℕ
number_of c = state_code c.automaton c.phase c.events

abbrev pub reaction : UnitState → Reaction
reaction c = react c.automaton c.phase c.events

abbrev pub next_state : UnitState → AutomatonState
next_state c = record { 0 = state_code c.automaton (reaction c).phase no_events }

abbrev pub events_of : UnitState → OutputPorts → List (ℕ × ℕ)
events_of c ports = fired_at ports (reaction c).toggles

abbrev pub AreNumbered : List AutomatonState → (ℕ → UnitState) → Type 0
AreNumbered states state_of = (m : ℕ) → m < length states → state_at states m ≡ number_of (state_of m)

-- the states of these modules have gone on
abbrev pub HaveFired : (ℕ → UnitState) → List ℕ → List AutomatonState → List AutomatonState → Type 0
HaveFired state_of due states new =
    (m : ℕ) → m < length states → state_at new m ≡ (if listed m due == 0 then state_at states m else (next_state (state_of m)).0)

-- what these modules schedule
abbrev pub fired_by : (ℕ → UnitState) → List OutputPorts → List ℕ → List (ℕ × ℕ)
fired_by state_of ports due = flat_map (λ m. events_of (state_of m) (ports_at ports m)) due

abbrev pub copy_at : List OutputPort → ℕ → OutputPort
copy_at copies w = slice_index_or copies w no_port

-- what the next delayed copies of these wires schedule
abbrev pub copied_from : List OutputPort → List ℕ → List (ℕ × ℕ)
copied_from copies wires = flat_map (λ w. entry_of (copy_at copies w)) wires

-- all states but one are as they were
pub record StayElse (own : ℕ) (states new : List AutomatonState) : Type 0 where
  pub placed : length new ≡ length states
  pub each : (m : ℕ) → m ≢ own → state_at new m ≡ state_at states m

-- the entry is of this wire, so many units after the next
abbrev pub is_entry : ℕ → ℕ → ℕ × ℕ → Bool
is_entry k w entry = entry.0 == k && entry.1 == w

-- a wire is in a slot as often as before, and once for each of its entries there
abbrev pub SchedulesEach : Type 0
SchedulesEach = (slots : List (List ℕ)) (entries : List (ℕ × ℕ)) (k w : ℕ) → k < length slots →
    listed w (slice_index_or (scheduled slots entries) k []) ≡ listed w (slice_index_or slots k []) + count_by (is_entry k w) entries
