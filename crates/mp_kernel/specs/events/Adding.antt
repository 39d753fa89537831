-- Events are added to modules of width 1: a state within a unit is the state before it and the sum of the bits of its events.
use Rattle.std.specs.Prelude.{◌≡◌, ℕ, ◌+◌, ◌%◌, ◌<◌, List, All, length, slice_index_or, ◌==◌, if◌then◌else◌}
use Rattle.std.specs.List.{sum_by, count_by}
use Rattle.mp_modules.specs.declared.automata.automaton_state.AutomatonState.{AutomatonState}
use Rattle.mp_kernel.specs.declared.events.fanout_entry.FanoutEntry.{FanoutEntry}

abbrev pub state_at : List AutomatonState → ℕ → ℕ
state_at states m = (slice_index_or states m (record { 0 = 0 })).0

-- the bit that an entry adds to a module
abbrev pub event_for : ℕ → FanoutEntry → ℕ
event_for m l = if l.module == m then l.event else 0

-- what entries add to a module together
abbrev pub events_for : ℕ → List FanoutEntry → ℕ
events_for m entries = sum_by (event_for m) entries

pub record AreAdded (states new : List AutomatonState) (entries : List FanoutEntry) : Type 0 where
  pub each : (m : ℕ) → state_at new m ≡ state_at states m + events_for m entries

-- how often a module is listed
abbrev pub listed : ℕ → List ℕ → ℕ
listed m due = count_by (λ d. d == m) due

-- these are still to be added: each has a module and an event, and the events of a module stay below the next state; a module is listed
-- once where it has had an event, and else never
pub record IsAdding (states : List AutomatonState) (due : List ℕ) (rest : List FanoutEntry) : Type 0 where
  pub placed : All (λ (l : FanoutEntry). l.module < length states) rest
  pub events : All (λ (l : FanoutEntry). 0 < l.event) rest
  pub low : (m : ℕ) → state_at states m < 2112
  pub room : (m : ℕ) → state_at states m % 16 + events_for m rest < 16
  pub once : (m : ℕ) → listed m due ≡ (if state_at states m % 16 == 0 then 0 else 1)
