-- Which events the input ports of a module of width 1 have where wires toggle.
use Rattle.std.specs.Prelude.{◌≡◌, ℕ, ◌+◌, ◌*◌, ◌≤◌, List, [], ◌∷◌, length, ◌==◌, if◌then◌else◌, zero, suc}
use Rattle.mp_modules.specs.declared.automata.events.Events.{Events}
use Rattle.mp_modules.specs.automata.Codes.{bit, events_code}
use Rattle.mp_kernel.specs.declared.events.fanout_entry.FanoutEntry.{FanoutEntry}
use Rattle.mp_kernel.specs.events.Adding.{events_for, listed}
use Rattle.mp_kernel.specs.events.Toggling.{row_at, entries_from}

-- the bits of those ports that read a wire, the first port having this bit: the ports are told by the wires that they read
abbrev pub weight : ℕ → List ℕ → ℕ → ℕ
weight unit [] w = 0
weight unit (port ∷ ports) w = (if port == w then unit else 0) + weight (unit * 2) ports w

-- the rows have just the ports of a module
pub record HasPorts (rows : List (List FanoutEntry)) (m : ℕ) (ports : List ℕ) : Type 0 where
  pub few : length ports ≤ 4
  pub each : (w : ℕ) → events_for m (row_at rows w) ≡ weight 1 ports w

-- how often the wire of a port is among these, 0 where there is no such port
abbrev pub listed_at : List ℕ → ℕ → List ℕ → ℕ
listed_at [] p wires = 0
listed_at (port ∷ ports) zero wires = listed port wires
listed_at (port ∷ ports) (suc p) wires = listed_at ports p wires

-- these ports have an event where their wires are among these
pub record AreEvents (ports wires : List ℕ) (e : Events) : Type 0 where
  pub first : listed_at ports 0 wires ≡ bit e.first
  pub second : listed_at ports 1 wires ≡ bit e.second
  pub third : listed_at ports 2 wires ≡ bit e.third
  pub fourth : listed_at ports 3 wires ≡ bit e.fourth

-- what wires that toggle add to a module is the number of its events
abbrev pub EventsAddUp : Type 0
EventsAddUp = (rows : List (List FanoutEntry)) (m : ℕ) (ports wires : List ℕ) (e : Events) → HasPorts rows m ports → AreEvents ports wires e →
    events_for m (entries_from rows wires) ≡ events_code e
