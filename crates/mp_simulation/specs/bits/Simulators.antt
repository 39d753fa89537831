-- Simulators that can go on, whatever they simulate.
use Rattle.std.specs.Prelude.{◌≡◌, ℕ, ◌<◌, ◌≤◌, List, [], All, Some, length, slice_index_or, ◌++◌}
use Rattle.mp_kernel.specs.declared.events.fanout_entry.FanoutEntry.{FanoutEntry}
use Rattle.mp_kernel.specs.declared.events.output_port.OutputPort.{OutputPort}
use Rattle.mp_kernel.specs.declared.events.output_ports.OutputPorts.{OutputPorts}
use Rattle.mp_kernel.specs.events.Adding.{events_for, listed, IsAdding}
use Rattle.mp_kernel.specs.events.Toggling.{row_at, entries_from, CanToggle}
use Rattle.mp_kernel.specs.events.Firing.{UnitState, HaveSlots, AreNumbered}
use Rattle.mp_simulation.specs.declared.bits.simulator.Simulator.{Simulator}

-- the wires that toggle in the next unit, so far as this is known
abbrev pub next_slot : Simulator → List ℕ
next_slot s = slice_index_or s.wheel 0 []

abbrev pub slot_at : Simulator → ℕ → List ℕ
slot_at s k = slice_index_or s.wheel k []

abbrev pub IsBelow : ℕ → OutputPort → Type 0
IsBelow wires port = (w : ℕ) → port.wire ≡ Some w → w < wires

-- the outputs drive wires below a number
pub record AreBelow (wires : ℕ) (ports : OutputPorts) : Type 0 where
  pub first : IsBelow wires ports.first
  pub second : IsBelow wires ports.second
  pub third : IsBelow wires ports.third

-- each state is that of an automaton; a module is due where it has an event, once; each module has levels and outputs, each wire a wave and a row of
-- inputs, which stand at places and have the bits of events; the wheel has a slot for each delay, and each wire in it has a wave
pub record IsSound (s : Simulator) : Type 0 where
  pub units : ℕ → UnitState
  pub numbered : AreNumbered s.states.items units
  pub events : IsAdding s.states.items s.due.items []
  pub levels : length s.levels.items ≡ length s.states.items
  pub outputs : length s.outputs ≡ length s.states.items
  pub rows : length s.waves ≤ length s.fanout
  pub placed : (x : ℕ) → All (λ (l : FanoutEntry). l.module < length s.states.items) (row_at s.fanout x)
  pub eventful : (x : ℕ) → All (λ (l : FanoutEntry). 0 < l.event) (row_at s.fanout x)
  pub some : 0 < length s.wheel
  pub within : All (HaveSlots (length s.wheel)) s.outputs
  pub driven : All (AreBelow (length s.waves)) s.outputs
  pub waved : (w k : ℕ) → length s.waves ≤ w → listed w (slot_at s k) ≡ 0

-- at a time the wires of the next slot and further ones can toggle, and other numbers can be heard: each is there once, their waves are over
-- before, and each input that reads them has had no event
pub record CanApply (s : Simulator) (set others : List ℕ) (time : ℕ) : Type 0 where
  pub waved : All (λ w. w < length s.waves) set
  pub rowed : All (λ x. x < length s.fanout) others
  pub over : CanToggle s.waves (next_slot s ++ set) time
  pub adding : IsAdding s.states.items s.due.items (entries_from s.fanout (next_slot s ++ set) ++ entries_from s.fanout others)

-- where numbers are heard, no input of a place reads one of them but at the places that are due
abbrev pub AreOnlyDue : List (List FanoutEntry) → List ℕ → List ℕ → Type 0
AreOnlyDue rows heard due = (q : ℕ) → listed q due ≡ 0 → events_for q (entries_from rows heard) ≡ 0
