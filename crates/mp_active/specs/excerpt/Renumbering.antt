-- The numbers of a simulation are told by its rows and by what stands next after each number.
use Rattle.std.specs.Prelude.{ℕ, ◌<◌, Bool}
use Rattle.mp_netlist.specs.Circuit.{Circuit, IsCircuit}
use Rattle.mp_simulation.specs.declared.units.netlist_simulation.NetlistSimulation.{NetlistSimulation}
use Rattle.mp_simulation.specs.units.NetlistSimulations.{IsSimulated, HasKeptNumbers}
use Rattle.mp_active.specs.excerpt.Excerpts.{excerpt, ArePortsOn}
use Rattle.mp_active.specs.excerpt.Numberings.{Numbering}
use Rattle.mp_active.specs.excerpt.Showing.{Shows}

-- a simulation that keeps its numbers has the netlist in the same numbering as before
abbrev pub NumbersStay : Type 0
NumbersStay = (n : Circuit) → IsCircuit n → (active on : ℕ → Bool) (numbering other : Numbering) (t u : ℕ) (s new : NetlistSimulation) →
    Shows n active on numbering t s → Shows n active on other u new → HasKeptNumbers s new → Shows n active on numbering u new

-- so it is where units are gone through
abbrev pub UnitsShow : Type 0
UnitsShow = (n : Circuit) → IsCircuit n → (active on : ℕ → Bool) → ArePortsOn n active on → (numbering : Numbering) (t u : ℕ) (s new : NetlistSimulation) → u < n.horizon →
    Shows n active on numbering t s → IsSimulated (excerpt n active on) u new → HasKeptNumbers s new → Shows n active on numbering u new
