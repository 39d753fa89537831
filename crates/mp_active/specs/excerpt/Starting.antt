-- Before the first unit nothing has changed, so it doesn't matter which wires are on.
use Rattle.std.specs.Prelude.{◌≡◌, ℕ, Bool, true, List, ◌==◌}
use Rattle.mp_netlist.specs.Circuit.{Circuit, IsCircuit}
use Rattle.mp_netlist.specs.Drivers.{driver}
use Rattle.mp_partition.specs.runs.Marks.{is_marked}
use Rattle.mp_partition.specs.regions.Regions.{partition_of, region}
use Rattle.mp_simulation.specs.declared.units.netlist_simulation.NetlistSimulation.{NetlistSimulation}
use Rattle.mp_simulation.specs.units.NetlistSimulations.{IsSimulated}
use Rattle.mp_active.specs.excerpt.Excerpts.{is_followed, excerpt, ArePortsOn}
use Rattle.mp_active.specs.excerpt.Numberings.{Numbering}
use Rattle.mp_active.specs.excerpt.Showing.{Shows}

-- what a simulation has with some wires on it has with any others on
abbrev pub StartsShow : Type 0
StartsShow = (n : Circuit) → IsCircuit n → (active on other : ℕ → Bool) → ArePortsOn n active on → ArePortsOn n active other → (numbering : Numbering) (s : NetlistSimulation) →
    Shows n active on numbering 0 s → Shows n active other numbering 0 s

abbrev pub StartsAreSimulated : Type 0
StartsAreSimulated = (n : Circuit) → IsCircuit n → (active on other : ℕ → Bool) → ArePortsOn n active on → ArePortsOn n active other → (s : NetlistSimulation) →
    IsSimulated (excerpt n active on) 0 s → IsSimulated (excerpt n active other) 0 s

-- a part that hears each wire that a module elsewhere drives is the excerpt of its modules in which all wires are on
abbrev pub RegionsAreExcerpts : Type 0
RegionsAreExcerpts = (n : Circuit) (homes : List ℕ) (part : ℕ) (heard : List Bool) →
    ((w : ℕ) → is_marked heard w ≡ is_followed (λ m. partition_of homes m == part) (driver n w)) →
    region n homes part heard ≡ excerpt n (λ m. partition_of homes m == part) (λ w. true)
