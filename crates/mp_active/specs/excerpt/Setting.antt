-- What is set on the wires of an excerpt in a unit.
use Rattle.std.specs.Prelude.{◌≡◌, ℕ, ◌<◌, Bool, false, true, not, List, All, ◌&&◌}
use Rattle.mp_netlist.specs.declared.driver.Driver.{Driver}
use Rattle.mp_netlist.specs.declared.driver.Driver.TheVariants.{Nothing, Stimulus, Port}
use Rattle.mp_netlist.specs.Circuit.{Circuit, IsCircuit}
use Rattle.mp_netlist.specs.Drivers.{driver}
use Rattle.mp_model.specs.Waves.{level}
use Rattle.mp_modules.specs.automata.Codes.{bit}
use Rattle.mp_kernel.specs.events.Adding.{listed}
use Rattle.mp_simulation.specs.bits.Changes.{change_at}
use Rattle.mp_kernel.specs.declared.datapath.level_change.LevelChange.{LevelChange}
use Rattle.mp_simulation.specs.units.DataLevels.{is_data, is_bit_wire, changes_of}
use Rattle.mp_simulation.specs.units.NetlistSimulations.{AreStimuli}
use Rattle.mp_active.specs.excerpt.Excerpts.{excerpt, ArePortsOn}

-- a stimulus drives the wire, or a module that isn't active
abbrev pub is_outside : (ℕ → Bool) → Driver → Bool
is_outside active Nothing = false
is_outside active Stimulus = true
is_outside active (Port m p) = not (active m.0)

-- these are the changes at a time of the wires that are on and that no active module drives, each once
pub record AreSetOutside (n : Circuit) (active on : ℕ → Bool) (set : List ℕ) (changes : List LevelChange) (time : ℕ) : Type 0 where
  pub bits : (w : ℕ) → listed w set ≡ bit ((change_at n w time && is_bit_wire n w) && (on w && is_outside active (driver n w)))
  pub each : (w : ℕ) → changes_of w changes ≡ bit ((change_at n w time && is_data n w) && (on w && is_outside active (driver n w)))
  pub levels : All (λ (c : LevelChange). c.level ≡ level n c.number time) changes

-- then they are what stimuli change in the excerpt
abbrev pub SetsAreStimuli : Type 0
SetsAreStimuli = (n : Circuit) → IsCircuit n → (active on : ℕ → Bool) → ArePortsOn n active on → (set : List ℕ) (changes : List LevelChange) (time : ℕ) → time < n.horizon →
    AreSetOutside n active on set changes time → AreStimuli (excerpt n active on) set changes time
