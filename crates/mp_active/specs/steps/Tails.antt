-- What is taken out of the wheels where modules leave.
use Rattle.std.specs.Prelude.{◌≡◌, ℕ, ◌+◌, ◌<◌, Bool, true, List, All, ◌&&◌}
use Rattle.std.specs.List.{count_by}
use Rattle.mp_netlist.specs.Circuit.{Circuit, IsCircuit}
use Rattle.mp_netlist.specs.Drivers.{driver}
use Rattle.mp_model.specs.Waves.{level}
use Rattle.mp_modules.specs.automata.Codes.{bit}
use Rattle.mp_simulation.specs.declared.units.netlist_simulation.NetlistSimulation.{NetlistSimulation}
use Rattle.mp_simulation.specs.units.DataLevels.{is_data}
use Rattle.mp_simulation.specs.declared.run.stimuli.StimulusChange.{StimulusChange}
use Rattle.mp_active.specs.excerpt.Excerpts.{ArePortsOn}
use Rattle.mp_active.specs.excerpt.Numberings.{Numbering}
use Rattle.mp_active.specs.excerpt.Showing.{Shows}
use Rattle.mp_active.specs.excerpt.Leaving.{is_port_in}
use Rattle.mp_active.specs.steps.Ahead.{is_known}
use Rattle.mp_active.specs.steps.Taking.{AreGone, is_taken, taken_in}

-- the change comes after t, and has the level of its wire, if this has data
pub record IsTail (n : Circuit) (t : ℕ) (c : StimulusChange) : Type 0 where
  pub later : t < c.time
  pub kind : c.has_data ≡ is_data n c.wire
  pub level : c.has_data ≡ true → c.level ≡ level n c.wire c.time

-- these are the changes of the wires of modules that leave after t, as far as they are known, each once
pub record AreTails (n : Circuit) (leaving : ℕ → Bool) (t : ℕ) (changes : List StimulusChange) : Type 0 where
  pub each : (w k : ℕ) → count_by (is_taken w (t + 1 + k)) changes ≡ bit (is_port_in leaving (driver n w) && is_known n t w k)
  pub own : All (IsTail n t) changes

-- these are taken out
abbrev pub TakesTails : Type 0
TakesTails = (n : Circuit) → IsCircuit n → (active on : ℕ → Bool) → ArePortsOn n active on → (numbering : Numbering) (leaving gone : ℕ → Bool) (t units : ℕ) (s : NetlistSimulation) →
    ((m : ℕ) → leaving m ≡ true → active m ≡ true) → AreGone n active leaving gone units → Shows n active on numbering t s → AreTails n leaving t (taken_in gone (t + 1) s units)
