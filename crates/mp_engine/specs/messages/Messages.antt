-- What parts of a netlist tell each other.
use Rattle.std.specs.Prelude.{◌≡◌, ℕ, ◌+◌, ◌≤◌, ◌<◌, Bool, true, false, List, [], ◌∷◌, ◌++◌, All, ◌&&◌, if◌then◌else◌}
use Rattle.std.specs.List.{count_by}
use Rattle.mp_netlist.specs.Circuit.{Circuit, IsCircuit, Drives}
use Rattle.mp_kernel.specs.events.Adding.{listed}
use Rattle.mp_simulation.specs.bits.Changes.{change_at}
use Rattle.mp_kernel.specs.declared.datapath.level_change.LevelChange.{LevelChange}
use Rattle.mp_simulation.specs.declared.units.netlist_simulation.NetlistSimulation.{NetlistSimulation}
use Rattle.mp_simulation.specs.units.NetlistSimulations.{IsSimulated}
use Rattle.mp_simulation.specs.declared.run.stimuli.StimulusChange.{StimulusChange}
use Rattle.mp_simulation.specs.run.Stimuli.{is_change, IsSetting}
use Rattle.mp_partition.specs.runs.Marks.{is_marked}
use Rattle.mp_partition.specs.regions.Regions.{partition_of, region}
use Rattle.mp_partition.specs.regions.Divisions.{heard_by, IsCrossing, IsDivision}
use Rattle.mp_engine.specs.declared.messages.message.Window.{Window}

-- they are the changes, from a time to before another, of the wires that are heard and that are at home in one of these parts, each once
pub record AreTold (n : Circuit) (wires : List ℕ) (heard : List Bool) (bys : List ℕ) (window : Window) (ss : List StimulusChange) : Type 0 where
  pub later : All (λ (s : StimulusChange). window.from ≤ s.time) ss
  pub before : All (λ (s : StimulusChange). s.time < window.until) ss
  pub heard_alone : All (λ (s : StimulusChange). is_marked heard s.wire ≡ true) ss
  pub each : (w u : ℕ) → window.from ≤ u → u < window.until → count_by (is_change w u) ss ≡ (if change_at n w u && is_marked heard w then listed (partition_of wires w) bys else 0)
  pub set : All (IsSetting n) ss

-- the simulation of a part has come to the time before, and knows all that the part's modules do in units of a window
pub record KnowsAhead (n : Circuit) (wires : List ℕ) (heards : List (List Bool)) (by : ℕ) (window : Window) (s : NetlistSimulation) : Type 0 where
  pub homes : List ℕ
  pub parts : ℕ
  pub form : IsCircuit n
  pub division : IsDivision n homes wires heards parts
  pub before : ℕ
  pub from : window.from ≡ before + 1
  pub some : window.from ≤ window.until
  pub delay : ℕ
  pub crossing : IsCrossing n heards delay
  pub short : window.until ≤ window.from + delay
  pub within : window.until ≤ n.horizon
  pub simulated : IsSimulated (region n homes by (heard_by heards by)) before s

-- of each wire that is heard and that a port drives, just one line tells
abbrev pub IsToldOnce : Circuit → List ℕ → List Bool → List ℕ → Type 0
IsToldOnce n wires heard bys = (m p w : ℕ) → Drives n m p w → is_marked heard w ≡ true → listed (partition_of wires w) bys ≡ 1

-- what is told of wires of width 1 that toggle at a time: of those that are marked
abbrev pub toggles_told : List Bool → ℕ → List ℕ → List StimulusChange
toggles_told heard time [] = []
toggles_told heard time (w ∷ ws) = (if is_marked heard w then record { time = time; wire = w; has_data = false; level = 0 } ∷ [] else []) ++ toggles_told heard time ws

-- and of wires with data
abbrev pub levels_told : List Bool → ℕ → List LevelChange → List StimulusChange
levels_told heard time [] = []
levels_told heard time (c ∷ cs) = (if is_marked heard c.number then record { time = time; wire = c.number; has_data = true; level = c.level } ∷ [] else []) ++ levels_told heard time cs
