-- What stimuli set, by time.
use Rattle.std.specs.Prelude.{◌≡◌, ℕ, ◌+◌, ◌<◌, ◌≤◌, Bool, true, List, [], ◌∷◌, ◌++◌, All, drop, ◌==◌, ◌&&◌, if◌then◌else◌}
use Rattle.std.specs.List.{count_by}
use Rattle.std.specs.List.Sorted.{IsNonDecreasingBy}
use Rattle.mp_netlist.specs.Circuit.{Circuit}
use Rattle.mp_netlist.specs.Drivers.{driver}
use Rattle.mp_model.specs.Waves.{level}
use Rattle.mp_modules.specs.automata.Codes.{bit}
use Rattle.mp_simulation.specs.bits.Changes.{change_at}
use Rattle.mp_simulation.specs.bits.WholeRuns.{is_stimulus}
use Rattle.mp_kernel.specs.declared.datapath.level_change.LevelChange.{LevelChange}
use Rattle.mp_simulation.specs.units.DataLevels.{is_data}
use Rattle.mp_simulation.specs.units.NetlistSimulations.{AreStimuli}
use Rattle.mp_simulation.specs.declared.run.stimuli.StimulusChange.{StimulusChange}
use Rattle.mp_simulation.specs.declared.run.stimuli.Stimuli.{Stimuli}
use Rattle.mp_simulation.specs.declared.run.stimuli.HeardChanges.{HeardChanges}

abbrev pub change_of : ℕ → Bool → ℕ × ℕ → StimulusChange
change_of w has_data change = record { time = change.0; wire = w; has_data = has_data; level = change.1 }

-- the changes at which a level is set to another one
abbrev pub set_changes : ℕ → List (ℕ × ℕ) → List (ℕ × ℕ)
set_changes level [] = []
set_changes level (change ∷ changes) = if level == change.1 then set_changes change.1 changes else change ∷ set_changes change.1 changes

-- those that are to come
abbrev pub rest_of : Stimuli → List StimulusChange
rest_of stimuli = drop stimuli.place stimuli.list.items

abbrev pub left_of : HeardChanges → List StimulusChange
left_of heard = drop heard.place heard.list.items

-- the wire of a change, if it has width 1
abbrev pub bits_of : StimulusChange → List ℕ
bits_of s = if s.has_data then [] else s.wire ∷ []

-- the wire of a change with its level, if it has data
abbrev pub levels_of : StimulusChange → List LevelChange
levels_of s = if s.has_data then record { number = s.wire; level = s.level } ∷ [] else []

-- the wires of width 1 that change at a time, which comes first
abbrev pub bits_at : ℕ → List StimulusChange → List ℕ
bits_at time [] = []
bits_at time (s ∷ ss) = if s.time == time then bits_of s ++ bits_at time ss else []

-- and those with data
abbrev pub levels_at : ℕ → List StimulusChange → List LevelChange
levels_at time [] = []
levels_at time (s ∷ ss) = if s.time == time then levels_of s ++ levels_at time ss else []

abbrev pub changes_after : ℕ → List StimulusChange → List StimulusChange
changes_after time [] = []
changes_after time (s ∷ ss) = if s.time == time then changes_after time ss else s ∷ ss

-- by time, from a first time on
abbrev pub AreFrom : ℕ → List StimulusChange → Type 0
AreFrom time [] = Unit {0}
AreFrom time (s ∷ ss) = (time ≤ s.time) × AreFrom s.time ss

abbrev pub AreInOrder : List StimulusChange → Type 0
AreInOrder ss = IsNonDecreasingBy (λ (s : StimulusChange). s.time) ss

abbrev pub is_change : ℕ → ℕ → StimulusChange → Bool
is_change w time s = s.wire == w && s.time == time

-- the change is told by whether its wire has data, and where it has, the wire has the level then
pub record IsSetting (n : Circuit) (s : StimulusChange) : Type 0 where
  pub sort : s.has_data ≡ is_data n s.wire
  pub level : s.has_data ≡ true → s.level ≡ level n s.wire s.time

-- they are the changes after t of all wires with a stimulus, each once
pub record AreAhead (n : Circuit) (t : ℕ) (ss : List StimulusChange) : Type 0 where
  pub listed : AreFrom (t + 1) ss
  pub each : (w u : ℕ) → t < u → count_by (is_change w u) ss ≡ bit (change_at n w u && is_stimulus (driver n w))
  pub set : All (IsSetting n) ss

-- after the unit that follows t has begun
pub record Advances (n : Circuit) (t : ℕ) (stimuli : Stimuli) : Type 0 where
  pub present : AreStimuli n stimuli.bits.items stimuli.levels.items (t + 1)
  pub ahead : AreAhead n (t + 1) (rest_of stimuli)
