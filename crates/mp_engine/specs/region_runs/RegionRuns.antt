-- The run of a part of a netlist on its way.
use Rattle.std.specs.Prelude.{◌≡◌, ℕ, ◌+◌, ◌<◌, ◌≤◌, Bool, true, not, List, All, None, ◌&&◌}
use Rattle.std.specs.List.{count_by}
use Rattle.mp_netlist.specs.Circuit.{Circuit, stimulus_at}
use Rattle.mp_netlist.specs.Drivers.{driver}
use Rattle.mp_modules.specs.automata.Codes.{bit}
use Rattle.mp_simulation.specs.bits.Changes.{change_at}
use Rattle.mp_simulation.specs.bits.WholeRuns.{is_stimulus}
use Rattle.mp_simulation.specs.units.NetlistSimulations.{IsSimulated}
use Rattle.mp_simulation.specs.declared.run.stimuli.StimulusChange.{StimulusChange}
use Rattle.mp_simulation.specs.run.Stimuli.{rest_of, left_of, is_change, AreFrom, IsSetting}
use Rattle.mp_partition.specs.runs.Marks.{is_marked}
use Rattle.mp_engine.specs.declared.region_runs.region_run.RegionRun.{RegionRun}
use Rattle.mp_engine.specs.region_runs.StateHistories.{IsHistory}

-- a wire of this sort is set to another level from outside at a time
abbrev pub is_set : Circuit → (ℕ → Bool) → ℕ → ℕ → Bool
is_set n is_told w u = (change_at n w u && is_stimulus (driver n w)) && is_told w

-- they are what is set from outside on wires of this sort after t and before a time, each once
pub record AreComing (n : Circuit) (is_told : ℕ → Bool) (t until : ℕ) (ss : List StimulusChange) : Type 0 where
  pub listed : AreFrom (t + 1) ss
  pub each : (w u : ℕ) → t < u → u < until → count_by (is_change w u) ss ≡ bit (is_set n is_told w u)
  pub set : All (IsSetting n) ss

-- the same, in any order
pub record AreTidings (n : Circuit) (is_told : ℕ → Bool) (t until : ℕ) (ss : List StimulusChange) : Type 0 where
  pub later : All (λ (s : StimulusChange). t < s.time) ss
  pub each : (w u : ℕ) → t < u → u < until → count_by (is_change w u) ss ≡ bit (is_set n is_told w u)
  pub set : All (IsSetting n) ss

-- the unit t is over, what stimuli set later is ahead, and what is heard before a time; and the states before all borders up to t are kept,
-- if states are to be
pub record IsUnderWay (n : Circuit) (keeps : Bool) (is_heard : ℕ → Bool) (t until : ℕ) (run : RegionRun) : Type 0 where
  pub simulated : IsSimulated n t run.simulation
  pub own : AreComing n (λ w. not (is_heard w)) t n.horizon (rest_of run.stimuli)
  pub heard : AreComing n is_heard t until (left_of run.heard)
  pub kept : IsHistory n keeps (t + 1) t run.history

-- so it is, whichever wires are heard, and whether or not states are kept
pub record CanRun (n : Circuit) (t until : ℕ) (run : RegionRun) : Type 0 where
  pub keeps : Bool
  pub is_heard : ℕ → Bool
  pub is : IsUnderWay n keeps is_heard t until run

-- nothing can be heard before a time: no wire is, or it is the first
abbrev pub IsBeforeAll : List Bool → ℕ → Type 0
IsBeforeAll heard until = (w : ℕ) → is_marked heard w ≡ true → until ≤ 1

-- no stimulus sets the wires that are heard
abbrev pub AreUnset : Circuit → List Bool → Type 0
AreUnset n heard = (w : ℕ) → is_marked heard w ≡ true → stimulus_at n w ≡ None
