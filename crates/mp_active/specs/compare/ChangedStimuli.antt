-- What changed stimuli set.
use Rattle.std.specs.Prelude.{◌≡◌, ℕ, ◌+◌, ◌<◌, Bool, List, All, ◌&&◌, ◌==◌, slice_index_or}
use Rattle.std.specs.List.{count_by}
use Rattle.mp_netlist.specs.Circuit.{Circuit}
use Rattle.mp_netlist.specs.Drivers.{driver}
use Rattle.mp_modules.specs.automata.Codes.{bit}
use Rattle.mp_kernel.specs.timers.TimerWheels.{never}
use Rattle.mp_simulation.specs.bits.Changes.{change_at}
use Rattle.mp_simulation.specs.bits.WholeRuns.{is_stimulus}
use Rattle.mp_simulation.specs.declared.run.stimuli.StimulusChange.{StimulusChange}
use Rattle.mp_simulation.specs.run.Stimuli.{AreFrom, IsSetting, is_change}
use Rattle.mp_active.specs.declared.compare.wire_source.WireSource.{WireSource}
use Rattle.mp_active.specs.compare.Comparing.{off}

-- until when the levels of a wire come from the new run
abbrev pub until_in : List WireSource → ℕ → ℕ
until_in sources w = (slice_index_or sources w off).until

-- the levels of a wire come from the new run alone
abbrev pub is_new_in : List WireSource → ℕ → Bool
is_new_in sources w = until_in sources w == never

-- they are the changes after t of those wires with a stimulus whose levels come from the new run alone, each once
pub record AreSetAnew (n : Circuit) (until : ℕ → ℕ) (t : ℕ) (ss : List StimulusChange) : Type 0 where
  pub listed : AreFrom (t + 1) ss
  pub each : (w u : ℕ) → t < u → count_by (is_change w u) ss ≡ bit (change_at n w u && (is_stimulus (driver n w) && (until w == never)))
  pub set : All (IsSetting n) ss
