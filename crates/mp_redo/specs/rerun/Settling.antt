-- A re-evaluation of which the rest is that of the old run.
use Rattle.std.specs.Prelude.{◌≡◌, ◌⊎◌, ℕ, ◌-◌, ◌<◌, ◌≤◌, ◌^◌, true, false, List, [], All, Option, Some, None, IsSome, length}
use Rattle.mp_wave.specs.Waveform.{between}
use Rattle.mp_netlist.specs.Circuit.{Circuit, module_at, stimulus_at}
use Rattle.mp_partition.specs.runs.Outcomes.{Outcome}
use Rattle.mp_simulation.specs.run.Stimuli.{left_of}
use Rattle.mp_kernel.specs.timers.TimerWheels.{never}
use Rattle.mp_active.specs.declared.compare.comparison.Comparison.{Comparison}
use Rattle.mp_active.specs.compare.Comparing.{wire_of, delay_of, source_at, old_wave, is_tracked}
use Rattle.mp_depend.specs.work.Work.{block_of, window_of}
use Rattle.mp_redo.specs.declared.rerun.next_step.NextStep.{NextStep}
use Rattle.mp_redo.specs.declared.rerun.next_step.NextStep.TheVariants.{Next, Over}
use Rattle.mp_redo.specs.declared.rerun.rerun.Rerun.{Rerun}
use Rattle.mp_redo.specs.rerun.Reruns.{active_of}
use Rattle.mp_redo.specs.rerun.Windows.{IsUnderWay, IsAtWindow}

-- these changes come up to a time
abbrev pub AreUpTo : ℕ → List (ℕ × ℕ) → Type 0
AreUpTo last changes = All (λ (change : ℕ × ℕ). change.0 ≤ last) changes

abbrev pub IsSetUpTo : ℕ → Option (List (ℕ × ℕ)) → Type 0
IsSetUpTo last None = Unit {0}
IsSetUpTo last (Some changes) = AreUpTo last changes

-- the wire of a number is driven by no port, and so long before a time and later it changes in neither run
pub record IsOver (new : Circuit) (run : Outcome) (c : Comparison) (x time : ℕ) : Type 0 where
  pub own : (source_at c (wire_of c.numbers x)).until ≡ never
  pub early : delay_of c.numbers x < time
  pub stimulus : IsSetUpTo (time - 1 - delay_of c.numbers x) (stimulus_at new (wire_of c.numbers x))
  pub old : between (time - 1 - delay_of c.numbers x) (2 ^ 32 - 1) (old_wave run (wire_of c.numbers x)).changes ≡ []

-- from a time on nobody is active, no change is to come that no active module makes, and what modules read that sleep has the levels of the old run
pub record IsSettled (new : Circuit) (run : Outcome) (time : ℕ) (s : Rerun) : Type 0 where
  pub nobody : (m : ℕ) → IsSome (module_at new m) → active_of s m ≡ true → ⊥
  pub stimuli : left_of s.stimuli ≡ []
  pub pending_outputs : left_of s.pending_outputs ≡ []
  pub alike : (x : ℕ) → x < length s.comparison.numbers.wires.items → (is_tracked s.comparison x time ≡ false) ⊎ IsOver new run s.comparison x time

-- the units before a time are over, in windows that end there, and if it isn't the horizon, the rest is that of the old run
pub record HasEnded (old new : Circuit) (run : Outcome) (end : ℕ) (s : Rerun) : Type 0 where
  pub some : 0 < end
  pub within : end ≤ new.horizon
  pub begins : end < new.horizon → window_of new end ≡ end
  pub at : IsAtWindow old new run (block_of new.horizon (end - 1)) (end - 1) s
  pub settled : end < new.horizon → IsSettled new run end s

-- the units before a time and all up to the next are over, and the window of the next was entered; or all are
abbrev pub IsAhead : Circuit → Circuit → Outcome → ℕ → Rerun → NextStep → Type 0
IsAhead old new run time s (Next next window) = (time ≤ next) × (next < new.horizon) × (next < s.window_end) × (window.end ≡ s.window_end) × IsUnderWay old new run (next - 1) s
IsAhead old new run time s (Over end) = HasEnded old new run end s
