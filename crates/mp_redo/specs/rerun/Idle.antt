-- Units in which nothing is set, and no module joins.
use Rattle.std.specs.Prelude.{◌≡◌, ◌==◌, ℕ, Bool, false, List, [], ◌∷◌}
use Rattle.mp_kernel.specs.timers.TimerWheels.{coming}
use Rattle.mp_simulation.specs.declared.run.stimuli.StimulusChange.{StimulusChange}
use Rattle.mp_simulation.specs.run.Stimuli.{left_of}
use Rattle.mp_simulation.specs.bits.Simulators.{slot_at}
use Rattle.mp_simulation.specs.bits.Simulations.{copy_slot}
use Rattle.mp_simulation.specs.units.DataWheels.{data_slot}
use Rattle.mp_active.specs.compare.Comparing.{AreUntracked}
use Rattle.mp_redo.specs.declared.rerun.rerun.Rerun.{Rerun}

-- the first of these changes is one of a time
abbrev pub is_due : ℕ → List StimulusChange → Bool
is_due time [] = false
is_due time (s ∷ ss) = s.time == time

-- nothing is set in the unit of a time, the next one: no number comes up in it, and no change at its time is to come
pub record IsUnset (time : ℕ) (s : Rerun) : Type 0 where
  pub timers : coming s.comparison.timers ≡ []
  pub stimuli : is_due time (left_of s.stimuli) ≡ false
  pub pending_outputs : is_due time (left_of s.pending_outputs) ≡ false

-- and no number that is tracked is known to change in it
pub record IsQuiet (time : ℕ) (s : Rerun) : Type 0 where
  pub unset : IsUnset time s
  pub levels : data_slot s.simulation.wires.wheel 0 ≡ []
  pub wires : AreUntracked s.comparison time (slot_at s.simulation.bits.simulator 0)
  pub copies : AreUntracked s.comparison time (copy_slot s.simulation.bits.copies 0)
