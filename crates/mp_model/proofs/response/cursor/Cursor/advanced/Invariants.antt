use Rattle.std.proofs.Common.{◌≡◌, ℕ, ◌≤◌, length}
use Rattle.mp_wave.specs.Waveform.{level_from}
use Rattle.mp_model.proofs.response.cursor.Cursor.advanced.Given as goal

-- what is left gives the same levels from the time on
abbrev pub invariant-loop-change : goal.invariant-loop-change
invariant-loop-change l = (t : ℕ) → l.time ≤ t → level_from l.level l.rest t ≡ level_from l.fn.self.level l.fn.self.rest.now t

abbrev pub decreases-loop-change : goal.decreases-loop-change
decreases-loop-change l = length l.rest
