use Rattle.std.proofs.Common.{◌≡◌, ◌-◌, ◌^◌, length}
use Rattle.mp_model.specs.Tracks.{AreTimesIn, held_all}
use Rattle.mp_model.specs.response.Pieces.{put_off}
use Rattle.mp_redo.proofs.rerun.last_wave.hold_later.Given as goal

-- what is left to be held leads where all does
abbrev pub invariant-loop-change : goal.invariant-loop-change
invariant-loop-change l = (held_all l.wave (put_off l.delay l.rest) ≡ held_all l.fn.wave (put_off l.delay l.changes)) × AreTimesIn l.wave.next (2 ^ 32 - 1) (put_off l.delay l.rest)

abbrev pub decreases-loop-change : goal.decreases-loop-change
decreases-loop-change l = length l.rest
