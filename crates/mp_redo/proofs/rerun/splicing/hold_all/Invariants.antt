use Rattle.std.proofs.Common.{◌≡◌, ◌-◌, ◌^◌, length}
use Rattle.mp_wave.specs.WaveChanges.{changes_in}
use Rattle.mp_model.specs.Tracks.{AreTimesIn, held_all}
use Rattle.mp_redo.proofs.rerun.splicing.hold_all.Given as goal

-- what is left to be held leads where all does
abbrev pub invariant-loop-change : goal.invariant-loop-change
invariant-loop-change l = (held_all l.built (changes_in l.rest) ≡ held_all l.fn.built (changes_in l.changes)) × AreTimesIn l.built.next (2 ^ 32 - 1) (changes_in l.rest)

abbrev pub decreases-loop-change : goal.decreases-loop-change
decreases-loop-change l = length (changes_in l.rest)
