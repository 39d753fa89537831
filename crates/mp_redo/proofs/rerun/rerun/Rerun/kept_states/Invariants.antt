use Rattle.std.proofs.Common.{take}
use Rattle.mp_phase.specs.Phase.{AreDone}
use Rattle.mp_depend.specs.work.Work.{block_of}
use Rattle.mp_redo.specs.rerun.Tasks.{IsJoiningState}
use Rattle.mp_redo.proofs.rerun.rerun.Rerun.kept_states.Given as goal

-- a state for each so far
abbrev pub invariant-loop-place : goal.invariant-loop-place
invariant-loop-place g l = AreDone (IsJoiningState l.change.old.now l.time (block_of l.change.new.now.horizon l.time) l.self.window_end) (take l.place l.self.activity.joining.items) l.states.items
