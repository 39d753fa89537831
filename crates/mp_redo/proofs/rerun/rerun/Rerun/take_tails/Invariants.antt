use Rattle.std.proofs.Common.{◌≡◌, ◌++◌, drop}
use Rattle.mp_redo.proofs.rerun.rerun.Rerun.take_tails.Given as goal

-- the tails before are copied
abbrev pub invariant-loop-place : goal.invariant-loop-place
invariant-loop-place l = l.pending_outputs.items ++ drop l.place l.self.pending_outputs.list.items ≡ drop l.self.pending_outputs.place l.self.pending_outputs.list.items
