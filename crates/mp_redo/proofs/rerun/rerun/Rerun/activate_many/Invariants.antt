use Rattle.std.proofs.Common.{ℕ, ◌-◌}
use Rattle.mp_redo.specs.rerun.Reruns.{IsRerunAt}
use Rattle.mp_redo.proofs.lemmas.rerun.WakingLemmas.{HaveWokenUpTo}
use Rattle.mp_redo.proofs.rerun.rerun.Rerun.activate_many.Given as goal

-- the first of those that join are active
abbrev pub invariant-loop-place : goal.invariant-loop-place
invariant-loop-place g l = record {
  so : HaveWokenUpTo l.fn.self.activity.joining.items l.place l.fn.self l.self;
  is : (latest : ℕ) → IsRerunAt l.change.old.now l.change.new.now l.change.run.now latest (l.time - 1) l.fn.self → IsRerunAt l.change.old.now l.change.new.now l.change.run.now latest (l.time - 1) l.self;
}
