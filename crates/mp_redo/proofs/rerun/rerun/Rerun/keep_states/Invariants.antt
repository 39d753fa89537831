use Rattle.std.proofs.Common.{◌≡◌, ◌-◌}
use Rattle.mp_depend.specs.work.Work.{block_of}
use Rattle.mp_redo.specs.rerun.Reruns.{active_of}
use Rattle.mp_redo.proofs.lemmas.rerun.KeepingLemmas.{IsKeeping}
use Rattle.mp_redo.proofs.rerun.rerun.Rerun.keep_states.Given as goal

-- the states of the modules so far are kept
abbrev pub invariant-loop-place : goal.invariant-loop-place
invariant-loop-place l = record {
  same : l.self ≡ record (l.fn.self) { recorder = l.self.recorder };
  listed : l.self.recorder.live ≡ l.fn.self.recorder.live;
  keeping : IsKeeping l.change.old.now l.change.new.now l.change.run.now (block_of l.change.new.now.horizon (l.time - 1)) l.time (active_of l.fn.self) l.fn.self.recorder.live.items l.place l.self.recorder;
}
