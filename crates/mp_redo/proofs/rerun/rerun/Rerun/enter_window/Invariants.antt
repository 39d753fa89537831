use Rattle.mp_redo.specs.rerun.Reruns.{active_of}
use Rattle.mp_redo.proofs.lemmas.rerun.EnteringLemmas.{FirstHavePassed}
use Rattle.mp_redo.proofs.rerun.rerun.Rerun.enter_window.Given as goal

-- of the modules so far the active ones have passed
abbrev pub invariant-loop-id : goal.invariant-loop-id
invariant-loop-id g l = FirstHavePassed l.change.new.now (active_of l.self) (g.G.Gate.passed l.gate) l.time l.self.window_end l.self.recorder.live.items l.id-index
