use Rattle.mp_redo.proofs.lemmas.rerun.BorderLemmas.{HasFound}
use Rattle.mp_redo.proofs.rerun.rerun.Rerun.find_leaving.Given as goal

-- of the modules so far those that leave are listed
abbrev pub invariant-loop-id : goal.invariant-loop-id
invariant-loop-id l = HasFound l.change.old.now l.change.new.now l.time l.self l.self.recorder.live.items l.id-index l.leaving.items
