use Rattle.std.proofs.lemmas.Result.{on_ok_weaker}
use Rattle.mp_partition.proofs.lemmas.runs.KeepLemmas.{keeps_from}
use Rattle.mp_partition.proofs.runs.checkpoints.Checkpoints.keep.Goals as goal

pub returns : goal.returns
returns c = on_ok_weaker c.push.result (λ e. rw e (keeps_from c.args.self.now c.args.time c.args.memory c.requires)) c.push.ensures
