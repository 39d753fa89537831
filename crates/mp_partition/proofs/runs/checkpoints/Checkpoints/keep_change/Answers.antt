use Rattle.std.proofs.Common.{List, ◌∙◌, sym, ap}
use Rattle.mp_modules.specs.Memories.{blank}
use Rattle.mp_partition.specs.declared.runs.checkpoint.Checkpoint.{Checkpoint}
use Rattle.mp_partition.specs.runs.Checkpoints.{last_kept}
use Rattle.mp_partition.proofs.lemmas.runs.KeepLemmas.{keeps_last}
use Rattle.mp_partition.proofs.runs.checkpoints.Checkpoints.keep_change.Goals as goal

pub returns-then-is_last : goal.returns-then-is_last
returns-then-is_last c = keeps_last c.args.self.now c.args.time c.args.memory c.requires (ap (λ (ks : List Checkpoint). last_kept ks blank) (sym c.self.view_is) ∙ c.is_last.ensures c.if-is_last.true)
