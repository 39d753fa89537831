use Rattle.std.proofs.Common.{◌+◌, sym, subst}
use Rattle.mp_partition.specs.runs.Outcomes.{AreSlots}
use Rattle.mp_partition.specs.runs.Runs.{end_memory}
use Rattle.mp_partition.proofs.lemmas.runs.OutcomeLemmas.{slots_push}
use Rattle.mp_near.proofs.runs.before.all_ends.Goals as goal

pub loop-k-preserved : goal.loop-k-preserved
loop-k-preserved c =
    let n = c.args.small.now.was in
    subst (AreSlots (c.loop-k.k + 1) (end_memory n)) (sym c.in_ok-push.ensures.items)
    (slots_push c.loop-k.k (end_memory n) c.loop-k.ends.items c.end_of.result c.end_of.ensures c.loop-k.invariant)
