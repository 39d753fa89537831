use Rattle.std.proofs.Common.{arith}
use Rattle.mp_partition.proofs.lemmas.runs.MarkLemmas.{marked_within}
use Rattle.mp_partition.proofs.regions.division.is_all_heard_there.Goals as goal

pub returns : goal.returns
returns c = λ _ w is. c.loop-w.invariant w (let low = marked_within c.args.heard.now w is in omega arith) is
