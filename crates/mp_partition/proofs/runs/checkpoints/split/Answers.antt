use Rattle.std.proofs.Common.{drop, ap, sym, ◌∙◌}
use Rattle.mp_modules.specs.Memories.{blank}
use Rattle.mp_partition.specs.runs.Checkpoints.{kept_at}
use Rattle.mp_partition.specs.runs.StateLists.{states_of}
use Rattle.mp_partition.proofs.lemmas.runs.SearchLemmas.{kept_by_cut, late, seen_from}
use Rattle.mp_partition.proofs.runs.checkpoints.split.Goals as goal

pub returns-clause-at : goal.returns-clause-at
returns-clause-at c = kept_by_cut (states_of c.args.list.now) c.args.time c.count_upto-count.result c.count_upto-count.ensures.parted ∙ sym c.state_before.ensures

pub returns-clause-from : goal.returns-clause-from
returns-clause-from c t le =
    let ks = states_of c.args.list.now in
    let count = c.count_upto-count.result in
    seen_from ks c.args.time count t blank c.count_upto-count.ensures.parted.0 le ∙ ap (kept_at (drop count ks) t) (sym c.state_before.ensures)

pub returns-clause-later : goal.returns-clause-later
returns-clause-later c = late (states_of c.args.list.now) c.args.time c.count_upto-count.result c.count_upto-count.ensures.parted.1
