use Rattle.mp_partition.specs.runs.StateLists.{states_of}
use Rattle.mp_partition.proofs.lemmas.runs.StateListLemmas.{cut_at}
use Rattle.mp_partition.proofs.runs.state_list.StateList.count_upto.Goals as goal

pub returns-then-is_cut-clause-parted : goal.returns-then-is_cut-clause-parted
returns-then-is_cut-clause-parted c =
    cut_at (states_of c.args.self.now) c.likely_place-place.result c.args.time c.requires c.likely_place-place.ensures (c.is_cut.ensures.before c.if-is_cut.true) (c.is_cut.ensures.after c.if-is_cut.true)
