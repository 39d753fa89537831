use Rattle.mp_records.proofs.lemmas.lists.ReplacingLemmas.{replaced_in}
use Rattle.mp_partition.proofs.runs.states.States.kept_with.Goals as goal

pub returns : goal.returns
returns c = replaced_in _ _ _ _ c.args.modules.now _ _ _ c.none.ensures c.in_ok-kept.ensures c.in_ok-found.ensures c.in_ok-replace.ensures
