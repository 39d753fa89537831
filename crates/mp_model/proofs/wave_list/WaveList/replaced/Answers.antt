use Rattle.mp_records.proofs.lemmas.lists.ReplacingLemmas.{replaced_in}
use Rattle.mp_model.proofs.wave_list.WaveList.replaced.Goals as goal

pub returns : goal.returns
returns c = replaced_in _ _ _ _ c.args.places.now _ _ _ c.none.ensures c.in_ok-list.ensures c.in_ok-found.ensures c.in_ok-replace.ensures
