use Rattle.std.proofs.Common.{◌≤◌, None, length, sym, rules}
use Rattle.std.proofs.lemmas.List.{get_or_past}
use Rattle.mp_records.proofs.lemmas.lists.CutLemmas.{past_from_none}
use Rattle.mp_model.proofs.wave_list.share_in.Goals as goal

pub returns-in-None : goal.returns-in-None
returns-in-None c =
    let list = c.args.list.now in
    let past : length list ≤ c.args.place = past_from_none list c.args.place (search rules) in
    sym (get_or_past list c.args.place None past)
