use Rattle.std.proofs.Common.{◌≤◌, ◌∙◌, length, sym, rules}
use Rattle.std.proofs.lemmas.List.{get_or_past}
use Rattle.std.proofs.lemmas.Result.{IfOk-weaker}
use Rattle.mp_records.proofs.lemmas.lists.CutLemmas.{past_from_none}
use Rattle.mp_records.proofs.lists.pieces.Pieces.copy_at.Goals as goal

pub returns-in-None : goal.returns-in-None
returns-in-None g c =
    let list = c.args.self.now in
    let past : length list ≤ c.args.index = past_from_none list c.args.index (search rules) in
    IfOk-weaker c.copy_of-in-None.result _ _ (λ entry is. is ∙ sym (get_or_past list c.args.index c.args.blank.now past)) c.copy_of-in-None.ensures
