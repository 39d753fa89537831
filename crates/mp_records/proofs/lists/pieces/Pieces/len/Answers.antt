use Rattle.std.proofs.Common.{sym, arith}
use Rattle.mp_records.specs.lists.Cuts.{piece_len}
use Rattle.mp_records.proofs.lemmas.lists.CutLemmas.{length-joined}
use Rattle.mp_records.proofs.lists.pieces.Pieces.len.Goals as goal

pub returns : goal.returns
returns g c =
    let list = c.self.inside in
    rw (← c.self.view_is) (sym (length-joined piece_len (omega arith) list.shared.items list.count c.self.invariant))
