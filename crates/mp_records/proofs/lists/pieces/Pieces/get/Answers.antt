use Rattle.std.proofs.Common.{◌≡◌, ◌≤◌, ◌/◌, ◌%◌, [], length, get_or, ap, sym, ◌∙◌, arith, rules}
use Rattle.std.specs.List.{slice_get}
use Rattle.std.proofs.lemmas.Option.{slice_get_past}
use Rattle.mp_records.specs.lists.Cuts.{piece_len, joined}
use Rattle.mp_records.proofs.lemmas.lists.CutLemmas.{get_in, length-joined, pieces_above}
use Rattle.mp_records.proofs.lists.pieces.Pieces.get.Goals as goal

pub returns-in-Some : goal.returns-in-Some
returns-in-Some g c =
    let list = c.self.inside in
    let pieces = list.shared.items in
    let index = c.args.index in
    let which : get_or pieces (index / piece_len) [] ≡ c.in-Some.piece.now = search rules in
    rw (← c.self.view_is)
    (c.get-in-Some.ensures ∙ ap (λ piece. slice_get piece (index % piece_len)) (sym which)
    ∙ sym (get_in piece_len (omega arith) pieces list.count c.self.invariant (index / piece_len) (index % piece_len) (omega arith))
    ∙ ap (slice_get (joined pieces)) (omega arith))

pub returns-in-None : goal.returns-in-None
returns-in-None g c =
    let list = c.self.inside in
    let pieces = list.shared.items in
    let index = c.args.index in
    let past : length pieces ≤ index / piece_len = search rules in
    let whole = length-joined piece_len (omega arith) pieces list.count c.self.invariant in
    let above = pieces_above piece_len (omega arith) pieces list.count c.self.invariant in
    rw (← c.self.view_is) (sym (slice_get_past (joined pieces) index (omega (arith, whole, above, past))))
