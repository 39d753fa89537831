use Rattle.std.proofs.Common.{◌≡◌, ℕ, ◌+◌, ◌*◌, ◌/◌, ◌%◌, List, [], ◌∷◌, ◌++◌, length, get_or, ap, subst, sym, ◌∙◌, vec_len, arith, rules}
use Rattle.std.proofs.Math.ListN.{set, length-set}
use Rattle.std.proofs.lemmas.Result.{on_ok_weaker}
use Rattle.mp_records.specs.lists.Cuts.{piece_len, joined, AreCut}
use Rattle.mp_records.proofs.lemmas.lists.CutLemmas.{length-joined, piece_within, place_within, AreCut-set, set_in, read_in, in_either}
use Rattle.mp_records.proofs.lists.pieces.push_to_row.Goals as goal

pub push_number_at-requires-clause-piece : goal.push_number_at-requires-clause-piece
push_number_at-requires-clause-piece c =
    let list = c.rows.inside in
    let pieces = list.shared.items in
    let index = c.args.index in
    let whole = length-joined piece_len (omega arith) pieces list.count c.rows.invariant in
    let within = rw (← c.rows.view_is) at c.requires.within in
    let many : length pieces ≡ vec_len list.shared = search rules in
    let here = piece_within piece_len (omega arith) pieces list.count c.rows.invariant (index / piece_len) (index % piece_len) (omega arith) (omega (arith, whole, within)) in
    omega (arith, here, many)

pub push_number_at-requires-clause-place : goal.push_number_at-requires-clause-place
push_number_at-requires-clause-place c =
    let list = c.rows.inside in
    let pieces = list.shared.items in
    let index = c.args.index in
    let whole = length-joined piece_len (omega arith) pieces list.count c.rows.invariant in
    let within = rw (← c.rows.view_is) at c.requires.within in
    place_within piece_len (omega arith) pieces list.count c.rows.invariant (index / piece_len) (index % piece_len) (omega arith) (omega (arith, whole, within))

pub invariant_of-rows : goal.invariant_of-rows
invariant_of-rows c =
    let list = c.rows.inside in
    let pieces = list.shared.items in
    let index = c.args.index in
    let piece = get_or pieces (index / piece_len) [] in
    let row = get_or piece (index % piece_len) [] ++ c.args.number ∷ [] in
    let kept = AreCut-set piece_len (omega arith) pieces list.count c.rows.invariant (index / piece_len) (set piece (index % piece_len) row) (length-set piece (index % piece_len) row) in
    in_either c.push_number_at.result (λ is. subst (λ new. AreCut piece_len new list.count) (sym is) kept) (λ is. subst (λ new. AreCut piece_len new list.count) (sym is) c.rows.invariant) c.push_number_at.ensures.ok c.push_number_at.ensures.err

pub returns-clause-ok : goal.returns-clause-ok
returns-clause-ok c =
    let list = c.rows.inside in
    let pieces = list.shared.items in
    let index = c.args.index in
    let whole = length-joined piece_len (omega arith) pieces list.count c.rows.invariant in
    let within = rw (← c.rows.view_is) at c.requires.within in
    let place : index / piece_len * piece_len + index % piece_len ≡ index = omega arith in
    let row = get_or (get_or pieces (index / piece_len) []) (index % piece_len) [] in
    let here : row ≡ get_or (joined pieces) index [] = sym (read_in piece_len (omega arith) pieces list.count c.rows.invariant (index / piece_len) (index % piece_len) [] (omega arith)) ∙ ap (λ (i : ℕ). get_or (joined pieces) i []) place in
    let put = set_in piece_len (omega arith) pieces list.count c.rows.invariant (index / piece_len) (index % piece_len) (row ++ c.args.number ∷ []) (omega arith) (omega (arith, whole, within)) in
    rw (← c.rows.view_is)
    (on_ok_weaker c.push_number_at.result (λ is. ap joined is ∙ put ∙ ap (λ (i : ℕ). set (joined pieces) i (row ++ c.args.number ∷ [])) place ∙ ap (λ (xs : List ℕ). set (joined pieces) index (xs ++ c.args.number ∷ [])) here) c.push_number_at.ensures.ok)
