use Rattle.std.proofs.Common.{◌≡◌, ◌+◌, ◌*◌, ◌/◌, ◌%◌, [], length, get_or, ap, subst, sym, ◌∙◌, vec_len, arith, rules}
use Rattle.std.proofs.Math.ListN.{set, length-set}
use Rattle.std.proofs.lemmas.Result.{on_ok_weaker}
use Rattle.mp_records.specs.lists.Cuts.{piece_len, joined, AreCut}
use Rattle.mp_records.proofs.lemmas.lists.CutLemmas.{length-joined, piece_within, place_within, AreCut-set, set_in, in_either}
use Rattle.mp_records.proofs.lists.pieces.Pieces.set.Goals as goal

pub set_at-requires-clause-piece : goal.set_at-requires-clause-piece
set_at-requires-clause-piece g c =
    let list = c.self.inside in
    let pieces = list.shared.items in
    let index = c.args.index in
    let whole = length-joined piece_len (omega arith) pieces list.count c.self.invariant in
    let within = rw (← c.self.view_is) at c.requires.within in
    let many : length pieces ≡ vec_len list.shared = search rules in
    let here = piece_within piece_len (omega arith) pieces list.count c.self.invariant (index / piece_len) (index % piece_len) (omega arith) (omega (arith, whole, within)) in
    omega (arith, here, many)

pub set_at-requires-clause-place : goal.set_at-requires-clause-place
set_at-requires-clause-place g c =
    let list = c.self.inside in
    let pieces = list.shared.items in
    let index = c.args.index in
    let whole = length-joined piece_len (omega arith) pieces list.count c.self.invariant in
    let within = rw (← c.self.view_is) at c.requires.within in
    place_within piece_len (omega arith) pieces list.count c.self.invariant (index / piece_len) (index % piece_len) (omega arith) (omega (arith, whole, within))

pub invariant_of-self : goal.invariant_of-self
invariant_of-self g c =
    let list = c.self.inside in
    let pieces = list.shared.items in
    let index = c.args.index in
    let piece = get_or pieces (index / piece_len) [] in
    let kept = AreCut-set piece_len (omega arith) pieces list.count c.self.invariant (index / piece_len) (set piece (index % piece_len) c.args.entry) (length-set piece (index % piece_len) c.args.entry) in
    in_either c.set_at.result (λ is. subst (λ new. AreCut piece_len new list.count) (sym is) kept) (λ is. subst (λ new. AreCut piece_len new list.count) (sym is) c.self.invariant) c.set_at.ensures.ok c.set_at.ensures.err

pub returns-clause-ok : goal.returns-clause-ok
returns-clause-ok g c =
    let list = c.self.inside in
    let pieces = list.shared.items in
    let index = c.args.index in
    let whole = length-joined piece_len (omega arith) pieces list.count c.self.invariant in
    let within = rw (← c.self.view_is) at c.requires.within in
    let place : index / piece_len * piece_len + index % piece_len ≡ index = omega arith in
    let put = set_in piece_len (omega arith) pieces list.count c.self.invariant (index / piece_len) (index % piece_len) c.args.entry (omega arith) (omega (arith, whole, within)) in
    rw (← c.self.view_is) (on_ok_weaker c.set_at.result (λ is. ap joined is ∙ put ∙ ap (λ i. set (joined pieces) i c.args.entry) place) c.set_at.ensures.ok)
