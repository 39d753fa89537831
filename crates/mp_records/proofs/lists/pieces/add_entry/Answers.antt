use Rattle.std.proofs.Common.{◌+◌, ◌/◌, ◌<◌, ◌≤◌, length, ap, subst, sym, ◌∙◌, arith, rules}
use Rattle.std.proofs.lemmas.Result.{on_ok_weaker}
use Rattle.mp_records.specs.lists.Cuts.{piece_len, joined, AreCut}
use Rattle.mp_records.proofs.lemmas.lists.CutLemmas.{pieces_below, AreCut-add, joined-add, AreCut-push, joined-push}
use Rattle.mp_records.proofs.lists.pieces.add_entry.Goals as goal

pub returns-then-last-len-clause-cut : goal.returns-then-last-len-clause-cut
returns-then-last-len-clause-cut g c =
    let pieces = c.args.shared.now.items in
    let count = c.args.count in
    let some : count / piece_len < length pieces = search rules in
    let below = pieces_below piece_len (omega arith) pieces count c.requires.cut in
    let pushed = AreCut-push piece_len (omega arith) pieces count c.requires.cut (omega (arith, some)) (count / piece_len) (omega (arith, some, below)) c.args.entry in
    on_ok_weaker c.push_at.result (λ is. subst (λ new. AreCut piece_len new (count + 1)) (sym is) pushed) c.push_at.ensures.ok

pub returns-then-last-len-clause-ok : goal.returns-then-last-len-clause-ok
returns-then-last-len-clause-ok g c =
    let pieces = c.args.shared.now.items in
    let count = c.args.count in
    let some : count / piece_len < length pieces = search rules in
    let below = pieces_below piece_len (omega arith) pieces count c.requires.cut in
    on_ok_weaker c.push_at.result (λ is. ap joined is ∙ joined-push piece_len (omega arith) pieces (count / piece_len) (omega (arith, some, below)) c.args.entry) c.push_at.ensures.ok

pub returns-else-last-len-clause-cut : goal.returns-else-last-len-clause-cut
returns-else-last-len-clause-cut g c =
    let pieces = c.args.shared.now.items in
    let count = c.args.count in
    let full : length pieces ≤ count / piece_len = search rules in
    let added = AreCut-add piece_len (omega arith) pieces count c.requires.cut (omega (arith, full)) c.args.entry in
    on_ok_weaker c.add_piece.result (λ is. subst (λ new. AreCut piece_len new (count + 1)) (sym is) added) c.add_piece.ensures.ok

pub returns-else-last-len-clause-ok : goal.returns-else-last-len-clause-ok
returns-else-last-len-clause-ok g c =
    on_ok_weaker c.add_piece.result (λ is. ap joined is ∙ joined-add piece_len (omega arith) c.args.shared.now.items c.args.entry) c.add_piece.ensures.ok
