use Rattle.mp_exports.proofs.lemmas.vcd.Names.{◌≡◌, ◌-◌, ◌∷◌, ◌++◌, [], length, slice_index, rules, refl, get_or_read_under, QueuedChange, told_from, with_told}
use Rattle.mp_exports.proofs.lemmas.vcd.AgendaLemmas.{told_as, told_more, with_told-from}
use Rattle.mp_exports.proofs.vcd.change_queue.ChangeQueue.add.Goals as goal

pub returns-clause-told : goal.returns-clause-told
returns-clause-told c = λ told tells.
    let from = c.args.self.now.from in
    let time = c.args.time in
    let firsts = c.args.self.now.firsts.items in
    let entries = c.args.self.now.entries.items in
    let added : QueuedChange = record { level = c.args.level; wire = c.args.wire; next = c.index-next.result.now } in
    let next : added.next ≡ slice_index firsts (time - from) = get_or_read_under firsts (time - from) (length firsts) c.index-next.result.now 0 c.index-next.ensures (search rules) refl in
    rw c.in_ok-push.ensures.items
    (told_as _ (entries ++ added ∷ []) (with_told (told_from from told) (time - from) (c.args.wire, c.args.level)) (told_from from (with_told told time (c.args.wire, c.args.level)))
    (λ k inside. with_told-from told from time (c.args.wire, c.args.level) k (search rules))
    (told_more firsts entries (told_from from told) (time - from) c.in-Ok.place added tells (search rules) next (search rules)))
