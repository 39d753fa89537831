use Rattle.std.proofs.Common.{[], take, refl, sym, ap, ◌∙◌}
use Rattle.std.proofs.lemmas.List.{append-nil}
use Rattle.mp_streams.proofs.OutLemmas.{puts_straight}
use Rattle.mp_streams.proofs.out.Out.flush.Goals as goal

pub returns-clause-written : goal.returns-clause-written
returns-clause-written g c =
    let whole = append-nil (take c.self.inside.end c.self.inside.room.items) ∙ ap (take c.self.inside.end) (sym c.deref.ensures.value) in
    rw (← c.self.view_is) (puts_straight c.put_all-put.result _ _ [] _ whole refl c.put_all-put.ensures.all c.put_all-put.ensures.failed c.put_all-put.ensures.faults)
