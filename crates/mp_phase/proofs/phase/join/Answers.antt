use Rattle.mp_phase.proofs.PhaseLemmas.{are_done-append}
use Rattle.mp_phase.proofs.phase.join.Goals as goal

pub returns : goal.returns
returns g c = λ xs ys all more.
    rw c.in_ok-append.ensures.items (are_done-append g.T.Work.gives xs ys c.in_ok-all.all.items c.in_ok-more.more.items (rw c.in_ok-all.was at all) (rw c.in_ok-more.was at more))
