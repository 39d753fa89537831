use Rattle.mp_phase.proofs.PhaseLemmas.{are_done-push}
use Rattle.mp_redo.proofs.lemmas.parts.JoinLemmas.{is_part}
use Rattle.mp_redo.proofs.parts.together.all_of.Goals as goal

pub loop-one-preserved : goal.loop-one-preserved
loop-one-preserved c =
    are_done-push is_part c.loop-one.yielded c.in-Some.one c.loop-one.parts.items c.push.new.self.items c.in_ok-part.part c.in_ok-push.ensures.items c.loop-one.invariant c.in_ok-part.was
