use Rattle.mp_version.specs.publication.Knowing.{KeepsRead}
use Rattle.mp_version.proofs.publication.showing.show.Given as goal

abbrev pub invariant-loop : goal.invariant-loop
invariant-loop g l = KeepsRead l.initial.pass l.pass × (goal.iterator-loop g).can_next l.iterator' × (goal.iterator-loop g).is_finite l.iterator'
