use Rattle.std.proofs.Common.{◌≡◌, drop}
use Rattle.mp_version.proofs.publication.publication.appended.Given as goal

abbrev pub invariant-loop : goal.invariant-loop
invariant-loop g l =
    (l.writer.desk ≡ l.initial.writer.desk) × (drop l.writer.behind l.writer.log.items ≡ drop l.initial.writer.behind l.initial.writer.log.items) × (l.next ≡ l.initial.next)
    × (goal.iterator-loop g).can_next l.iterator' × (goal.iterator-loop g).is_finite l.iterator'
