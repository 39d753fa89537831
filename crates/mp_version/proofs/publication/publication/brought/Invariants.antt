use Rattle.std.proofs.Common.{◌≡◌, drop}
use Rattle.mp_version.proofs.publication.publication.brought.Given as goal

abbrev pub invariant-loop : goal.invariant-loop
invariant-loop g l =
    (l.writer.desk.shown.value ≡ l.initial.writer.desk.shown.value) × (drop l.writer.behind l.writer.log.items ≡ drop l.initial.writer.behind l.initial.writer.log.items)
    × (goal.iterator-loop g).can_next l.iterator' × (goal.iterator-loop g).is_finite l.iterator'
