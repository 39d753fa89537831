use Rattle.std.proofs.Common.{◌≡◌}
use Rattle.mp_version.proofs.publication.log_writer.LogWriter.add.Given as goal

-- nothing was added yet
abbrev pub invariant-loop : goal.invariant-loop
invariant-loop g l = (l.self ≡ l.initial.self) × (goal.iterator-loop g).can_next l.iterator' × (goal.iterator-loop g).is_finite l.iterator'
