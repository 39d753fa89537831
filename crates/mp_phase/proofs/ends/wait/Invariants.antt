use Rattle.std.proofs.Common.{◌≡◌}
use Rattle.crossbeam_channel.specs.Claims.{view, IsSeatAt}
use Rattle.crossbeam_channel.specs.Ends.{sends_on, receives_on}
use Rattle.mp_phase.proofs.ends.wait.Given as goal

abbrev pub invariant-loop : goal.invariant-loop
invariant-loop g l = record {
  can : (goal.iterator-loop g).can_next l.iterator';
  ends_so : (goal.iterator-loop g).is_finite l.iterator';
  seat : IsSeatAt (sends_on l.ends.to) l.ends.token;
  ends : receives_on l.ends.answers ≡ sends_on l.ends.to;
  same : view l.ends.token ≡ view l.initial.ends.token;
}
