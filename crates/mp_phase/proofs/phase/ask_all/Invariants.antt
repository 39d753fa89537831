use Rattle.std.proofs.Common.{◌≡◌, ◌++◌, ℕ, ◌<◌, ◌≤◌, None, Option, List, length, drop, slice_index_or}
use Rattle.mp_phase.specs.Allowed.{AreAllowed}
use Rattle.mp_phase.specs.Lines.{all_asked}
use Rattle.mp_phase.proofs.phase.ask_all.Given as goal

-- the mailboxes from a place on were asked for what isn't left
abbrev pub invariant-loop-place : goal.invariant-loop-place
invariant-loop-place g l = record {
  within : l.place ≤ length l.mailboxes;
  asked : l.rest.items ++ all_asked (drop l.place l.mailboxes) ≡ l.fn.tasks.items;
  allowed : AreAllowed g.T.Work.enters (g.G.Gate.may l.fn.gate) l.rest.items;
  free : (k : ℕ) (d : Option (List _)) → k < l.place → slice_index_or l.mailboxes k d ≡ None;
}

abbrev pub decreases-loop-place : goal.decreases-loop-place
decreases-loop-place g l = l.place
