use Rattle.std.proofs.Common.{◌≡◌, ◌<◌, ◌≤◌, ℕ, length, slice_index_or}
use Rattle.mp_meeting.specs.Sittings.{DesignerTally}
use Rattle.mp_meeting.proofs.reading.last_read.Given as goal

-- what the designers so far were told of was learnt, and nothing was read
abbrev pub invariant-loop-place : goal.invariant-loop-place
invariant-loop-place g l = record {
  told : (k : ℕ) (s : DesignerTally) → k < l.place → (slice_index_or l.sittings k s).told ≤ length l.viewer.learnt.edits;
  same : l.viewer.last ≡ l.initial.viewer.last;
  signed : l.viewer.signed ≡ l.initial.viewer.signed;
}
