use Rattle.std.proofs.Common.{◌<◌, ℕ}
use Rattle.std.specs.List.{slice_index_or}
use Rattle.mp_desk.specs.Holders.{Seeing, GoesOn, HaveSeenTheSame}
use Rattle.mp_desk.proofs.parting.part_viewers.Given as goal

abbrev pub invariant-loop-i : goal.invariant-loop-i
invariant-loop-i g l = record {
  same : HaveSeenTheSame l.initial.viewers l.viewers;
  looked : (k : ℕ) (d : Seeing) → k < l.i → GoesOn l.publication.story l.writer.authors (slice_index_or l.initial.viewers k d).last (slice_index_or l.initial.viewers k d).signed;
}
