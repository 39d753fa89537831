use Rattle.std.proofs.Common.{◌≡◌, ◌+◌, ℕ, List, ◌++◌, length}
use Rattle.std.specs.Io.KnownBytes.{Consumes}
use Rattle.mp_streams.proofs.StreamLemmas.{IsTaken}
use Rattle.mp_streams.proofs.taking.take_more.Given as goal

-- the bytes so far were left at first, and no fault was met
abbrev pub invariant-loop-left : goal.invariant-loop-left
invariant-loop-left g l = record {
  so_far : IsTaken l.most l.left (g.S.Source.left l.fn.source) (g.S.Source.left l.source) l.fn.text.items l.text.items;
  faults : g.S.Source.fault_count l.source ≡ g.S.Source.fault_count l.fn.source;
}

abbrev pub decreases-loop-left : goal.decreases-loop-left
decreases-loop-left g l = l.left
