use Rattle.std.specs.Prelude.{◌≡◌, ◌≤◌, ◌+◌, length}
use Rattle.mp_request.specs.faults.Spans.{span_from}
use Rattle.mp_request.proofs.faults.spans.span_of.Given as goal

-- the word is behind so many others of the bytes that are left
abbrev pub invariant-loop-rest : goal.invariant-loop-rest
invariant-loop-rest l = record {
  within : l.at + length l.rest ≤ length l.bytes;
  same : span_from l.left l.at l.rest ≡ span_from l.count 0 l.bytes;
}

abbrev pub decreases-loop-rest : goal.decreases-loop-rest
decreases-loop-rest l = l.left
