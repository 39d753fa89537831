use Rattle.std.proofs.Common.{◌-◌, ◌≤◌}
use Rattle.mp_model.specs.response.Pieces.{levels_at}
use Rattle.mp_model.specs.response.Cursors.{AreAt}
use Rattle.mp_model.specs.response.Span.{IsSpan}
use Rattle.mp_model.proofs.response.span.respond.Given as goal

-- the span up to the next time at which an input changes
abbrev pub invariant-loop-time : goal.invariant-loop-time
invariant-loop-time l = record {
  low : l.from ≤ l.time;
  high : l.time ≤ l.to;
  reads : AreAt (levels_at l.inputs) l.time l.cursors;
  so_far : IsSpan l.part (levels_at l.inputs) l.fn.memory l.from l.time l.piece;
}

abbrev pub decreases-loop-time : goal.decreases-loop-time
decreases-loop-time l = l.to - l.time
