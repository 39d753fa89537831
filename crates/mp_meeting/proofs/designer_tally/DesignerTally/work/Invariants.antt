use Rattle.std.proofs.Common.{◌+◌, ◌≤◌, length}
use Rattle.mp_text.specs.lexing.Lines.{lines_of}
use Rattle.mp_meeting.proofs.SittingLemmas.{SoFar}
use Rattle.mp_meeting.proofs.designer_tally.DesignerTally.work.Given as goal

-- the lines so far were submitted, and no more of them refused than there were bytes
abbrev pub invariant-loop-rest : goal.invariant-loop-rest
invariant-loop-rest g l = record {
  so_far : SoFar l.initial.self.seen (lines_of l.lines) (lines_of l.rest) l.self;
  few : l.self.refused + length l.rest ≤ length l.lines;
}

abbrev pub decreases-loop-rest : goal.decreases-loop-rest
decreases-loop-rest g l = length l.rest
