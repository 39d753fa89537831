use Rattle.std.specs.Prelude.{◌≡◌, length}
use Rattle.mp_request.specs.faults.TextLines.{is_blank}
use Rattle.mp_request.proofs.faults.text_lines.is_blank.Given as goal

-- the lines that are left are as blank as all
abbrev pub invariant-loop-rest : goal.invariant-loop-rest
invariant-loop-rest l = is_blank l.rest ≡ is_blank l.text

abbrev pub decreases-loop-rest : goal.decreases-loop-rest
decreases-loop-rest l = length l.rest
