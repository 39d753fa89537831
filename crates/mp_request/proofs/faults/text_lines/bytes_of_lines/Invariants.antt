use Rattle.std.specs.Prelude.{◌≡◌, ◌+◌, ◌-◌, ◌≤◌, length, drop}
use Rattle.mp_request.specs.faults.TextLines.{bytes_of_lines}
use Rattle.mp_request.proofs.faults.text_lines.bytes_of_lines.Given as goal

-- the lines that are left are those of the rest
abbrev pub invariant-loop-left : goal.invariant-loop-left
invariant-loop-left l = record {
  within : l.at ≤ length l.text;
  counted : l.at + bytes_of_lines l.left (drop l.at l.text) ≡ bytes_of_lines l.count l.text;
}

abbrev pub decreases-loop-left : goal.decreases-loop-left
decreases-loop-left l = length l.text - l.at
