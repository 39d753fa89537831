use Rattle.mp_text.proofs.Names.{◌≡◌, ◌+◌, ◌≤◌, length, lines_of, after_lines, max_text, Fresh}
use Rattle.mp_text.proofs.reading.read_lines.Given as goal

-- the lines that are left go on from the netlist so far
abbrev pub invariant-loop-rest : goal.invariant-loop-rest
invariant-loop-rest l = record {
  within : l.number + length l.rest ≤ max_text;
  counted : l.number + length (lines_of l.rest) ≡ length (lines_of l.text);
  same : after_lines l.number l.state (lines_of l.rest) ≡ after_lines 0 Fresh (lines_of l.text);
}

abbrev pub decreases-loop-rest : goal.decreases-loop-rest
decreases-loop-rest l = length l.rest
