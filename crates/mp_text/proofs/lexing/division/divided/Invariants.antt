use Rattle.mp_text.proofs.lemmas.lexing.Names.{◌-◌, ◌<◌, ◌≤◌, length, take, lines_of}
use Rattle.mp_text.proofs.lemmas.lexing.DivisionLemmas.{AreWhole, Undivided}
use Rattle.mp_text.proofs.lexing.division.divided.Given as goal

-- no line so far divides the input
abbrev pub invariant-loop-at : goal.invariant-loop-at
invariant-loop-at l = record {
  within : l.at ≤ length l.input;
  whole : l.at < length l.input → AreWhole (take l.at l.input);
  undivided : Undivided (lines_of (take l.at l.input));
}

abbrev pub decreases-loop-at : goal.decreases-loop-at
decreases-loop-at l = length l.input - l.at
