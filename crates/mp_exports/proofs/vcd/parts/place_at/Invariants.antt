use Rattle.mp_exports.proofs.lemmas.vcd.Names.{◌-◌, ◌≤◌, length}
use Rattle.mp_exports.proofs.vcd.parts.place_at.Given as goal

-- the place lies between the two
abbrev pub invariant-loop-low : goal.invariant-loop-low
invariant-loop-low l = record {
  order : l.low ≤ l.high;
  within : l.high ≤ length l.wave.changes;
}

abbrev pub decreases-loop-low : goal.decreases-loop-low
decreases-loop-low l = l.high - l.low
