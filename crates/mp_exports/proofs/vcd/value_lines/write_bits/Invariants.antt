use Rattle.mp_exports.proofs.lemmas.vcd.Names.{◌≡◌, ◌+◌, ◌-◌, ◌≤◌, ◌++◌, drop, take, length, bits}
use Rattle.mp_exports.proofs.vcd.value_lines.write_bits.Given as goal

-- the bits that are left stand before the digits so far, and what is before and behind them stays
abbrev pub invariant-loop-place : goal.invariant-loop-place
invariant-loop-place l = record {
  low : l.at ≤ l.place;
  high : l.place ≤ l.at + l.width;
  long : length l.room ≡ length l.fn.room;
  before : take l.at l.room ≡ take l.at l.fn.room;
  same : bits l.width l.level ++ drop (l.at + l.width) l.fn.room ≡ bits (l.place - l.at) l.rest ++ drop l.place l.room;
}

abbrev pub decreases-loop-place : goal.decreases-loop-place
decreases-loop-place l = l.place
