use Rattle.std.proofs.Common.{◌≡◌, ◌≤◌, false, length, drop}
use Rattle.std.specs.Fmt.{digits_onto, digits}
use Rattle.mp_picture.proofs.level_text.put_digits.Given as goal

-- the digits of the rest stand before those that are put
abbrev pub invariant-loop-place : goal.invariant-loop-place
invariant-loop-place l = record {
  within : l.place ≤ 64;
  room : length l.bytes ≡ 64;
  rest : digits_onto l.place l.base false l.rest (drop l.place l.bytes) ≡ digits l.base false l.number;
}

abbrev pub decreases-loop-place : goal.decreases-loop-place
decreases-loop-place l = l.place
