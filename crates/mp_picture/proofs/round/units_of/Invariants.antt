use Rattle.std.proofs.Common.{◌≡◌, drop}
use Rattle.std.specs.List.{find}
use Rattle.mp_picture.specs.RoundNumbers.{round_numbers, are_enough}
use Rattle.mp_picture.proofs.round.units_of.Given as goal

-- the first that is enough is one of those to come
abbrev pub invariant-loop-units : goal.invariant-loop-units
invariant-loop-units l = record {
  all : l.units-items ≡ round_numbers;
  later : find (are_enough l.from l.to l.most) (drop l.units-index round_numbers) ≡ find (are_enough l.from l.to l.most) round_numbers;
}
