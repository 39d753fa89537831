use Rattle.std.proofs.Common.{◌≡◌, map}
use Rattle.std.specs.List.{range_with_len}
use Rattle.mp_model.specs.Waves.{level}
use Rattle.mp_questions.specs.timing.Events.{since}
use Rattle.mp_check.specs.Dead.{last_unit}
use Rattle.mp_check.specs.Over.{greatest}
use Rattle.mp_check.proofs.over.last_change.Given as goal

-- that of the wires so far
abbrev pub invariant-loop-number : goal.invariant-loop-number
invariant-loop-number l = let n = l.end.at.netlist.now in l.latest ≡ greatest (map (λ w. since (level n w) (last_unit n)) (range_with_len 0 l.number))
