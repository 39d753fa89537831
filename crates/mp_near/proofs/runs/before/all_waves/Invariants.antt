use Rattle.std.proofs.Common.{map, option_map}
use Rattle.std.specs.Arc.{arc_value}
use Rattle.mp_netlist.specs.Circuit.{wire_at}
use Rattle.mp_model.specs.Waves.{slot_wave}
use Rattle.mp_partition.specs.runs.Outcomes.{AreSlots}
use Rattle.mp_near.proofs.runs.before.all_waves.Given as goal

-- those so far
abbrev pub invariant-loop-k : goal.invariant-loop-k
invariant-loop-k l = AreSlots l.k (λ w. slot_wave l.small.was w (wire_at l.small.was w)) (map (option_map arc_value) l.waves.items)
