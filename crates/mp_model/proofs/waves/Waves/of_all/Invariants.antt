use Rattle.std.proofs.Common.{◌≡◌, map, option_map}
use Rattle.std.specs.Arc.{arc_value}
use Rattle.mp_model.proofs.waves.Waves.of_all.Given as goal

-- the waves so far are shared
abbrev pub invariant-loop-wave : goal.invariant-loop-wave
invariant-loop-wave l = map (option_map arc_value) l.list.items ≡ l.yielded
