use Rattle.std.proofs.Common.{◌≡◌, option_map, map, take}
use Rattle.std.specs.Arc.{arc_value}
use Rattle.mp_model.proofs.wave_list.all_shared.Given as goal

-- those so far are shared
abbrev pub invariant-loop-slot : goal.invariant-loop-slot
invariant-loop-slot l = l.list ≡ map (option_map arc_value) (take l.slot-index l.waves)
