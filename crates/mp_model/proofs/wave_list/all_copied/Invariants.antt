use Rattle.std.proofs.Common.{◌≡◌, take}
use Rattle.mp_model.proofs.wave_list.all_copied.Given as goal

-- those so far are shared
abbrev pub invariant-loop-slot : goal.invariant-loop-slot
invariant-loop-slot l = l.list ≡ take l.slot-index l.waves
