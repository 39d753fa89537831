use Rattle.std.proofs.Common.{◌≡◌, ◌+◌, ◌++◌, map, drop, length}
use Rattle.mp_kernel.specs.datapath.LevelWheels.{scheduled as levels_scheduled}
use Rattle.mp_active.specs.steps.Taking.{is_gone, staying_changes, gone_changes, in_level_slot, taken_change}
use Rattle.mp_active.proofs.steps.taking.put_back_levels.Given as goal

-- what is left leads where all does
abbrev pub invariant-loop-change : goal.invariant-loop-change
invariant-loop-change l =
    (levels_scheduled l.wheel (map (in_level_slot l.units) (staying_changes (is_gone l.sources) (drop l.change-index l.slot))) ≡
    levels_scheduled l.fn.wheel (map (in_level_slot l.units) (staying_changes (is_gone l.sources) l.slot)))
    × (l.taken.items ++ map (taken_change (l.time + l.units)) (gone_changes (is_gone l.sources) (drop l.change-index l.slot)) ≡
    l.fn.taken.items ++ map (taken_change (l.time + l.units)) (gone_changes (is_gone l.sources) l.slot))
    × (length l.wheel ≡ length l.fn.wheel)
