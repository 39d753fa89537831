use Rattle.std.proofs.Common.{◌≡◌, ◌+◌, ◌++◌, map, drop, length}
use Rattle.std.specs.List.{filter}
use Rattle.mp_kernel.specs.events.Firing.{scheduled}
use Rattle.mp_active.specs.steps.Taking.{is_gone, staying, in_slot, taken_toggle}
use Rattle.mp_active.proofs.steps.taking.put_back_toggles.Given as goal

-- what is left leads where all does
abbrev pub invariant-loop-wire : goal.invariant-loop-wire
invariant-loop-wire l =
    (scheduled l.wheel (map (in_slot l.units) (staying (is_gone l.sources) (drop l.wire-index l.slot))) ≡ scheduled l.fn.wheel (map (in_slot l.units) (staying (is_gone l.sources) l.slot)))
    × (l.taken.items ++ map (taken_toggle (l.time + l.units)) (filter (is_gone l.sources) (drop l.wire-index l.slot)) ≡
    l.fn.taken.items ++ map (taken_toggle (l.time + l.units)) (filter (is_gone l.sources) l.slot))
    × (length l.wheel ≡ length l.fn.wheel)
