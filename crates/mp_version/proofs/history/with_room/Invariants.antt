use Rattle.std.proofs.Common.{◌≡◌, map, take}
use Rattle.std.specs.Arc.{arc_value}
use Rattle.mp_version.proofs.history.with_room.Given as goal

-- those so far
abbrev pub invariant-loop-handle : goal.invariant-loop-handle
invariant-loop-handle g l = map arc_value l.copies.items ≡ map arc_value (take l.handle-index l.handles)
