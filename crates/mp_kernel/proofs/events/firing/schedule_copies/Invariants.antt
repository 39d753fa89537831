use Rattle.std.proofs.Common.{◌≡◌, length, take}
use Rattle.mp_kernel.specs.events.Firing.{scheduled, copied_from}
use Rattle.mp_kernel.proofs.events.firing.schedule_copies.Given as goal

abbrev pub invariant-loop-wire : goal.invariant-loop-wire
invariant-loop-wire l = record {
  scheduled : l.wheel ≡ scheduled l.initial.wheel (copied_from l.copies (take l.wire-index l.wires));
  units : length l.wheel ≡ length l.initial.wheel;
}
