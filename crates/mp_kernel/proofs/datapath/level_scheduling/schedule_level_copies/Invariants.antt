use Rattle.std.proofs.Common.{◌≡◌, length, take}
use Rattle.mp_kernel.specs.datapath.LevelWheels.{scheduled, copied_from}
use Rattle.mp_kernel.proofs.datapath.level_scheduling.schedule_level_copies.Given as goal

-- what stands next after the numbers before is scheduled
abbrev pub invariant-loop-change : goal.invariant-loop-change
invariant-loop-change l = record {
  wheel : l.wheel ≡ scheduled l.initial.wheel (copied_from l.copies (take l.change-index l.changes));
  places : length l.wheel ≡ length l.initial.wheel;
}
