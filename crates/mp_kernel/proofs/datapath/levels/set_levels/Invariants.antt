use Rattle.std.proofs.Common.{◌≡◌, length, drop}
use Rattle.mp_kernel.specs.datapath.Levels.{changed}
use Rattle.mp_kernel.proofs.datapath.levels.set_levels.Given as goal

-- the changes from here on are still to be made
abbrev pub invariant-loop-change : goal.invariant-loop-change
invariant-loop-change l = record {
  rest : changed l.levels.items (drop l.change-index l.changes) ≡ changed l.initial.levels.items l.changes;
  places : length l.levels.items ≡ length l.initial.levels.items;
}
