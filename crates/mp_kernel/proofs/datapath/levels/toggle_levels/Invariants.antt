use Rattle.std.proofs.Common.{◌≡◌, length, drop}
use Rattle.mp_kernel.specs.datapath.Levels.{toggled}
use Rattle.mp_kernel.proofs.datapath.levels.toggle_levels.Given as goal

-- the numbers from here on are still to toggle
abbrev pub invariant-loop-number : goal.invariant-loop-number
invariant-loop-number l = record {
  rest : toggled l.levels.items (drop l.number-index l.numbers) ≡ toggled l.initial.levels.items l.numbers;
  places : length l.levels.items ≡ length l.initial.levels.items;
}
