use Rattle.std.proofs.Common.{◌≡◌, ℕ, ◌<◌, length}
use Rattle.mp_modules.specs.automata.Codes.{bit}
use Rattle.mp_partition.specs.runs.Marks.{is_marked}
use Rattle.mp_partition.specs.regions.Regions.{partition_of}
use Rattle.mp_redo.proofs.rerun.first_simulation.homes_of.Given as goal

-- those of the modules so far
abbrev pub invariant-loop-m : goal.invariant-loop-m
invariant-loop-m l = record {
  count : length l.homes.items ≡ l.m;
  each : (k : ℕ) → k < l.m → partition_of l.homes.items k ≡ bit (is_marked l.active k);
}
