use Rattle.std.proofs.Common.{◌≡◌, ℕ, ◌<◌, length}
use Rattle.mp_depend.specs.Drivers.{driver_in}
use Rattle.mp_partition.specs.runs.Marks.{is_marked}
use Rattle.mp_active.specs.excerpt.Excerpts.{is_followed}
use Rattle.mp_redo.proofs.rerun.first_simulation.heard_wires.Given as goal

-- those of the wires so far
abbrev pub invariant-loop-w : goal.invariant-loop-w
invariant-loop-w l = record {
  count : length l.heard.items ≡ l.w;
  each : (k : ℕ) → k < l.w → is_marked l.heard.items k ≡ is_followed (is_marked l.active) (driver_in l.drivers.items k);
}
