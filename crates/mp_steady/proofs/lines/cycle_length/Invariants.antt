use Rattle.std.proofs.Common.{◌≡◌, ◌*◌, ◌≤◌, take}
use Rattle.mp_steady.specs.Cycles.{cycle_length}
use Rattle.mp_steady.proofs.lines.cycle_length.Given as goal

-- the units of the steps so far
abbrev pub invariant-loop-change : goal.invariant-loop-change
invariant-loop-change l = record {
  tracer : l.tracer.levels ≡ l.fn.tracer.levels;
  value : l.length ≡ cycle_length l.fn.tracer.levels.netlist.now (take l.change-index l.cycle);
  few : l.length ≤ 4294967296 * l.change-index;
}
