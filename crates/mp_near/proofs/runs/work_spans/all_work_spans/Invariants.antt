use Rattle.std.proofs.Common.{◌≡◌, ℕ, map, take}
use Rattle.mp_near.specs.region.Regions.{with_number}
use Rattle.mp_near.proofs.runs.work_spans.all_work_spans.Given as goal

-- those so far
abbrev pub invariant-loop-j : goal.invariant-loop-j
invariant-loop-j l = (far : ℕ) → l.all.items ≡ map (with_number far l.modules) (take l.j l.work_spans)
