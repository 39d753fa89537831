use Rattle.std.proofs.Common.{◌≡◌, ◌≤◌, ℕ, length, map, option_map}
use Rattle.std.specs.Arc.{arc_value}
use Rattle.mp_records.specs.declared.module_record.ModuleRecord.{ModuleRecord}
use Rattle.mp_netlist.specs.Circuit.{module_at}
use Rattle.mp_partition.specs.runs.Outcomes.{AreSlots}
use Rattle.mp_engine.specs.region_runs.StateHistories.{kept_of}
use Rattle.mp_engine.proofs.region_runs.region_run.shared_checkpoints.Given as goal

-- those so far, and the others are left
abbrev pub invariant-loop-m : goal.invariant-loop-m
invariant-loop-m l = record {
  places : length l.left.items ≡ length l.netlist.modules;
  made : AreSlots l.m (λ m. option_map (λ (r : ModuleRecord). kept_of l.fn.kept.items m) (module_at l.netlist m)) (map (option_map arc_value) l.found.items);
  left : (k : ℕ) → l.m ≤ k → kept_of l.left.items k ≡ kept_of l.fn.kept.items k;
}
