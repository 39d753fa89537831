use Rattle.std.proofs.Common.{◌≡◌, ℕ, ◌<◌, false, Some}
use Rattle.std.specs.List.{list_any}
use Rattle.mp_records.specs.declared.module_record.ModuleRecord.{ModuleRecord}
use Rattle.mp_netlist.specs.Circuit.{module_at}
use Rattle.mp_model.specs.Evaluations.{is_late}
use Rattle.mp_model.proofs.evaluation.has_late_inputs.Given as goal

-- no input of the modules so far has a delay
abbrev pub invariant-loop-m : goal.invariant-loop-m
invariant-loop-m l = (k : ℕ) (r : ModuleRecord) → k < l.m → module_at l.netlist k ≡ Some r → list_any is_late r.inputs ≡ false
