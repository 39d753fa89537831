use Rattle.std.proofs.Common.{◌≡◌, ℕ, ◌<◌, Some}
use Rattle.mp_records.specs.declared.module_record.ModuleRecord.{ModuleRecord}
use Rattle.mp_netlist.specs.declared.wire_knowledge.WireKnowledge.TheVariants.{At}
use Rattle.mp_netlist.specs.Slots.{slot_at}
use Rattle.mp_netlist.specs.Knowledge.{Knows}
use Rattle.mp_netlist.proofs.module_table.ModuleTable.found_around.Given as goal

-- the modules so far are known
abbrev pub invariant-loop-m : goal.invariant-loop-m
invariant-loop-m l = (k : ℕ) (r : ModuleRecord) → k < l.m → slot_at l.self k ≡ Some r → Knows (At l.around) k r
