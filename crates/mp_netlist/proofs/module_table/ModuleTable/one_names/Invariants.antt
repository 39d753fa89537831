use Rattle.std.proofs.Common.{◌≡◌, drop}
use Rattle.std.specs.List.{list_any}
use Rattle.mp_records.specs.NamedWires.{module_names}
use Rattle.mp_netlist.specs.Slots.{slot_at, stands_and}
use Rattle.mp_netlist.proofs.module_table.ModuleTable.one_names.Given as goal

-- what is left decides
abbrev pub invariant-loop-m : goal.invariant-loop-m
invariant-loop-m l =
    list_any (λ m. stands_and (module_names l.wire.0) (slot_at l.self m)) (drop l.m-index l.modules)
    ≡ list_any (λ m. stands_and (module_names l.wire.0) (slot_at l.self m)) l.modules
