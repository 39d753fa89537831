-- Modules of width 1.
use Rattle.std.specs.Prelude.{Bool, ◌==◌}
use Rattle.mp_records.specs.declared.module_record.ModuleRecord.{ModuleRecord}
use Rattle.mp_netlist.specs.Circuit.{Circuit, module_width}

abbrev pub is_bit_module : Circuit → ModuleRecord → Bool
is_bit_module n r = module_width n r == 1
