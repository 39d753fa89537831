-- What isn't touched.
use Rattle.std.specs.Prelude.{◌≡◌, ℕ, Some}
use Rattle.mp_records.specs.declared.module_record.ModuleRecord.{ModuleRecord}
use Rattle.mp_netlist.specs.Circuit.{Circuit, module_at}

-- what stands in the new netlist as the module stands in the old one with the same record
abbrev pub IsSameStanding : Circuit → Circuit → ℕ → Type 0
IsSameStanding old new m = (r : ModuleRecord) → module_at new m ≡ Some r → module_at old m ≡ Some r
