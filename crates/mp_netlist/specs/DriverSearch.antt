-- What a search among the modules needs.
use Rattle.std.specs.Prelude.{◌<◌, ◌^◌, length, Option, Some, None}
use Rattle.mp_records.specs.declared.module_record.ModuleRecord.{ModuleRecord}

-- the outputs of the module that stands in the slot can be numbered
abbrev pub HasFewPorts : Option ModuleRecord → Type 0
HasFewPorts None = Unit {0}
HasFewPorts (Some r) = length r.outputs < 2 ^ 32
