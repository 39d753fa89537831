-- A module with something else at one of its ports.
use Rattle.std.specs.Prelude.{ℕ, Option, slice_set}
use Rattle.mp_records.specs.declared.ids.WireId.{WireId}
use Rattle.mp_records.specs.declared.module_record.ModuleRecord.{ModuleRecord}
use Rattle.mp_records.specs.Inputs.{input_at}
use Rattle.mp_records.specs.Outputs.{output_at}

-- a module that reads another wire at a port, with the port's delay
abbrev pub with_input : ℕ → WireId → ModuleRecord → ModuleRecord
with_input port wire r = record r { inputs = slice_set r.inputs port (record (input_at r port) { wire = wire }) }

-- a module with another delay at an input port
abbrev pub with_input_delay : ℕ → ℕ → ModuleRecord → ModuleRecord
with_input_delay port delay r = record r { inputs = slice_set r.inputs port (record (input_at r port) { delay = delay }) }

-- a module that drives another wire at a port, or none, with the port's delay
abbrev pub with_output : ℕ → Option WireId → ModuleRecord → ModuleRecord
with_output port wire r = record r { outputs = slice_set r.outputs port (record (output_at r port) { wire = wire }) }

-- a module with another delay at an output port
abbrev pub with_delay : ℕ → ℕ → ModuleRecord → ModuleRecord
with_delay port delay r = record r { outputs = slice_set r.outputs port (record (output_at r port) { delay = delay }) }
