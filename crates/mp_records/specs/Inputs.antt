-- The input ports of a module.
use Rattle.std.specs.Prelude.{ℕ, List, slice_index_or}
use Rattle.mp_records.specs.declared.module_record.ModuleRecord.{ModuleRecord}
use Rattle.mp_records.specs.declared.ports.Input.{Input}

-- what stands for an input port where there is none: wire 0 without a delay
abbrev pub no_input : Input
no_input = record { wire = record { 0 = 0 }; delay = 0 }

abbrev pub input_in : List Input → ℕ → Input
input_in inputs p = slice_index_or inputs p no_input

abbrev pub input_at : ModuleRecord → ℕ → Input
input_at r p = input_in r.inputs p
