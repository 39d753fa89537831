-- The output ports of a module.
use Rattle.std.specs.Prelude.{ℕ, List, None, slice_index_or}
use Rattle.mp_records.specs.declared.module_record.ModuleRecord.{ModuleRecord}
use Rattle.mp_records.specs.declared.ports.Output.{Output}

-- an output port, without a wire where there is no such port
abbrev pub output_in : List Output → ℕ → Output
output_in outputs p = slice_index_or outputs p (record { wire = None; delay = 1 })

abbrev pub output_at : ModuleRecord → ℕ → Output
output_at r p = output_in r.outputs p

abbrev pub delay_of : ModuleRecord → ℕ → ℕ
delay_of r p = (output_at r p).delay
