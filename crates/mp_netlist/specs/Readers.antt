-- Who reads a wire.
use Rattle.std.specs.Prelude.{ℕ, ◌==◌, List, [], Option, Some, None, map, filter}
use Rattle.std.specs.List.{flat_map, enumerate_from}
use Rattle.mp_records.specs.declared.ids.ModuleId.{ModuleId}
use Rattle.mp_records.specs.declared.module_record.ModuleRecord.{ModuleRecord}
use Rattle.mp_records.specs.declared.ports.Input.{Input}
use Rattle.mp_netlist.specs.Circuit.{Circuit}

-- the numbered inputs that are at the wire, as input ports of the module
abbrev pub ports_at : ℕ → ℕ → List (ℕ × Input) → List (ModuleId × ℕ)
ports_at w m inputs = map (λ port. (record { 0 = m }, port.0)) (filter (λ port. port.1.wire.0 == w) inputs)

-- the input ports of what stands in a numbered slot that are at the wire
abbrev pub readers_in : ℕ → ℕ × Option ModuleRecord → List (ModuleId × ℕ)
readers_in w (m, None) = []
readers_in w (m, Some r) = ports_at w m (enumerate_from 0 r.inputs)

-- each module and input port that is at the wire, by module, then port
unfoldable pub readers : Circuit → ℕ → List (ModuleId × ℕ)
readers n w = flat_map (readers_in w) (enumerate_from 0 n.modules)
