use Rattle.std.specs.Prelude.{◌≡◌, ◌+◌, ℕ, drop, not}
use Rattle.std.specs.List.{position_or_len, enumerate_from}
use Rattle.mp_modules.specs.Kinds.{output_width}
use Rattle.mp_netlist.specs.Edits.{output_fits}
use Rattle.mp_records.specs.declared.port_names.OutputName.{OutputName}
use Rattle.mp_request.specs.faults.EditPlaces.{misfit_output}
use Rattle.mp_request.proofs.faults.module_places.misfit_output.Given as goal

-- the first is among those that are left
abbrev pub invariant-loop-port : goal.invariant-loop-port
invariant-loop-port l =
    l.port + position_or_len (λ (port : ℕ × OutputName). not (output_fits l.netlist port.1.wire (output_width l.kind l.width port.0))) (enumerate_from l.port (drop l.port l.outputs))
    ≡ misfit_output l.netlist l.kind l.width l.outputs
