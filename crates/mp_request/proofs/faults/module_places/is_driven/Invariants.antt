use Rattle.std.specs.Prelude.{◌≡◌, drop}
use Rattle.std.specs.List.{list_any}
use Rattle.std.specs.Str.{bytes_eq}
use Rattle.mp_netlist.specs.Edits.{driven_names}
use Rattle.mp_request.proofs.faults.module_places.is_driven.Given as goal

-- what is left decides
abbrev pub invariant-loop-output : goal.invariant-loop-output
invariant-loop-output l = list_any (bytes_eq l.name) (driven_names (drop l.output-index l.outputs)) ≡ list_any (bytes_eq l.name) (driven_names l.outputs)
