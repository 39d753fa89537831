use Rattle.std.proofs.Common.{take}
use Rattle.std.specs.List.{flat_map, enumerate_from}
use Rattle.mp_picture.specs.ReaderRows.{HasMore, port_at}
use Rattle.mp_picture.proofs.readers.push_inputs.Given as goal

-- the inputs so far are in their rows
abbrev pub invariant-loop-port : goal.invariant-loop-port
invariant-loop-port l = HasMore l.fn.rows.items l.rows.items (λ w. flat_map (port_at w l.id.0) (take l.port (enumerate_from 0 l.inputs)))
