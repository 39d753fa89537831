use Rattle.std.proofs.Common.{[], length, replicate, take}
use Rattle.std.specs.List.{flat_map, enumerate_from}
use Rattle.mp_netlist.specs.Readers.{readers_in}
use Rattle.mp_picture.specs.ReaderRows.{HasMore}
use Rattle.mp_picture.proofs.readers.Readers.of.Given as goal

-- the inputs of the modules so far are in their rows
abbrev pub invariant-loop-m : goal.invariant-loop-m
invariant-loop-m l = HasMore (replicate (length l.netlist.wires) []) l.rows.items (λ w. flat_map (readers_in w) (take l.m (enumerate_from 0 l.netlist.modules)))
