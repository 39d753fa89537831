use Rattle.std.proofs.Common.{Ok, take, length}
use Rattle.std.specs.List.{flat_map, range_with_len}
use Rattle.mp_streams.specs.Outgoing.{Writes}
use Rattle.mp_questions.specs.timing.Measures.{bundle_measure}
use Rattle.mp_questions.proofs.timing.measure.put_bundles.Given as goal

-- the lines of the numbers so far are written
abbrev pub invariant-loop-number : goal.invariant-loop-number
invariant-loop-number g l =
    Writes {T = Unit {0}} (Ok tt) l.fn.out l.out (flat_map (bundle_measure l.netlist l.units.from l.units.to) (take l.number (range_with_len 0 (length l.netlist.bundles))))
