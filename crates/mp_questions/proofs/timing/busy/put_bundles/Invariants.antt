use Rattle.std.proofs.Common.{Ok, take, length}
use Rattle.std.specs.List.{flat_map, range_with_len}
use Rattle.mp_streams.specs.Outgoing.{Writes}
use Rattle.mp_questions.specs.timing.Waits.{bundle_wait}
use Rattle.mp_questions.proofs.timing.busy.put_bundles.Given as goal

-- the lines of the numbers so far are written
abbrev pub invariant-loop-number : goal.invariant-loop-number
invariant-loop-number g l = Writes {T = Unit {0}} (Ok tt) l.fn.out l.out (flat_map (bundle_wait l.at.netlist.now l.at.time) (take l.number (range_with_len 0 (length l.at.netlist.now.bundles))))
