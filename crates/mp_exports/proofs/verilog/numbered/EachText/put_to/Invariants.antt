use Rattle.std.proofs.Common.{Ok, take}
use Rattle.std.specs.List.{flat_map, range_with_len}
use Rattle.mp_streams.specs.Outgoing.{Writes}
use Rattle.mp_exports.proofs.verilog.numbered.EachText.put_to.Given as goal

-- the texts of the numbers so far are written
abbrev pub invariant-loop-number : goal.invariant-loop-number
invariant-loop-number g l =
    Writes {T = Unit {0}} (Ok tt) l.fn.out l.out (flat_map (g.T.Numbered.item l.self.items) (take l.number (range_with_len 0 l.self.count)))
