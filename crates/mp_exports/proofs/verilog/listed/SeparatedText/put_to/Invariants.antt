use Rattle.std.proofs.Common.{◌≡◌, not, Ok, take}
use Rattle.std.specs.List.{flat_map, range_with_len}
use Rattle.mp_streams.specs.Outgoing.{Writes}
use Rattle.mp_exports.specs.verilog.Lists.{has_some, without_first}
use Rattle.mp_exports.proofs.verilog.listed.SeparatedText.put_to.Given as goal

-- the items of the numbers so far are written, and the next one is the first if there was none
abbrev pub invariant-loop-number : goal.invariant-loop-number
invariant-loop-number g l =
    Writes {T = Unit {0}} (Ok tt) l.fn.out l.out (without_first (flat_map (g.T.Listed.item l.self.items) (take l.number (range_with_len 0 l.self.count))))
    × (l.is_first ≡ not (has_some (flat_map (g.T.Listed.item l.self.items) (take l.number (range_with_len 0 l.self.count)))))
