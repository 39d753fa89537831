use Rattle.std.proofs.Common.{Ok, take}
use Rattle.std.specs.List.{flat_map, range_with_len}
use Rattle.mp_streams.specs.Outgoing.{Writes}
use Rattle.mp_picture.specs.svg.Frames.{tick_count}
use Rattle.mp_picture.specs.svg.Heads.{tick_mark}
use Rattle.mp_picture.proofs.svg.head.put_ticks.Given as goal

-- the times so far are written
abbrev pub invariant-loop-number : goal.invariant-loop-number
invariant-loop-number g l = Writes {T = Unit {0}} (Ok tt) l.fn.out l.out (flat_map (tick_mark l.frame l.rows) (take l.number (range_with_len 0 (tick_count l.frame))))
