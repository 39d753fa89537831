use Rattle.std.proofs.Common.{Ok, take}
use Rattle.std.specs.List.{flat_map}
use Rattle.mp_streams.specs.Outgoing.{Writes}
use Rattle.mp_picture.specs.svg.Arrows.{arrow_text}
use Rattle.mp_picture.proofs.svg.arrow_group.put_arrows.Given as goal

-- the arrows so far are written
abbrev pub invariant-loop-arrow : goal.invariant-loop-arrow
invariant-loop-arrow g l = Writes {T = Unit {0}} (Ok tt) l.fn.out l.out (flat_map (arrow_text l.frame l.wires) (take l.arrow-index l.arrows))
