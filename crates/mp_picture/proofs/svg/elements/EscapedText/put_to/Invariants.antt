use Rattle.std.proofs.Common.{Ok, take}
use Rattle.mp_streams.specs.Outgoing.{Writes}
use Rattle.mp_picture.specs.svg.Elements.{escaped}
use Rattle.mp_picture.proofs.svg.elements.EscapedText.put_to.Given as goal

-- the bytes so far are written
abbrev pub invariant-loop-byte : goal.invariant-loop-byte
invariant-loop-byte g l = Writes {T = Unit {0}} (Ok tt) l.fn.out l.out (escaped (take l.byte-index l.self.bytes.now))
