use Rattle.std.proofs.Common.{ℕ, List, Ok, take}
use Rattle.mp_streams.specs.Outgoing.{Writes}
use Rattle.mp_seats.specs.hosting.Places.{TellsOf}
use Rattle.mp_seats.proofs.hosting.telling.put_each.Given as goal

-- the lines of the seats so far were written
abbrev pub invariant-loop-index : goal.invariant-loop-index
invariant-loop-index g l = (text : List ℕ) × TellsOf (take l.index l.places) text × Writes {T = Unit {0}} (Ok tt) l.fn.out l.out text
