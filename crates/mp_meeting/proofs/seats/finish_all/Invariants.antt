use Rattle.std.proofs.Common.{◌≡◌, false, map, All}
use Rattle.mp_meeting.specs.Sittings.{DesignerTally}
use Rattle.mp_meeting.specs.Seats.{working, tally_of}
use Rattle.mp_meeting.proofs.seats.finish_all.Given as goal

-- those who rose so far
abbrev pub invariant-loop-sitting : goal.invariant-loop-sitting
invariant-loop-sitting g l = record {
  designers : l.designers.items ≡ map working l.yielded;
  tallies : l.tallies.items ≡ map tally_of l.yielded;
  whole : All (λ (s : DesignerTally). s.wanting ≡ false) l.yielded;
}
