use Rattle.std.proofs.Common.{◌≡◌, false, refl}
use Rattle.std.proofs.lemmas.List.Elements.{All-push}
use Rattle.mp_meeting.specs.Sittings.{DesignerTally}
use Rattle.mp_meeting.specs.Seats.{working, tally_of}
use Rattle.mp_meeting.proofs.SeatLemmas.{mapped_more}
use Rattle.mp_meeting.proofs.seats.finish_all.Goals as goal

pub loop-sitting-preserved : goal.loop-sitting-preserved
loop-sitting-preserved g c = record {
  designers = mapped_more working _ _ _ _ _ c.in_ok-finish_one.ensures.designers c.loop-sitting.invariant.designers refl;
  tallies = mapped_more tally_of _ _ _ _ _ c.in_ok-finish_one.ensures.tallies c.loop-sitting.invariant.tallies refl;
  whole = All-push (λ (s : DesignerTally). s.wanting ≡ false) c.loop-sitting.yielded c.in-Some.sitting c.loop-sitting.invariant.whole c.in_ok-finish_one.ensures.whole;
}
