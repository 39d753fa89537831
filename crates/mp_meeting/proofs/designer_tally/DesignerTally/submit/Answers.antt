use Rattle.std.proofs.Common.{refl, ap, subst, length}
use Rattle.std.specs.Arc.{arc_value}
use Rattle.mp_version.specs.Stories.{Story}
use Rattle.mp_meeting.specs.Sittings.{DesignerTally, told_of, IsAccepted}
use Rattle.mp_meeting.proofs.SittingLemmas.{accepted_there}
use Rattle.mp_meeting.proofs.designer_tally.DesignerTally.submit.Goals as goal

pub returns-clause-accepted : goal.returns-clause-accepted
returns-clause-accepted g c =
    let at = c.self.inside in
    let me = c.submit.new.me in
    let told = c.in_ok-receipt.ensures in
    let version : Story = arc_value c.in_ok-receipt.receipt.version in
    let notice : Story = c.in_ok-receipt.receipt.notice in
    let old : DesignerTally = record { seen = at.me.seen; accepted = at.me.accepted; refused = at.refused; told = told_of at.last; wanting = at.wanting; number = at.me.number; signed = at.me.signed; reads = at.me.reads } in
    let new : DesignerTally = record { seen = me.seen; accepted = me.accepted; refused = at.refused; told = length notice.edits; wanting = at.wanting; number = me.number; signed = me.signed; reads = me.reads } in (
      subst (λ (s : DesignerTally). IsAccepted s new c.args.edit) c.self.view_is
          (accepted_there old new c.args.edit told.accepted.0 version told.accepted.1 told.accepted.2 told.seen told.counted refl (ap (λ (s : Story). length s.edits) told.notice) refl told.number told.signed),
      c.number-number.ensures,
    )
