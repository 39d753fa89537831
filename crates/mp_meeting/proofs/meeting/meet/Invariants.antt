use Rattle.std.proofs.Common.{◌+◌, length}
use Rattle.mp_meeting.proofs.meeting.meet.Given as goal

abbrev pub ghosts-at_desk-L-DeskName : goal.ghosts-at_desk-L-DeskName
ghosts-at_desk-L-DeskName g a = record { history = a.parts.book; opening = length (g.S.EditSession.story a.parts.session).edits }

abbrev pub ghosts-at_desk-L-Ledger : goal.ghosts-at_desk-L-Ledger
ghosts-at_desk-L-Ledger g a = record { name = a.parts.ledger; parts = a.parts.designers + 1 }
