use Rattle.std.proofs.Common.{◌+◌, length}
use Rattle.mp_seats.proofs.hosting.hosting.host.Given as goal

abbrev pub ghosts-host_parts-L-DeskName : goal.ghosts-host_parts-L-DeskName
ghosts-host_parts-L-DeskName g a = record { history = a.parts.book; opening = length (g.S.EditSession.story a.parts.session).edits }

abbrev pub ghosts-host_parts-L-Ledger : goal.ghosts-host_parts-L-Ledger
ghosts-host_parts-L-Ledger g a = record { name = a.parts.ledger; parts = a.parts.designers + 1 }
