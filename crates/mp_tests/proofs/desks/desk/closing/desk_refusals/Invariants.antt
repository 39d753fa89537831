use Rattle.std.proofs.Common.{◌+◌, length}
use Rattle.mp_tests.proofs.desks.desk.closing.desk_refusals.Given as goal

abbrev pub ghosts-close_without_all-L-DeskName : goal.ghosts-close_without_all-L-DeskName
ghosts-close_without_all-L-DeskName g a = record { history = a.parts.book; opening = length a.parts.session.story.edits }

abbrev pub ghosts-close_without_all-L-Ledger : goal.ghosts-close_without_all-L-Ledger
ghosts-close_without_all-L-Ledger g a = record { name = a.parts.ledger; parts = a.parts.designers + 1 }
