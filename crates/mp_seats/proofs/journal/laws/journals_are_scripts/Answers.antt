use Rattle.std.proofs.Common.{ap, ◌∙◌}
use Rattle.mp_seats.specs.journal.Scripts.{edits_said}
use Rattle.mp_seats.proofs.lemmas.journal.MakingLemmas.{said_edits}
use Rattle.mp_seats.proofs.journal.laws.journals_are_scripts.Goals as goal

pub returns : goal.returns
returns c = λ n m circuit edits replayed. ap edits_said (c.lines_say_accepted_edits.ensures n m circuit edits replayed) ∙ said_edits edits
