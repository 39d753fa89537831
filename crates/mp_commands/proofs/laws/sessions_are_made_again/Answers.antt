use Rattle.mp_commands.proofs.MadeAgainLemmas.{made_again}
use Rattle.mp_commands.proofs.laws.sessions_are_made_again.Goals as goal

pub returns : goal.returns
returns c = made_again c.edits_keep_netlists.ensures c.lines_say_accepted_edits.ensures
