use Rattle.mp_text.proofs.lemmas.edit_lines.AcceptedLemmas.{lines_of_edits}
use Rattle.mp_text.proofs.edit_lines.laws.lines_say_accepted_edits.Goals as goal

pub returns : goal.returns
returns c = lines_of_edits c.edits_keep_netlists.ensures
