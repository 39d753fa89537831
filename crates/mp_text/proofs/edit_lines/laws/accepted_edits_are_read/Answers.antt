use Rattle.mp_text.proofs.lemmas.edit_lines.AcceptedLemmas.{accepted_read}
use Rattle.mp_text.proofs.edit_lines.laws.accepted_edits_are_read.Goals as goal

pub returns : goal.returns
returns c = accepted_read c.edits_keep_netlists.ensures
