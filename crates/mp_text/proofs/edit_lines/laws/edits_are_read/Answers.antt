use Rattle.mp_text.proofs.lemmas.edit_lines.BatchLemmas.{edits_as_written}
use Rattle.mp_text.proofs.edit_lines.laws.edits_are_read.Goals as goal

pub returns : goal.returns
returns c = edits_as_written
