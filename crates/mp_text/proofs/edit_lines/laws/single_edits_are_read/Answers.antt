use Rattle.mp_text.proofs.lemmas.edit_lines.ReadBackLemmas.{read_as_written}
use Rattle.mp_text.proofs.edit_lines.laws.single_edits_are_read.Goals as goal

pub returns : goal.returns
returns c = read_as_written
