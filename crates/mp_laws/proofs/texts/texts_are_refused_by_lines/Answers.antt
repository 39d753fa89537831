use Rattle.mp_laws.proofs.RefusedTextLemmas.{texts_are_refused_by_lines}
use Rattle.mp_laws.proofs.texts.texts_are_refused_by_lines.Goals as goal

pub returns : goal.returns
returns c = texts_are_refused_by_lines
