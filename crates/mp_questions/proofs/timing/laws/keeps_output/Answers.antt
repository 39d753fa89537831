use Rattle.mp_questions.proofs.lemmas.timing.LawLemmas.{keeps_output}
use Rattle.mp_questions.proofs.timing.laws.keeps_output.Goals as goal

pub returns : goal.returns
returns c = keeps_output
