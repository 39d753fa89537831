use Rattle.mp_modules.proofs.WordLemmas.{by_word}
use Rattle.mp_modules.proofs.laws.named_by_word.Goals as goal

pub returns : goal.returns
returns c = by_word
