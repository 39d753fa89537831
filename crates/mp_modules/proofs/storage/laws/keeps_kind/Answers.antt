use Rattle.mp_modules.proofs.lemmas.storage.KindLemmas.{keeps_kind}
use Rattle.mp_modules.proofs.storage.laws.keeps_kind.Goals as goal

pub returns : goal.returns
returns c = keeps_kind
