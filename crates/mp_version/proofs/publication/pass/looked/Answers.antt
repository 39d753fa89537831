use Rattle.mp_version.proofs.lemmas.publication.KeepingLemmas.{enters}
use Rattle.mp_version.proofs.publication.pass.looked.Goals as goal

pub enter_as-requires : goal.enter_as-requires
enter_as-requires c x = enters _ _ x
