use Rattle.mp_version.proofs.lemmas.publication.KeepingLemmas.{admits, tells, starts}
use Rattle.mp_version.proofs.publication.publication.Publication.place.Goals as goal

pub reader-requires : goal.reader-requires
reader-requires g c = admits

pub tell-requires : goal.tell-requires
tell-requires g c = tells _ _

pub learn-requires-clause-rule : goal.learn-requires-clause-rule
learn-requires-clause-rule g c = starts _ _ _ _
