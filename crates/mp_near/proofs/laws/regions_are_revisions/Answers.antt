use Rattle.mp_near.proofs.lemmas.laws.RevisionLemmas.{regions_are_circuits, regions_are_revisions}
use Rattle.mp_near.proofs.laws.regions_are_revisions.Goals as goal

pub returns : goal.returns
returns c = record { circuits = regions_are_circuits; revisions = regions_are_revisions }
