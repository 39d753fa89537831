use Rattle.mp_picture.proofs.EventLemmas.{changes_at_one}
use Rattle.mp_picture.proofs.laws.changes_at_one.Goals as goal

pub returns : goal.returns
returns c = changes_at_one
