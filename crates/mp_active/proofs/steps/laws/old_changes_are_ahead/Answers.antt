use Rattle.mp_active.proofs.lemmas.steps.OldChangeLemmas.{old_changes_are_ahead}
use Rattle.mp_active.proofs.steps.laws.old_changes_are_ahead.Goals as goal

pub returns : goal.returns
returns c = old_changes_are_ahead
