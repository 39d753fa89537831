use Rattle.mp_laws.proofs.AlikeLemmas.{later_changes_nothing_before}
use Rattle.mp_laws.proofs.stimuli.later_changes_nothing_before.Goals as goal

pub returns : goal.returns
returns c = later_changes_nothing_before
