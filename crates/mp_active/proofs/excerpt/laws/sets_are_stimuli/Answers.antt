use Rattle.mp_active.proofs.lemmas.excerpt.SettingLemmas.{sets_are_stimuli}
use Rattle.mp_active.proofs.excerpt.laws.sets_are_stimuli.Goals as goal

pub returns : goal.returns
returns c = sets_are_stimuli
