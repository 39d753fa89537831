use Rattle.mp_wave.proofs.ChangesLemmas.{levels_of_wave, form_of_wave}
use Rattle.mp_wave.proofs.laws.levels_of_wave.Goals as goal

pub returns-clause-levels : goal.returns-clause-levels
returns-clause-levels c = levels_of_wave

pub returns-clause-form : goal.returns-clause-form
returns-clause-form c = form_of_wave
