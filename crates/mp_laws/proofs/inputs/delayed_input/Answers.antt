use Rattle.mp_model.proofs.lemmas.response.LateLemmas.{late_level_of}
use Rattle.mp_laws.proofs.DelayedInputLemmas.{reads_later_wave}
use Rattle.mp_laws.proofs.inputs.delayed_input.Goals as goal

pub returns-clause-later : goal.returns-clause-later
returns-clause-later c = late_level_of

pub returns-clause-reads : goal.returns-clause-reads
returns-clause-reads c = reads_later_wave
