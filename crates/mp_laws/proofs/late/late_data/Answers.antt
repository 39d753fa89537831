use Rattle.mp_laws.proofs.LateDataLemmas.{leads_are_no_later, stimuli_are_never_late, only_starts_are_late_alone}
use Rattle.mp_laws.proofs.late.late_data.Goals as goal

pub returns-clause-times : goal.returns-clause-times
returns-clause-times c = leads_are_no_later

pub returns-clause-stimuli : goal.returns-clause-stimuli
returns-clause-stimuli c = stimuli_are_never_late

pub returns-clause-starts : goal.returns-clause-starts
returns-clause-starts c = only_starts_are_late_alone
