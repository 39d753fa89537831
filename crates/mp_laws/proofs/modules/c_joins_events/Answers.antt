use Rattle.mp_laws.proofs.ModuleEventLemmas.{joins_events, keeps_pace}
use Rattle.mp_laws.proofs.modules.c_joins_events.Goals as goal

pub returns-clause-counts : goal.returns-clause-counts
returns-clause-counts c = joins_events

pub returns-clause-pace : goal.returns-clause-pace
returns-clause-pace c = keeps_pace
