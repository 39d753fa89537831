use Rattle.mp_simulation.proofs.lemmas.bits.BeginningLemmas.{first_are_known, no_copies_at_first}
use Rattle.mp_simulation.proofs.bits.laws.begins_with_first_changes.Goals as goal

pub returns : goal.returns
returns c = record { events = first_are_known; copies = no_copies_at_first }
