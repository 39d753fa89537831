use Rattle.mp_active.proofs.lemmas.excerpt.ShownLemmas.{simulations_show}
use Rattle.mp_active.proofs.lemmas.excerpt.SimulatedLemmas.{showing_simulates}
use Rattle.mp_active.proofs.excerpt.laws.excerpts_are_simulated.Goals as goal

pub returns : goal.returns
returns c = record { simulates = showing_simulates; shows = simulations_show }
