use Rattle.mp_simulation.proofs.lemmas.bits.ScheduleLemmas.{firing_schedules, firing_leaves_others}
use Rattle.mp_simulation.proofs.bits.laws.firing_schedules.Goals as goal

pub returns : goal.returns
returns c = record { driven = firing_schedules; others = firing_leaves_others }
