use Rattle.mp_kernel.proofs.lemmas.timers.TimerLemmas.{listed_come}
use Rattle.mp_kernel.proofs.timers.laws.listed_come.Goals as goal

pub returns : goal.returns
returns c = listed_come
