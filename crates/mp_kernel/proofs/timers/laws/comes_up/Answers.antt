use Rattle.mp_kernel.proofs.lemmas.timers.TimerLemmas.{comes_up}
use Rattle.mp_kernel.proofs.timers.laws.comes_up.Goals as goal

pub returns : goal.returns
returns c = comes_up
