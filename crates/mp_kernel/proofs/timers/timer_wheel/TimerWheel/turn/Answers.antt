use Rattle.std.proofs.Common.{refl}
use Rattle.mp_kernel.proofs.lemmas.timers.TimerLemmas.{turned}
use Rattle.mp_kernel.proofs.timers.timer_wheel.TimerWheel.turn.Goals as goal

pub returns-clause-is : goal.returns-clause-is
returns-clause-is c t is = turned t c.args.self.now (record c.args.self.now { wheel = c.turn.new.self }) refl refl c.turn.ensures.turned is
