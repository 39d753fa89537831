use Rattle.std.proofs.Common.{ℕ, ◌+◌, List, refl, subst}
use Rattle.mp_kernel.specs.timers.TimerWheels.{IsTimerWheel}
use Rattle.mp_kernel.proofs.lemmas.timers.TimerLemmas.{turned}
use Rattle.mp_kernel.proofs.timers.timer_wheel.TimerWheel.skip.Goals as goal

pub returns-clause-is : goal.returns-clause-is
returns-clause-is c t is =
    let new = record c.args.self.now { wheel = c.skip.new.self } in
    subst (λ (taken : List ℕ). IsTimerWheel (t + 1) taken new) c.requires.quiet (turned t c.args.self.now new refl refl c.skip.ensures is)
