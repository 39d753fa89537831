use Rattle.std.proofs.Common.{ap, arith}
use Rattle.mp_kernel.proofs.lemmas.timers.TimerLemmas.{but_fresh, but_taken, has_entered}
use Rattle.mp_kernel.proofs.timers.timer_wheel.TimerWheel.arm.Goals as goal

pub returns-clause-fresh : goal.returns-clause-fresh
returns-clause-fresh c taken none is =
    has_entered c.args.now taken c.args.number c.args.time c.args.self.now c.enter.new.self c.requires.later (λ e. let before = c.requires.before in absurd (omega arith)) c.requires.within
    (ap (λ v. v.items) c.in_ok-enter.ensures.times) c.in_ok-enter.ensures.span c.in_ok-enter.ensures.entered (but_fresh c.args.now taken c.args.number c.args.self.now none is)

pub returns-clause-again : goal.returns-clause-again
returns-clause-again c taken is =
    has_entered c.args.now taken c.args.number c.args.time c.args.self.now c.enter.new.self c.requires.later (λ e. let before = c.requires.before in absurd (omega arith)) c.requires.within
    (ap (λ v. v.items) c.in_ok-enter.ensures.times) c.in_ok-enter.ensures.span c.in_ok-enter.ensures.entered (but_taken c.args.now taken c.args.number c.args.self.now is)
