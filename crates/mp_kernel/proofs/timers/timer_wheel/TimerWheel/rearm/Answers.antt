use Rattle.std.proofs.Common.{◌-◌, ap, sym, ◌∙◌, subst}
use Rattle.std.proofs.lemmas.List.{set-get_or}
use Rattle.mp_kernel.specs.timers.TimerWheels.{never, time_of, HasEntered}
use Rattle.mp_kernel.proofs.lemmas.timers.TimerLemmas.{but_taken, listed_before, has_entered}
use Rattle.mp_kernel.proofs.timers.timer_wheel.TimerWheel.rearm.Goals as goal

pub returns-clause-again : goal.returns-clause-again
returns-clause-again c taken is =
    let old = c.args.self.now in
    let x = c.args.number in
    has_entered c.args.now taken x (time_of old x) old c.enter.new.self c.requires.later (listed_before c.args.now taken x old is) c.requires.within
    (ap (λ v. v.items) c.in_ok-enter.ensures.times ∙ sym (set-get_or old.times.items x never)) c.in_ok-enter.ensures.span
    (subst (λ u. HasEntered old.wheel c.enter.new.self.wheel x (u - c.args.now)) c.time_of-time.ensures c.in_ok-enter.ensures.entered) (but_taken c.args.now taken x old is)
