use Rattle.std.proofs.Common.{ℕ, List, refl, sym, ap, ◌∙◌, arith}
use Rattle.std.proofs.lemmas.Bool.{false≢true}
use Rattle.mp_kernel.specs.timers.TimerWheels.{time_in}
use Rattle.mp_active.proofs.lemmas.compare.PassingLemmas.{left_out, put_back, passed, taken_listed}
use Rattle.mp_active.proofs.compare.comparison.Comparison.pass.Goals as goal

pub returns-then-time_of-time-clause-passed : goal.returns-then-time_of-time-clause-passed
returns-then-time_of-time-clause-passed c =
    let run = c.args.run.now in
    let was = c.args.self.now in
    let number = c.args.number in
    let rest = c.requires.cursors.0 in
    let has = c.requires.cursors.1 in
    let is = record was { timers = c.rearm.new.self } in
    let later = c.if-time_of-time.true in
    let now = c.time_of.ensures in
    let times = c.in_ok-rearm.ensures.times in
    passed run c.args.time number was is
    (put_back run c.args.time number rest was is has (omega arith) refl refl times (λ others. c.in_ok-rearm.ensures.again others))
    (λ needed none. absurd (taken_listed run c.args.time number rest was has (sym (ap (λ (ts : List ℕ). time_in ts number) times) ∙ none)))

pub returns-clause-passed : goal.returns-clause-passed
returns-clause-passed c =
    let run = c.args.run.now in
    let was = c.args.self.now in
    let number = c.args.number in
    let has = c.requires.cursors.1 in
    let is = record was { timers = c.cancel.new.self } in
    passed run c.args.time number was is
    (left_out run c.args.time number was is (let a = has.shape.times in let b = c.requires.within in omega arith) refl refl c.cancel.ensures.times (λ others. c.cancel.ensures.is c.args.time others))
    (λ needed. absurd (false≢true (sym c.if-is_needed.false ∙ c.is_needed.ensures ∙ needed)))
