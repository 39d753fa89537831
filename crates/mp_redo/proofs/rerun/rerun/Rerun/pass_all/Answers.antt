use Rattle.std.proofs.Common.{◌≡◌, ℕ, ◌+◌, ◌-◌, sym, subst, ◌∙◌, arith}
use Rattle.mp_redo.specs.declared.rerun.next_step.NextStep.{NextStep}
use Rattle.mp_redo.specs.rerun.Settling.{IsAhead}
use Rattle.mp_redo.specs.rerun.Windows.{IsUnderWay}
use Rattle.mp_redo.proofs.rerun.rerun.Rerun.pass_all.Goals as goal

pub loop-time-preserved : goal.loop-time-preserved
loop-time-preserved g c =
    let change = c.args.change.now in
    let ahead = subst (λ (a : NextStep). IsAhead change.old.now change.new.now change.run.now c.loop-time.time c.look_ahead.new.self a) c.in-Next.is c.in_ok-next.ensures in
    let first = ahead.0 in
    let before = c.loop-time.invariant.some in
    let over = c.pass_still-time.ensures in
    let later = over.later in
    let within = over.within in
    let ends = over.after.is.window.ends in
    record {
      some = omega (arith, first, before, later);
      most = omega (arith, within, ends);
      entered = ahead.3 ∙ sym over.end;
      before = over.after;
    }

pub pass_unit-requires-clause-entered : goal.pass_unit-requires-clause-entered
pass_unit-requires-clause-entered g c κs within =
    let change = c.args.change.now in
    let ahead = subst (λ (a : NextStep). IsAhead change.old.now change.new.now change.run.now c.loop-time.time c.look_ahead.new.self a) c.in-Next.is c.in_ok-next.ensures in
    let same = ahead.3 ∙ sym c.pass_still-time.ensures.end in
    let low = c.if-time-self.true in
    omega (arith, same, low)

pub loop-time-preserved-then-time-self : goal.loop-time-preserved-then-time-self
loop-time-preserved-then-time-self g c =
    let change = c.args.change.now in
    let ahead = subst (λ (a : NextStep). IsAhead change.old.now change.new.now change.run.now c.loop-time.time c.look_ahead.new.self a) c.in-Next.is c.in_ok-next.ensures in
    let time = c.pass_still-time.result in
    let ends = c.pass_still-time.ensures.after.is.window.ends in
    let low = c.if-time-self.true in
    let same : time ≡ time + 1 - 1 = omega arith in
    record {
      some = omega arith;
      most = omega (arith, low, ends);
      entered = ahead.3 ∙ sym c.pass_still-time.ensures.end ∙ sym c.in_ok-pass_unit-in-Next.ensures.end;
      before = subst (λ (t : ℕ). IsUnderWay change.old.now change.new.now change.run.now t c.pass_unit.new.self) same c.in_ok-pass_unit-in-Next.ensures.after;
    }
