use Rattle.std.proofs.Common.{◌≡◌, ◌+◌, ◌-◌, ◌<◌, subst, arith}
use Rattle.mp_engine.specs.region_runs.RegionRuns.{IsUnderWay}
use Rattle.mp_engine.proofs.lemmas.region_runs.RegionRunLemmas.{can_less}
use Rattle.mp_engine.proofs.region_runs.region_run.RegionRun.run_units.Goals as goal

pub run_unit-requires-clause-before : goal.run_unit-requires-clause-before
run_unit-requires-clause-before g c =
    can_less c.args.region.now (c.loop-time.time - 1) (c.loop-time.time + 1) c.args.to c.loop-time.self (omega arith) c.loop-time.invariant.can

pub unit_after-time-requires-clause-before : goal.unit_after-time-requires-clause-before
unit_after-time-requires-clause-before g c =
    let can = c.loop-time.invariant.can in
    record { keeps = can.keeps; is_heard = can.is_heard; is = c.in_ok-run_unit.ensures can.keeps can.is_heard c.args.to (omega arith) can.is }

pub loop-time-preserved : goal.loop-time-preserved
loop-time-preserved g c =
    let can = c.loop-time.invariant.can in
    let low : c.loop-time.time < c.args.to = omega arith in
    let later = c.unit_after-time.ensures.later in
    let some = c.loop-time.invariant.some in
    record {
      some = omega arith;
      most = c.unit_after-time.ensures.most;
      can = record {
        keeps = can.keeps;
        is_heard = can.is_heard;
        is = c.unit_after-time.ensures.after can.keeps can.is_heard c.args.to (omega arith) (c.in_ok-run_unit.ensures can.keeps can.is_heard c.args.to low can.is);
      };
      over = λ keeps is_heard until enough is.
          c.unit_after-time.ensures.after keeps is_heard until enough
          (c.in_ok-run_unit.ensures keeps is_heard until (omega (arith, low, enough)) (c.loop-time.invariant.over keeps is_heard until enough is));
    }

pub returns : goal.returns
returns g c keeps is_heard until enough is =
    let same : c.loop-time.time - 1 ≡ c.args.to - 1 = (let most = c.loop-time.invariant.most in omega (arith, most)) in
    subst (λ k. IsUnderWay c.args.region.now keeps is_heard k until c.loop-time.self) same (c.loop-time.invariant.over keeps is_heard until enough is)
