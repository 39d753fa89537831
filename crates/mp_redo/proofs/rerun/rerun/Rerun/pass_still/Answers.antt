use Rattle.std.proofs.Common.{◌≡◌, ◌+◌, ◌-◌, ◌∙◌, subst, arith}
use Rattle.mp_depend.specs.work.Work.{block_of}
use Rattle.mp_redo.specs.rerun.Windows.{IsUnderWay}
use Rattle.mp_redo.proofs.rerun.rerun.Rerun.pass_still.Goals as goal

pub is_still-requires-clause-is : goal.is_still-requires-clause-is
is_still-requires-clause-is c =
    let before = c.loop-time.invariant.before in
    (block_of c.args.change.now.new.now.horizon before.from, before.is.is)

pub skip_unit-requires-clause-below : goal.skip_unit-requires-clause-below
skip_unit-requires-clause-below c =
    let v = c.loop-time.invariant in
    let ends = v.before.is.window.ends in
    let same = v.same in
    omega (arith, ends, same, c.loop-time-test.true)

pub loop-time-preserved : goal.loop-time-preserved
loop-time-preserved c =
    let change = c.args.change.now in
    let v = c.loop-time.invariant in
    let next : c.loop-time.time ≡ c.loop-time.time + 1 - 1 = omega arith in
    record {
      later = let later = v.later in omega (arith, later);
      same = c.skip_unit.ensures.end ∙ v.same;
      within = omega (arith, c.loop-time-test.true);
      before = subst (λ t. IsUnderWay change.old.now change.new.now change.run.now t c.skip_unit.new.self) next c.skip_unit.ensures.after;
    }
