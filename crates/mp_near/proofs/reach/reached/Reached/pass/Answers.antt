use Rattle.std.proofs.Common.{refl, ◌∙◌, arith}
use Rattle.mp_near.proofs.reach.reached.Reached.pass.Goals as goal

pub loop-w-init : goal.loop-w-init
loop-w-init c = record {
  reach = c.requires.reach;
  few = omega arith;
  low = omega arith;
  end = c.requires.from;
  closed = λ k at low. absurd (omega (arith, at, low));
  none = λ all. (refl, refl);
}

pub loop-w-preserved : goal.loop-w-preserved
loop-w-preserved c =
    let is = c.loop-w.invariant in
    let few = is.few in
    let test = c.loop-w-test.true in
    let fewer = c.in-Some.ensures.fewer in
    record {
      reach = c.step.ensures.reach;
      few = omega (arith, few, fewer);
      low = c.in-Some.ensures.last;
      end = omega (arith, test);
      closed = c.in-Some.ensures.closed is.closed;
      none = λ all.
          let same = c.in-Some.ensures.same (omega (arith, few, fewer, all)) in
          let before = is.none (omega (arith, few, fewer, all)) in
          (same.0 ∙ before.0, same.1 ∙ before.1);
    }

pub returns-clause-last : goal.returns-clause-last
returns-clause-last c = let low = c.loop-w.invariant.low in let end = c.loop-w.invariant.end in omega (arith, low, end)

pub returns-clause-closed : goal.returns-clause-closed
returns-clause-closed c = λ k at low is. let over = c.loop-w-test.false in c.loop-w.invariant.closed k at (omega (arith, over, low)) is
