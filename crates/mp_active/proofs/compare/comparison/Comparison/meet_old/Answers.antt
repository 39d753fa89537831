use Rattle.std.proofs.Common.{take, arith}
use Rattle.mp_kernel.specs.timers.TimerWheels.{coming}
use Rattle.mp_active.proofs.lemmas.compare.ComingLemmas.{some_more, some_shape, some_within, some_all, get_same}
use Rattle.mp_active.proofs.compare.comparison.Comparison.meet_old.Goals as goal

pub meet_coming-requires-clause-shape : goal.meet_coming-requires-clause-shape
meet_coming-requires-clause-shape c =
    some_shape c.args.time (take c.loop-place.place (coming c.args.self.now.timers)) c.args.self.now c.loop-place.self c.loop-place.invariant.met c.requires.shape

pub meet_coming-requires-clause-within : goal.meet_coming-requires-clause-within
meet_coming-requires-clause-within c =
    some_within c.args.time (take c.loop-place.place (coming c.args.self.now.timers)) c.coming.result.now c.loop-place.place c.args.self.now c.loop-place.self c.loop-place.invariant.met
    c.coming.ensures (let below = c.loop-place-test.true in let same = c.loop-place.invariant.end in omega arith) c.requires.within

pub loop-place-preserved : goal.loop-place-preserved
loop-place-preserved c = record {
  met = some_more c.args.time (coming c.args.self.now.timers) c.loop-place.place c.args.self.now c.loop-place.self c.meet_coming.new.self
      (let below = c.loop-place-test.true in let same = c.loop-place.invariant.end in omega arith) c.loop-place.invariant.met c.in_ok-meet_coming.ensures.kept
      (get_same c.args.time (take c.loop-place.place (coming c.args.self.now.timers)) c.coming.result.now c.loop-place.place c.args.self.now c.loop-place.self c.meet_coming.new.self.departing.items
      c.loop-place.invariant.met c.coming.ensures c.in_ok-meet_coming.ensures.departing);
  end = c.loop-place.invariant.end;
}

pub returns : goal.returns
returns c =
    some_all c.args.time c.loop-place.place c.args.self.now c.loop-place.self
    (let over = c.loop-place-test.false in let same = c.loop-place.invariant.end in omega arith) c.loop-place.invariant.met
