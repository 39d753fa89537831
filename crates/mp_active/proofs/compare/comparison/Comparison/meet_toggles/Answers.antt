use Rattle.std.proofs.Common.{ℕ, List, [], take, subst}
use Rattle.std.proofs.lemmas.List.{take_all}
use Rattle.mp_active.specs.compare.Meeting.{HasMet}
use Rattle.mp_active.proofs.lemmas.compare.MeetingLemmas.{met_none, shape_kept, toggle_within, nobody, toggle_more}
use Rattle.mp_active.proofs.compare.comparison.Comparison.meet_toggles.Goals as goal

pub meet_toggle-requires-clause-shape : goal.meet_toggle-requires-clause-shape
meet_toggle-requires-clause-shape c =
    shape_kept nobody c.args.time (take c.loop-number.number-index c.args.numbers.now) [] c.args.self.now c.loop-number.self (c.loop-number.invariant nobody) c.requires.shape

pub meet_toggle-requires-clause-within : goal.meet_toggle-requires-clause-within
meet_toggle-requires-clause-within c =
    toggle_within nobody c.args.time (take c.loop-number.number-index c.args.numbers.now) c.args.numbers.now [] c.loop-number.number-index c.args.self.now c.loop-number.self
    (c.loop-number.invariant nobody) c.loop-number-test.true c.requires.within

pub loop-number-init : goal.loop-number-init
loop-number-init c run = met_none run c.args.time c.args.self.now

pub loop-number-preserved : goal.loop-number-preserved
loop-number-preserved c run =
    toggle_more run c.args.time c.args.numbers.now c.loop-number.number-index c.args.self.now c.loop-number.self c.meet_toggle.new.self c.loop-number-test.true
    (c.loop-number.invariant run) (c.in_ok-meet_toggle.ensures run)

pub returns : goal.returns
returns c run =
    subst (λ (xs : List ℕ). HasMet run c.args.time xs [] c.args.self.now c.loop-number.self)
    (take_all c.loop-number.number-index c.args.numbers.now c.loop-number-test.false) (c.loop-number.invariant run)
