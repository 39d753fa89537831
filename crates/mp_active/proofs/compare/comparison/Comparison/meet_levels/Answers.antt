use Rattle.std.proofs.Common.{List, [], take, subst}
use Rattle.std.proofs.lemmas.List.{take_all}
use Rattle.mp_kernel.specs.declared.datapath.level_change.LevelChange.{LevelChange}
use Rattle.mp_active.specs.compare.Meeting.{HasMet}
use Rattle.mp_active.proofs.lemmas.compare.MeetingLemmas.{met_none, shape_kept, placed_kept, level_within, level_more}
use Rattle.mp_active.proofs.compare.comparison.Comparison.meet_levels.Goals as goal

pub meet_level-requires-clause-shape : goal.meet_level-requires-clause-shape
meet_level-requires-clause-shape c =
    shape_kept c.args.run.now c.args.time [] (take c.loop-level.level-index c.args.levels.now) c.args.self.now c.loop-level.self c.loop-level.invariant c.requires.shape

pub meet_level-requires-clause-places : goal.meet_level-requires-clause-places
meet_level-requires-clause-places c =
    placed_kept c.args.run.now c.args.run.now c.args.time c.args.time [] (take c.loop-level.level-index c.args.levels.now) c.args.self.now c.loop-level.self c.loop-level.invariant c.requires.places

pub meet_level-requires-clause-within : goal.meet_level-requires-clause-within
meet_level-requires-clause-within c =
    level_within c.args.run.now c.args.time [] (take c.loop-level.level-index c.args.levels.now) c.args.levels.now c.loop-level.level-index (record { number = 0; level = 0 })
    c.args.self.now c.loop-level.self c.loop-level.invariant c.loop-level-test.true c.requires.within

pub loop-level-init : goal.loop-level-init
loop-level-init c = met_none c.args.run.now c.args.time c.args.self.now

pub loop-level-preserved : goal.loop-level-preserved
loop-level-preserved c =
    level_more c.args.run.now c.args.time c.args.levels.now c.loop-level.level-index (record { number = 0; level = 0 }) c.args.self.now c.loop-level.self c.meet_level.new.self
    c.loop-level-test.true c.loop-level.invariant c.in_ok-meet_level.ensures

pub returns : goal.returns
returns c =
    subst (λ (xs : List LevelChange). HasMet c.args.run.now c.args.time [] xs c.args.self.now c.loop-level.self)
    (take_all c.loop-level.level-index c.args.levels.now c.loop-level-test.false) c.loop-level.invariant
