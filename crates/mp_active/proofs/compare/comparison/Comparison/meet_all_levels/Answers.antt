use Rattle.std.proofs.Common.{[]}
use Rattle.mp_active.proofs.lemmas.compare.MeetingLemmas.{shape_kept, placed_kept}
use Rattle.mp_active.proofs.lemmas.compare.MetLemmas.{levels_met, levels_kept}
use Rattle.mp_active.proofs.compare.comparison.Comparison.meet_all_levels.Goals as goal

pub meet_levels-requires-2-clause-shape : goal.meet_levels-requires-2-clause-shape
meet_levels-requires-2-clause-shape c = shape_kept c.args.run.now c.args.time [] c.args.coming.now.levels.now c.args.self.now c.meet_levels.new.self c.in_ok-meet_levels.ensures c.requires.shape

pub meet_levels-requires-2-clause-places : goal.meet_levels-requires-2-clause-places
meet_levels-requires-2-clause-places c = placed_kept c.args.run.now c.args.run.now c.args.time c.args.time [] c.args.coming.now.levels.now c.args.self.now c.meet_levels.new.self c.in_ok-meet_levels.ensures c.requires.places

pub meet_levels-requires-2-clause-within : goal.meet_levels-requires-2-clause-within
meet_levels-requires-2-clause-within c = levels_kept c.args.run.now c.args.time [] c.args.coming.now.levels.now c.args.self.now c.meet_levels.new.self c.args.coming.now.set_levels.now c.in_ok-meet_levels.ensures c.requires.within.set_levels

pub returns : goal.returns
returns c =
    levels_met c.args.run.now c.args.time c.args.coming.now.levels.now c.args.coming.now.set_levels.now c.args.self.now c.meet_levels.new.self c.meet_levels-2.new.self
    c.in_ok-meet_levels.ensures c.in_ok-meet_levels-2.ensures
