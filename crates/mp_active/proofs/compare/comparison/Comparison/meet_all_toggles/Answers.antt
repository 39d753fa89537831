use Rattle.std.proofs.Common.{[]}
use Rattle.mp_active.proofs.lemmas.compare.MeetingLemmas.{nobody, shape_kept}
use Rattle.mp_active.proofs.lemmas.compare.MetLemmas.{toggles_met, bits_kept}
use Rattle.mp_active.proofs.compare.comparison.Comparison.meet_all_toggles.Goals as goal

pub meet_toggles-requires-2-clause-shape : goal.meet_toggles-requires-2-clause-shape
meet_toggles-requires-2-clause-shape c = shape_kept nobody c.args.time c.args.coming.now.wires.now [] c.args.self.now c.meet_toggles.new.self (c.in_ok-meet_toggles.ensures nobody) c.requires.shape

pub meet_toggles-requires-2-clause-within : goal.meet_toggles-requires-2-clause-within
meet_toggles-requires-2-clause-within c = bits_kept nobody c.args.time c.args.coming.now.wires.now [] c.args.self.now c.meet_toggles.new.self c.args.coming.now.copies.now (c.in_ok-meet_toggles.ensures nobody) c.requires.within.copies

pub meet_toggles-requires-3-clause-shape : goal.meet_toggles-requires-3-clause-shape
meet_toggles-requires-3-clause-shape c = shape_kept nobody c.args.time c.args.coming.now.copies.now [] c.meet_toggles.new.self c.meet_toggles-2.new.self (c.in_ok-meet_toggles-2.ensures nobody) (shape_kept nobody c.args.time c.args.coming.now.wires.now [] c.args.self.now c.meet_toggles.new.self (c.in_ok-meet_toggles.ensures nobody) c.requires.shape)

pub meet_toggles-requires-3-clause-within : goal.meet_toggles-requires-3-clause-within
meet_toggles-requires-3-clause-within c = bits_kept nobody c.args.time c.args.coming.now.copies.now [] c.meet_toggles.new.self c.meet_toggles-2.new.self c.args.coming.now.set.now (c.in_ok-meet_toggles-2.ensures nobody) (bits_kept nobody c.args.time c.args.coming.now.wires.now [] c.args.self.now c.meet_toggles.new.self c.args.coming.now.set.now (c.in_ok-meet_toggles.ensures nobody) c.requires.within.set)

pub returns : goal.returns
returns c run =
    toggles_met run c.args.time c.args.coming.now.wires.now c.args.coming.now.copies.now c.args.coming.now.set.now c.args.self.now c.meet_toggles.new.self c.meet_toggles-2.new.self c.meet_toggles-3.new.self
    (c.in_ok-meet_toggles.ensures run) (c.in_ok-meet_toggles-2.ensures run) (c.in_ok-meet_toggles-3.ensures run)
