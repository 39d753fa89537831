use Rattle.std.proofs.Common.{◌∙◌, true, false, arith}
use Rattle.std.proofs.lemmas.List.{get_or-set_same}
use Rattle.mp_near.proofs.lemmas.reach.MarkLemmas.{grown_set, grown_more}
use Rattle.mp_near.proofs.lemmas.reach.ReachLemmas.{driven_marked, reach_more}
use Rattle.mp_near.proofs.reach.reached.Reached.add.Goals as goal

pub returns-clause-reach : goal.returns-clause-reach
returns-clause-reach c =
    let old = c.args.old.now in
    let new = c.args.new.now in
    let wires = c.args.self.now.wires.items in
    let half = c.mark_outputs.new.marks.items in
    let next = c.mark_outputs-2.new.marks.items in
    let one = c.mark_outputs.ensures in
    let two = c.mark_outputs-2.ensures in
    let size = c.requires.reach.wire_count in
    let before = driven_marked old new c.horizon-old_horizon.ensures.form c.requires.revision.wires c.args.id.0 wires half size one.driven in
    let after = driven_marked new new c.horizon-new_horizon.ensures.form (omega arith) c.args.id.0 half next (one.grown.places ∙ size) two.driven in
    reach_more old new c.args.self.now.modules.items wires half next c.args.id.0 c.requires.low one.grown two.grown before after c.requires.reach

pub returns-clause-grown : goal.returns-clause-grown
returns-clause-grown c = grown_set c.args.self.now.modules.items c.args.id.0 c.requires.low

pub returns-clause-wires : goal.returns-clause-wires
returns-clause-wires c = grown_more c.args.self.now.wires.items c.mark_outputs.new.marks.items c.mark_outputs-2.new.marks.items c.mark_outputs.ensures.grown c.mark_outputs-2.ensures.grown

pub returns-clause-marked : goal.returns-clause-marked
returns-clause-marked c = get_or-set_same c.args.self.now.modules.items c.args.id.0 true false c.requires.low
