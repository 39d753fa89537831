use Rattle.mp_kernel.specs.declared.datapath.level_change.LevelChange.{LevelChange}
use Rattle.mp_simulation.proofs.lemmas.units.WaveLemmas.{push_over, push_next}
use Rattle.mp_simulation.proofs.units.data_wires.push_levels.Goals as goal

abbrev none : LevelChange
none = record { number = 0; level = 0 }

pub push_level-requires-clause-over : goal.push_level-requires-clause-over
push_level-requires-clause-over c =
    push_over c.args.waves.now.items c.loop-change.waves.items c.args.time c.args.changes.now c.loop-change.change-index none c.loop-change-test.true c.requires.once c.requires.over c.loop-change.invariant

pub loop-change-preserved : goal.loop-change-preserved
loop-change-preserved c =
    push_next c.args.waves.now.items c.loop-change.waves.items c.push_level.new.waves.items c.args.time c.args.changes.now c.loop-change.change-index none c.loop-change-test.true
    c.loop-change.invariant c.in_ok-push_level.ensures
