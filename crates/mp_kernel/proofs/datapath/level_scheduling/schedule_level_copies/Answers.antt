use Rattle.std.proofs.Common.{◌<◌, length, ap, ◌∙◌}
use Rattle.std.specs.Prelude.{slice_index_or}
use Rattle.std.proofs.lemmas.List.{get_or_default}
use Rattle.mp_kernel.specs.declared.events.output_port.OutputPort.{OutputPort}
use Rattle.mp_kernel.specs.events.Firing.{no_port}
use Rattle.mp_kernel.specs.declared.datapath.level_change.LevelChange.{LevelChange}
use Rattle.mp_kernel.specs.datapath.LevelWheels.{scheduled, entry_at}
use Rattle.mp_kernel.proofs.lemmas.datapath.LevelLemmas.{copied_next}
use Rattle.mp_kernel.proofs.datapath.level_scheduling.schedule_level_copies.Goals as goal

pub loop-change-preserved : goal.loop-change-preserved
loop-change-preserved c =
    let v = c.loop-change.invariant in
    let e = c.in_ok-schedule_level_if.ensures in
    let i = c.loop-change.change-index in
    let none : LevelChange = record { number = 0; level = 0 } in
    let change = slice_index_or c.args.changes.now i none in
    let within : (slice_index_or c.args.changes.now c.loop-change.change-index (record { number = 0; level = 0 })).number < length c.args.copies.now = c.requires.copies i none c.loop-change-test.true in
    let same = get_or_default c.args.copies.now change.number _ no_port within in
    record {
      wheel = copied_next c.args.copies.now c.args.changes.now i none c.loop-change-test.true c.args.wheel.now c.loop-change.wheel c.schedule_level_if.new.wheel v.wheel
          (e.scheduled ∙ ap (λ (port : OutputPort). scheduled c.loop-change.wheel (entry_at port.wire port.delay change.level)) same);
      places = e.places ∙ v.places;
    }
