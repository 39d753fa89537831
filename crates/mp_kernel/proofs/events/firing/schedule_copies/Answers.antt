use Rattle.std.proofs.Common.{◌<◌, length, ap, ◌∙◌}
use Rattle.std.specs.Prelude.{slice_index_or}
use Rattle.std.proofs.lemmas.List.{get_or_default}
use Rattle.mp_kernel.specs.declared.events.output_port.OutputPort.{OutputPort}
use Rattle.mp_kernel.specs.events.Firing.{no_port, scheduled, entry_of}
use Rattle.mp_kernel.proofs.lemmas.events.FiringLemmas.{copied_next}
use Rattle.mp_kernel.proofs.events.firing.schedule_copies.Goals as goal

pub loop-wire-preserved : goal.loop-wire-preserved
loop-wire-preserved c =
    let v = c.loop-wire.invariant in
    let e = c.in_ok-schedule_if.ensures in
    let i = c.loop-wire.wire-index in
    let wire = slice_index_or c.args.wires.now i 0 in
    let within : wire < length c.args.copies.now = c.requires.copies i 0 c.loop-wire-test.true in
    let same = get_or_default c.args.copies.now wire _ no_port within in
    record {
      scheduled = copied_next c.args.copies.now c.args.wires.now i c.loop-wire-test.true c.args.wheel.now c.loop-wire.wheel c.schedule_if.new.wheel v.scheduled
          (e.scheduled ∙ ap (λ (port : OutputPort). scheduled c.loop-wire.wheel (entry_of port)) same);
      units = e.places ∙ v.units;
    }
