use Rattle.std.proofs.Common.{◌∙◌, arith}
use Rattle.mp_records.specs.Inputs.{no_input}
use Rattle.mp_check.specs.ReadWires.{mark_at}
use Rattle.mp_check.proofs.ReadLemmas.{input_more, marked_one}
use Rattle.mp_check.proofs.read_wires.mark_inputs.Goals as goal

pub loop-input-preserved : goal.loop-input-preserved
loop-input-preserved c =
    let first = c.args.marks.now.items in
    let old = c.loop-input.marks.items in
    let new = c.mark.new.marks.items in
    let places = c.loop-input.invariant.places in
    record {
      places = c.mark.ensures.places ∙ places;
      each = λ w low.
          input_more c.args.inputs.now c.loop-input.input-index no_input w (mark_at first w) (mark_at old w) (mark_at new w) c.loop-input-test.true (c.loop-input.invariant.each w low)
          (marked_one old new _ w (omega (arith, low, places)) c.mark.ensures.here c.mark.ensures.others);
    }
