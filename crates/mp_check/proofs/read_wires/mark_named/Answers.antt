use Rattle.std.proofs.Common.{◌∙◌, arith}
use Rattle.mp_check.specs.ReadWires.{mark_at}
use Rattle.mp_check.proofs.ReadLemmas.{marked_one, three_marks}
use Rattle.mp_check.proofs.read_wires.mark_named.Goals as goal

pub returns : goal.returns
returns c =
    let b = c.args.bundle.now in
    let zero = c.args.marks.now.items in
    let one = c.mark.new.marks.items in
    let two = c.mark-2.new.marks.items in
    let three = c.mark-3.new.marks.items in
    let first = c.mark.ensures in
    let second = c.mark-2.ensures in
    let third = c.mark-3.ensures in
    record {
      places = third.places ∙ second.places ∙ first.places;
      each = λ w low.
          three_marks b.request.0 b.acknowledge.0 b.payload.0 w (mark_at zero w) (mark_at one w) (mark_at two w) (mark_at three w)
          (marked_one zero one b.request.0 w low first.here first.others) (marked_one one two b.acknowledge.0 w (omega (arith, low, first.places)) second.here second.others)
          (marked_one two three b.payload.0 w (omega (arith, low, first.places, second.places)) third.here third.others);
    }
