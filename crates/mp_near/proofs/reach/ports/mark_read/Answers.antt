use Rattle.std.proofs.Common.{ℕ, length}
use Rattle.mp_records.specs.declared.ports.Input.{Input}
use Rattle.mp_near.proofs.lemmas.reach.MarkLemmas.{grown_more, read_more}
use Rattle.mp_near.proofs.reach.ports.mark_read.Goals as goal

pub loop-input-preserved : goal.loop-input-preserved
loop-input-preserved c =
    let d : Input = record { wire = record { 0 = 0 }; delay = 0 } in
    let i : ℕ = c.loop-input.input-index in
    let first = c.args.marks.now.items in
    let before = c.loop-input.marks.items in
    let next = c.mark.new.marks.items in
    let is = c.loop-input.invariant in
    record {
      grown = grown_more first before next is.grown c.mark.ensures.grown;
      read = read_more c.args.inputs.now i (length first) before next d c.loop-input-test.true is.grown.places c.mark.ensures.grown is.read c.mark.ensures.marked;
    }
