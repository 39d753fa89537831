use Rattle.std.proofs.Common.{ℕ, None, length, arith}
use Rattle.mp_records.specs.declared.ports.Output.{Output}
use Rattle.mp_near.proofs.lemmas.reach.MarkLemmas.{grown_more, driven_more, driven_all, only_more}
use Rattle.mp_near.proofs.reach.ports.mark_driven.Goals as goal

pub loop-output-preserved : goal.loop-output-preserved
loop-output-preserved c =
    let d : Output = record { wire = None; delay = 0 } in
    let i : ℕ = c.loop-output.output-index in
    let first = c.args.marks.now.items in
    let before = c.loop-output.marks.items in
    let next = c.mark_output.new.marks.items in
    let is = c.loop-output.invariant in
    record {
      grown = grown_more first before next is.grown c.mark_output.ensures.grown;
      driven = driven_more c.args.outputs.now i (length first) before next d c.loop-output-test.true is.grown.places c.mark_output.ensures.grown is.driven c.mark_output.ensures.driven;
      only = only_more c.args.outputs.now i first before next d c.loop-output-test.true c.mark_output.ensures.only is.only;
    }

pub returns-clause-driven : goal.returns-clause-driven
returns-clause-driven c = driven_all c.args.outputs.now c.loop-output.output-index (length c.args.marks.now.items) c.loop-output.marks.items (let over = c.loop-output-test.false in omega (arith, over)) c.loop-output.invariant.driven
