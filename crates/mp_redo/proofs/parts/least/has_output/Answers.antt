use Rattle.std.proofs.Common.{None}
use Rattle.mp_records.specs.declared.ports.Output.{Output}
use Rattle.mp_redo.proofs.lemmas.parts.DelayLemmas.{output_after}
use Rattle.mp_redo.proofs.parts.least.has_output.Goals as goal

pub returns-then-is_after : goal.returns-then-is_after
returns-then-is_after c = λ yes.
    let none : Output = record { wire = None; delay = 0 } in
    output_after c.args.outputs.now c.loop-output.output-index c.args.delay none c.loop-output-test.true (c.is_after.ensures c.if-is_after.true)
