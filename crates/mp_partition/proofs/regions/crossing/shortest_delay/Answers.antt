use Rattle.std.proofs.Common.{All, None, subst, arith}
use Rattle.std.proofs.lemmas.List.{take_all}
use Rattle.std.proofs.lemmas.List.Elements.{All-more}
use Rattle.mp_records.specs.declared.ports.Output.{Output}
use Rattle.mp_partition.specs.regions.Divisions.{IsLateFor}
use Rattle.mp_partition.proofs.regions.crossing.shortest_delay.Goals as goal

pub loop-output-preserved : goal.loop-output-preserved
loop-output-preserved c =
    let least = c.min-delay.ensures in
    All-more (λ (output : Output). IsLateFor c.args.heards.now output c.min-delay.result) c.args.outputs.now c.loop-output.output-index (record { wire = None; delay = 0 }) c.loop-output-test.true
    (λ k d within j w is marked. let low = c.loop-output.invariant k d within j w is marked in omega (arith, low, least))
    (λ j w is marked. let low = c.heard_delay.ensures j w is marked in omega (arith, low, least))

pub returns : goal.returns
returns c = subst (All (λ (output : Output). IsLateFor c.args.heards.now output c.loop-output.delay)) (take_all c.loop-output.output-index c.args.outputs.now (omega arith)) c.loop-output.invariant
