use Rattle.std.proofs.Common.{◌≤◌, All, take, None, subst, arith, rules}
use Rattle.std.proofs.lemmas.List.{take_all}
use Rattle.std.proofs.lemmas.List.Elements.{All-more, All-weaker}
use Rattle.mp_records.specs.declared.ports.Output.{Output}
use Rattle.mp_simulation.proofs.run.delays.longest_output.Goals as goal

abbrev unread : Output
unread = record { wire = None; delay = 0 }

pub loop-output-preserved : goal.loop-output-preserved
loop-output-preserved c =
    let most = c.max-longest.result in
    let outputs = c.args.outputs.now in
    let i = c.loop-output.output-index in
    record {
      first = search rules;
      each = All-more (λ (o : Output). o.delay ≤ most) outputs i unread c.loop-output-test.true
          (All-weaker (λ (o : Output). o.delay ≤ c.loop-output.longest) (λ (o : Output). o.delay ≤ most) (λ o low. search rules) (take i outputs) c.loop-output.invariant.each) (search rules);
    }

pub returns-clause-each : goal.returns-clause-each
returns-clause-each c = subst (All (λ (o : Output). o.delay ≤ c.loop-output.longest)) (take_all c.loop-output.output-index c.args.outputs.now (omega arith)) c.loop-output.invariant.each
