use Rattle.std.proofs.Common.{◌+◌, List, [], ◌∷◌, get_or, take, None, subst, sym}
use Rattle.std.proofs.lemmas.List.{take_all}
use Rattle.mp_records.specs.declared.ports.Output.{Output}
use Rattle.mp_active.specs.declared.compare.comparison.Comparison.{Comparison}
use Rattle.mp_active.specs.compare.Comparing.{source_at}
use Rattle.mp_active.specs.compare.Listing.{AreLinked}
use Rattle.mp_active.specs.compare.Waking.{woken}
use Rattle.mp_active.proofs.lemmas.compare.WakingLemmas.{HaveTurned, turned_none, turned_more, still_source, woken_more}
use Rattle.mp_active.proofs.compare.comparison.Comparison.let_all_differ.Goals as goal

pub loop-output-init : goal.loop-output-init
loop-output-init c = turned_none c.args.run.now c.args.now c.args.self.now c.requires.cursors

pub let_differ-requires-clause-cursors : goal.let_differ-requires-clause-cursors
let_differ-requires-clause-cursors c = c.loop-output.invariant.cursors

pub let_differ-requires-clause-linked : goal.let_differ-requires-clause-linked
let_differ-requires-clause-linked c = subst (λ (s : Comparison). AreLinked s.numbers) (sym c.loop-output.invariant.kept) c.requires.linked

pub let_differ-requires-clause-within : goal.let_differ-requires-clause-within
let_differ-requires-clause-within c =
    let d : Output = record { wire = None; delay = 0 } in
    still_source c.args.run.now c.args.now (woken (take c.loop-output.output-index c.args.outputs.now)) (get_or c.args.outputs.now c.loop-output.output-index d) c.args.self.now c.loop-output.self c.requires.cursors
    c.loop-output.invariant (c.requires.within c.loop-output.output-index d c.loop-output-test.true)

pub loop-output-preserved : goal.loop-output-preserved
loop-output-preserved c =
    let d : Output = record { wire = None; delay = 0 } in
    let outputs = c.args.outputs.now in
    let i = c.loop-output.output-index in
    turned_more c.args.run.now c.args.now (woken (take i outputs)) (woken (get_or outputs i d ∷ [])) (woken (take (i + 1) outputs)) c.args.self.now c.loop-output.self c.let_differ.new.self
    (λ w. woken_more outputs i d w (source_at c.args.self.now w) c.loop-output-test.true) c.loop-output.invariant (record {
      kept = c.in_ok-let_differ.ensures.kept;
      cursors = c.in_ok-let_differ.ensures.cursors;
      complete = c.in_ok-let_differ.ensures.complete;
      turned = c.in_ok-let_differ.ensures.sources;
    })

pub returns-clause-sources : goal.returns-clause-sources
returns-clause-sources c =
    (subst (λ (os : List Output). HaveTurned c.args.run.now c.args.now (woken os) c.args.self.now c.loop-output.self) (take_all c.loop-output.output-index c.args.outputs.now c.loop-output-test.false)
    c.loop-output.invariant).turned
