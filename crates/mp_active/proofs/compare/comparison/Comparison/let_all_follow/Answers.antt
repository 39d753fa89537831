use Rattle.std.proofs.Common.{◌+◌, ◌-◌, List, [], ◌∷◌, get_or, take, None, subst}
use Rattle.std.proofs.lemmas.List.{take_all}
use Rattle.mp_records.specs.declared.ports.Output.{Output}
use Rattle.mp_active.specs.compare.Comparing.{source_at}
use Rattle.mp_active.specs.compare.Waking.{slept}
use Rattle.mp_active.proofs.lemmas.compare.WakingLemmas.{HaveTurned, turned_none, turned_more, still_source, own_levels, slept_more}
use Rattle.mp_active.proofs.compare.comparison.Comparison.let_all_follow.Goals as goal

pub loop-output-init : goal.loop-output-init
loop-output-init c = turned_none c.args.run.now (c.args.time - 1) c.args.self.now c.requires.cursors

pub let_follow-requires-clause-cursors : goal.let_follow-requires-clause-cursors
let_follow-requires-clause-cursors c = c.loop-output.invariant.cursors

pub let_follow-requires-clause-within : goal.let_follow-requires-clause-within
let_follow-requires-clause-within c =
    let d : Output = record { wire = None; delay = 0 } in
    still_source c.args.run.now (c.args.time - 1) (slept (take c.loop-output.output-index c.args.outputs.now) c.args.time) (get_or c.args.outputs.now c.loop-output.output-index d) c.args.self.now c.loop-output.self
    c.requires.cursors c.loop-output.invariant (c.requires.within c.loop-output.output-index d c.loop-output-test.true)

pub let_follow-requires-clause-own : goal.let_follow-requires-clause-own
let_follow-requires-clause-own c =
    let d : Output = record { wire = None; delay = 0 } in
    own_levels c.args.run.now (c.args.time - 1) c.args.time c.args.outputs.now c.loop-output.output-index d c.args.self.now c.loop-output.self c.loop-output-test.true c.requires.apart c.requires.own c.loop-output.invariant

pub loop-output-preserved : goal.loop-output-preserved
loop-output-preserved c =
    let d : Output = record { wire = None; delay = 0 } in
    let outputs = c.args.outputs.now in
    let i = c.loop-output.output-index in
    let time = c.args.time in
    turned_more c.args.run.now (time - 1) (slept (take i outputs) time) (slept (get_or outputs i d ∷ []) time) (slept (take (i + 1) outputs) time) c.args.self.now c.loop-output.self c.let_follow.new.self
    (λ w. slept_more outputs i d time w (source_at c.args.self.now w) c.loop-output-test.true c.requires.apart) c.loop-output.invariant (record {
      kept = c.in_ok-let_follow.ensures.kept;
      cursors = c.in_ok-let_follow.ensures.cursors;
      complete = c.in_ok-let_follow.ensures.complete;
      turned = c.in_ok-let_follow.ensures.sources;
    })

pub returns-clause-sources : goal.returns-clause-sources
returns-clause-sources c =
    (subst (λ (os : List Output). HaveTurned c.args.run.now (c.args.time - 1) (slept os c.args.time) c.args.self.now c.loop-output.self) (take_all c.loop-output.output-index c.args.outputs.now c.loop-output-test.false)
    c.loop-output.invariant).turned
