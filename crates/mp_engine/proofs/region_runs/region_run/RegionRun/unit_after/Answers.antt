use Rattle.std.proofs.Common.{◌≡◌, ◌+◌, ◌-◌, ◌<◌, ◌≤◌, subst, arith}
use Rattle.mp_simulation.specs.run.Stimuli.{rest_of, left_of}
use Rattle.mp_simulation.proofs.lemmas.run.RestLemmas.{from_before}
use Rattle.mp_engine.specs.region_runs.RegionRuns.{IsUnderWay}
use Rattle.mp_engine.proofs.lemmas.region_runs.RestLemmas.{rested}
use Rattle.mp_engine.proofs.region_runs.region_run.RegionRun.unit_after.Goals as goal

pub unit_after-set-requires-clause-ahead : goal.unit_after-set-requires-clause-ahead
unit_after-set-requires-clause-ahead c = c.requires.before.is.own.listed

pub unit_after-heard-requires-clause-ahead : goal.unit_after-heard-requires-clause-ahead
unit_after-heard-requires-clause-ahead c = c.requires.before.is.heard.listed

pub returns-then-not-is_seen_at_rest-clause-after : goal.returns-then-not-is_seen_at_rest-clause-after
returns-then-not-is_seen_at_rest-clause-after c keeps is_heard until enough is =
    let same : c.args.time ≡ c.args.time + 1 - 1 = omega arith in
    subst (λ t. IsUnderWay c.args.region.now keeps is_heard t until c.args.self.now) same is

pub returns-clause-after : goal.returns-clause-after
returns-clause-after c keeps is_heard until enough is =
    let run = c.args.self.now in
    let next = c.min-2.result in
    let set : c.min-2.result ≤ c.unit_after-set.result = omega arith in
    let heard : c.min-2.result ≤ c.unit_after-heard.result = omega arith in
    let kept : c.min-2.result ≤ c.next_kept.result = omega arith in
    let later : c.args.time < c.min-2.result = (let one = c.unit_after-set.ensures.later in let two = c.unit_after-heard.ensures.later in let three = c.next_kept.ensures.later in omega (arith, one, two, three)) in
    let most : c.min-2.result ≤ c.args.to = (let all = c.next_kept.ensures.most in omega (arith, kept, all)) in
    let within = c.requires.within in
    rested c.args.region.now c.horizon-horizon.ensures.form keeps is_heard until run (c.is_seen_at_rest.ensures c.if-not-is_seen_at_rest.false) c.args.time next
    (omega (arith, most, within)) (omega (arith, most, enough))
    (from_before next c.unit_after-set.result (rest_of run.stimuli) c.unit_after-set.ensures.ahead set)
    (from_before next c.unit_after-heard.result (left_of run.heard) c.unit_after-heard.ensures.ahead heard)
    (λ b above below border. c.next_kept.ensures.passed b above (omega (arith, below, kept)) border) later is
