use Rattle.std.proofs.Common.{◌≡◌, ◌+◌, ◌-◌, subst, arith}
use Rattle.mp_engine.specs.region_runs.StateHistories.{AreKept, HasHistory}
use Rattle.mp_engine.proofs.lemmas.region_runs.StateHistoryLemmas.{checkpoints_are}
use Rattle.mp_engine.proofs.region_runs.region_run.RegionRun.finish.Goals as goal

pub returns : goal.returns
returns c keeps is =
    let n = c.args.region.now in
    let h = c.in-Some.history in
    let next : n.horizon - 1 + 1 ≡ n.horizon = (let low = c.horizon-horizon.ensures.form.horizon_low in omega (arith, low)) in
    let has = subst (HasHistory n (n.horizon - 1 + 1) (n.horizon - 1)) c.in-Some.is c.requires.kept in
    let kept = subst (λ k. AreKept n k (n.horizon - 1) h.marks.items h.kept.items) next has.kept in
    record {
      waves = c.in_ok-waves.ensures;
      ends = λ _. c.in-Ok.ensures;
      kept = λ _. checkpoints_are n (n.horizon - 1) h.marks.items h.kept.items _ c.in_ok-kept.ensures kept;
    }
