use Rattle.std.proofs.Common.{◌+◌, ◌-◌, [], subst, arith}
use Rattle.mp_partition.specs.runs.Marks.{is_marked}
use Rattle.mp_engine.specs.region_runs.RegionRuns.{IsUnderWay}
use Rattle.mp_engine.proofs.lemmas.region_runs.RegionRunLemmas.{can_less}
use Rattle.mp_engine.proofs.lemmas.region_runs.StateHistoryLemmas.{has_history}
use Rattle.mp_engine.proofs.TaskLemmas.{if_ok}
use Rattle.mp_engine.proofs.evaluation.run_to_end.Goals as goal

pub run_units-requires-clause-before : goal.run_units-requires-clause-before
run_units-requires-clause-before g c =
    let r = c.args.region.now in
    can_less r (c.args.from - 1) c.horizon-horizon.result r.horizon c.args.run (omega arith) c.requires.before

pub finish-requires-clause-simulated : goal.finish-requires-clause-simulated
finish-requires-clause-simulated g c =
    let r = c.args.region.now in
    let can = c.requires.before in
    let over = c.in-Ok.ensures can.keeps can.is_heard r.horizon (omega arith) can.is in
    (subst (λ k. IsUnderWay r can.keeps can.is_heard (k - 1) r.horizon c.run_units.new.self) c.horizon-horizon.ensures.value over).simulated

pub finish-requires-clause-kept : goal.finish-requires-clause-kept
finish-requires-clause-kept g c =
    let r = c.args.region.now in
    let can = c.requires.before in
    let over = c.in-Ok.ensures can.keeps can.is_heard r.horizon (omega arith) can.is in
    let end = subst (λ k. IsUnderWay r can.keeps can.is_heard (k - 1) r.horizon c.run_units.new.self) c.horizon-horizon.ensures.value over in
    has_history r can.keeps (r.horizon - 1 + 1) (r.horizon - 1) _ end.kept

pub returns : goal.returns
returns g c =
    let r = c.args.region.now in
    let same = c.horizon-horizon.ensures.value in
    if_ok c.finish.result _ _ (λ found gives keeps is.
    let over = c.in-Ok.ensures keeps (is_marked []) r.horizon (omega (arith, same)) is in
    gives keeps (subst (λ k. IsUnderWay r keeps (is_marked []) (k - 1) r.horizon c.run_units.new.self) same over).kept)
    c.finish.ensures
