use Rattle.std.proofs.Common.{List, Bool, sym, subst}
use Rattle.mp_partition.specs.merging.PartRuns.{AreRuns}
use Rattle.mp_engine.proofs.TaskLemmas.{if_ok, runs_are}
use Rattle.mp_engine.proofs.evaluation.run_parts.Goals as goal

pub returns : goal.returns
returns g c =
    let n = c.args.divided.netlist.now in
    let division = c.args.divided.division.now in
    let keeps = c.args.divided.keeps in
    if_ok c.run.result _ _ (λ runs done. subst (λ (heards : List (List Bool)). AreRuns n division.homes.items heards division.parts keeps runs.items) (sym c.requires.alone)
    (runs_are n division.homes.items division.parts keeps c.in_ok-parts.parts.items runs.items c.in_ok-parts.ensures done)) c.run.ensures
