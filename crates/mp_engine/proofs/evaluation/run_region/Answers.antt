use Rattle.std.proofs.Common.{[]}
use Rattle.mp_partition.specs.runs.Marks.{is_marked}
use Rattle.mp_engine.proofs.lemmas.region_runs.RegionRunLemmas.{none_marked}
use Rattle.mp_engine.proofs.TaskLemmas.{if_ok}
use Rattle.mp_engine.proofs.evaluation.run_region.Goals as goal

pub run_to_end-requires-clause-before : goal.run_to_end-requires-clause-before
run_to_end-requires-clause-before g c = record {
  keeps = c.args.keeps;
  is_heard = is_marked [];
  is = c.in_ok-run.ensures [] c.args.region.now.horizon c.requires.stimuli (λ w is. absurd (none_marked w is)) (λ w is. absurd (none_marked w is));
}

pub returns : goal.returns
returns g c =
    let begun = c.in_ok-run.ensures [] c.args.region.now.horizon c.requires.stimuli (λ w is. absurd (none_marked w is)) (λ w is. absurd (none_marked w is)) in
    if_ok c.run_to_end.result _ _ (λ run gives. gives c.args.keeps begun) c.run_to_end.ensures
