use Rattle.mp_simulation.specs.run.Stimuli.{left_of}
use Rattle.mp_engine.proofs.lemmas.region_runs.RegionRunLemmas.{in_time}
use Rattle.mp_engine.proofs.region_runs.region_run.RegionRun.receive.Goals as goal

pub returns : goal.returns
returns c n keeps is_heard t until before tidings = record {
  simulated = before.simulated;
  own = before.own;
  heard = in_time n is_heard t until c.args.changes.items (left_of c.of.result) c.of.ensures.all c.of.ensures.order tidings;
  kept = before.kept;
}
