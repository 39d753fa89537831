use Rattle.std.proofs.Common.{List, sym, subst}
use Rattle.mp_simulation.specs.declared.run.stimuli.StimulusChange.{StimulusChange}
use Rattle.mp_partition.specs.runs.Marks.{is_marked}
use Rattle.mp_simulation.specs.run.Stimuli.{left_of}
use Rattle.mp_engine.specs.region_runs.RegionRuns.{AreTidings}
use Rattle.mp_engine.proofs.lemmas.region_runs.OwnStimuliLemmas.{own_stimuli}
use Rattle.mp_engine.proofs.lemmas.region_runs.RegionRunLemmas.{in_time, no_tidings}
use Rattle.mp_engine.proofs.region_runs.region_run.RegionRun.begin.Goals as goal

pub returns : goal.returns
returns g c heard until same unset before = record {
  simulated = c.in_ok-begin.ensures.simulated;
  own = own_stimuli c.args.netlist.now c.requires.form c.args.region.now c.horizon-horizon.ensures.form heard same unset _ c.in_ok-of.ensures;
  heard = in_time c.args.region.now (is_marked heard) 0 until c.new.result.items (left_of c.of-2.result) c.of-2.ensures.all c.of-2.ensures.order
      (subst (λ (ss : List StimulusChange). AreTidings c.args.region.now (is_marked heard) 0 until ss) (sym c.new.ensures.items) (no_tidings c.args.region.now heard until before));
  kept = c.in_ok-first_history.ensures;
}
