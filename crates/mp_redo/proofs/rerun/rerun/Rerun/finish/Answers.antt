use Rattle.std.proofs.Common.{◌≡◌, ◌+◌, ◌-◌, Bool, List, length, sym, subst, arith}
use Rattle.mp_netlist.specs.Circuit.{wire_at}
use Rattle.mp_model.specs.Waves.{slot_wave}
use Rattle.mp_partition.specs.runs.Outcomes.{AreSlots}
use Rattle.mp_partition.specs.runs.Runs.{IsRun}
use Rattle.mp_depend.specs.recording.Recorders.{IsRecorder, IsOver}
use Rattle.mp_depend.proofs.lemmas.recording.HistoryLemmas.{history_over}
use Rattle.mp_active.specs.declared.compare.wire_source.WireSource.{WireSource}
use Rattle.mp_depend.specs.work.Work.{block_of}
use Rattle.mp_redo.specs.declared.rerun.finishing.Remains.{Remains}
use Rattle.mp_redo.specs.rerun.Finishing.{HaveEnds, HaveWaves}
use Rattle.mp_redo.specs.rerun.Reruns.{active_of}
use Rattle.mp_redo.proofs.lemmas.rerun.FinishingLemmas.{ends_left, waves_left, last_block, run_made}
use Rattle.mp_redo.proofs.lemmas.rerun.SettledHistoryLemmas.{before, settled_after, history_left}
use Rattle.mp_redo.proofs.rerun.rerun.Rerun.finish.Goals as goal

pub all_ends-requires-clause-ends : goal.all_ends-requires-clause-ends
all_ends-requires-clause-ends c =
    let change = c.args.change.now in
    let old = change.old.now in
    let new = change.new.now in
    let run = change.run.now in
    let is = c.requires.change in
    let over = c.requires.over in
    let wires = c.wires_agree.ensures.wires in
    let alike = c.readers_agree.ensures.quiet in
    let runs = c.runs_are_old.ensures.levels in
    let readers = c.readers_agree.ensures.sleepers in
    let agree = c.sleepers_agree.ensures.agree in
    let sleep_on = c.sleepers_agree.ensures.on in
    let rest = c.sleepers_rest.ensures.rest in
    let ends = ends_left old new is.old_form is.form is.revision run is.run over.at.is.numbering over.at.is.since (c.args.end - 1)
    (before old new is.old_form is.form is.revision run is.run runs readers wires alike agree sleep_on rest c.args.end c.args.self over) c.args.self over.at.is.is
    (settled_after old new is.old_form is.form is.revision run is.run runs readers wires alike agree sleep_on rest c.args.end c.args.self over) runs readers wires alike sleep_on
    c.excerpts_are_circuits.ensures c.excerpts_show.ensures.states c.excerpts_are_simulated.ensures.simulates agree in
    let left = subst (λ (it : Remains). HaveEnds new run it.active.items it.simulation) (sym c.remains_of-simulation.ensures) ends in
    subst (λ (marks : List Bool). HaveEnds new run marks c.remains_of-simulation.result.simulation) (sym c.as_slice.ensures.value) left

pub all_waves-requires : goal.all_waves-requires
all_waves-requires c =
    let change = c.args.change.now in
    let old = change.old.now in
    let new = change.new.now in
    let run = change.run.now in
    let is = c.requires.change in
    let over = c.requires.over in
    let wires = c.wires_agree.ensures.wires in
    let alike = c.readers_agree.ensures.quiet in
    let runs = c.runs_are_old.ensures.levels in
    let readers = c.readers_agree.ensures.sleepers in
    let agree = c.sleepers_agree.ensures.agree in
    let sleep_on = c.sleepers_agree.ensures.on in
    let rest = c.sleepers_rest.ensures.rest in
    let some = over.some in
    let next : c.args.end - 1 + 1 ≡ c.args.end = omega (arith, some) in
    let waves = waves_left old new is.old_form is.form is.revision run is.run over.at.is.numbering over.at.is.since (c.args.end - 1)
    (before old new is.old_form is.form is.revision run is.run runs readers wires alike agree sleep_on rest c.args.end c.args.self over) c.args.self over.at.is.is
    (settled_after old new is.old_form is.form is.revision run is.run runs readers wires alike agree sleep_on rest c.args.end c.args.self over) runs readers wires alike sleep_on in
    let ended = subst (λ u. HaveWaves new run c.args.self.comparison.sources.items u c.args.self.simulation) next waves in
    let left = subst (λ (it : Remains). HaveWaves new run it.sources.items c.args.end it.simulation) (sym c.remains_of-simulation.ensures) ended in
    record { waves = subst (λ (sources : List WireSource). HaveWaves new run sources c.args.end c.remains_of-simulation.result.simulation) (sym c.as_slice-2.ensures.value) left }

pub finish-requires : goal.finish-requires
finish-requires c =
    let change = c.args.change.now in
    let old = change.old.now in
    let new = change.new.now in
    let run = change.run.now in
    let is = c.requires.change in
    let over = c.requires.over in
    let block = block_of new.horizon (new.horizon - 1) in
    let recorder = history_left old new is.old_form is.form is.revision run is.run c.runs_are_old.ensures.levels c.readers_agree.ensures.sleepers c.wires_agree.ensures.wires c.readers_agree.ensures.quiet c.sleepers_agree.ensures.agree c.sleepers_agree.ensures.on c.sleepers_rest.ensures.rest
    c.args.end c.args.self over in
    subst (λ (it : Remains). IsOver new run it.recorder) (sym c.remains_of-simulation.ensures)
    (history_over old new run (λ m. block) new.horizon (active_of c.args.self) c.args.self.recorder recorder (λ m b border less. last_block new b border less))

pub returns-clause-work_spans : goal.returns-clause-work_spans
returns-clause-work_spans c =
    let change = c.args.change.now in
    let old = change.old.now in
    let new = change.new.now in
    let run = change.run.now in
    let is = c.requires.change in
    let over = c.requires.over in
    let block = block_of new.horizon (new.horizon - 1) in
    let recorder = history_left old new is.old_form is.form is.revision run is.run c.runs_are_old.ensures.levels c.readers_agree.ensures.sleepers c.wires_agree.ensures.wires c.readers_agree.ensures.quiet c.sleepers_agree.ensures.agree c.sleepers_agree.ensures.on c.sleepers_rest.ensures.rest
    c.args.end c.args.self over in
    c.in_ok-kept.ensures.work_spans old (λ m. block) (active_of c.args.self)
    (subst (λ (it : Remains). IsRecorder old new run (λ m. block) new.horizon (active_of c.args.self) it.recorder) (sym c.remains_of-simulation.ensures) recorder)

pub returns-clause-run : goal.returns-clause-run
returns-clause-run c =
    let new = c.args.change.now.new.now in
    subst (IsRun new) (sym c.new-run.ensures)
    (run_made new _ c.horizon.ensures.value (subst (AreSlots (length new.wires) (λ w. slot_wave new w (wire_at new w))) (sym c.new.ensures) c.in-Ok-all_waves.ensures) c.in-Ok.ensures c.in_ok-kept.ensures.kept)
