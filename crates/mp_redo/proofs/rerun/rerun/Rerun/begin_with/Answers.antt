use Rattle.std.proofs.Common.{◌≡◌, Bool, List, ap, sym, subst, ◌∙◌}
use Rattle.mp_netlist.specs.Delays.{least_delay}
use Rattle.mp_partition.specs.runs.Marks.{is_marked}
use Rattle.mp_simulation.specs.run.Stimuli.{left_of}
use Rattle.mp_depend.specs.work.Merges.{end_of_window}
use Rattle.mp_active.specs.declared.compare.wire_source.WireSource.{WireSource}
use Rattle.mp_active.specs.compare.ChangedStimuli.{until_in}
use Rattle.mp_redo.specs.declared.rerun.rerun.Rerun.{Rerun}
use Rattle.mp_redo.specs.declared.rerun.starting.FirstRun.{FirstRun}
use Rattle.mp_redo.specs.rerun.Following.{AreSetAnew}
use Rattle.mp_redo.specs.rerun.Starting.{IsFirstRun}
use Rattle.mp_redo.specs.rerun.Windows.{AreTouched}
use Rattle.mp_redo.proofs.lemmas.rerun.BeginningLemmas.{old_states, set_anew}
use Rattle.mp_redo.proofs.lemmas.rerun.UnderWayLemmas.{begun}
use Rattle.mp_redo.proofs.rerun.rerun.Rerun.begin_with.Goals as goal

pub returns : goal.returns
returns c =
    let old = c.args.change.now.old.now in
    let new = c.args.change.now.new.now in
    let run = c.args.change.now.run.now in
    let first : FirstRun = c.args.first in
    let active : List Bool = c.in-Ok-first_activity.activity.active.items in
    let s : Rerun =
    record {
      simulation = first.simulation;
      comparison = first.comparison;
      inputs = first.inputs;
      stimuli = c.in-Ok.stimuli;
      pending_outputs = record { list = c.new.result; place = 0 };
      activity = c.in-Ok-first_activity.activity;
      recorder = c.in-Ok-first.recorder;
      set = record { bits = c.new-2.result; levels = c.new-3.result };
      window_end = c.window_end.result;
      look_at = 0;
    } in
    let change = c.requires.change in
    let marks : c.as_slice.result.now ≡ active = c.as_slice.ensures.value in
    let same = sym c.in-Ok-first_activity.ensures.active in
    let touched : AreTouched old new active = subst (AreTouched old new) same c.requires.touched in
    let is : IsFirstRun old new run active first = subst (λ (ms : List Bool). IsFirstRun old new run ms first) same c.requires.first in
    let states = old_states old new active touched change.old_form change.form change.revision run change.run in
    begun c.reads_are_listed.ensures old new change.old_form change.form change.revision run change.run is.wired s
    (record {
      touched = touched;
      same = c.in-Ok-first_activity.ensures.touched ∙ sym c.in-Ok-first_activity.ensures.active;
      seats = c.in-Ok-first_activity.ensures.seats ∙ c.as_slice-places.ensures.value;
      joined = c.in-Ok-first_activity.ensures.joined;
      first = is.first;
      wires = is.wires;
      inputs = is.inputs;
      sources = is.sources;
      numbers = is.numbers;
      compared = is.compared;
      cursors = is.cursors;
      unseen = is.unseen;
      complete = is.complete;
      stimuli = subst (λ (sources : List WireSource). AreSetAnew new (until_in sources) 0 (left_of c.in-Ok.stimuli)) c.as_slice-sources.ensures.value (set_anew new (until_in c.as_slice-sources.result.now) 0 (left_of c.in-Ok.stimuli) c.in-Ok.ensures);
      pending_outputs = c.new.ensures.items;
      recorder = c.in-Ok-first.ensures old run (λ m. is_marked active m) (λ m. ap (λ (ms : List Bool). is_marked ms m) (sym marks)) states;
      window =
          c.window_end.ensures ∙ ap (λ k. end_of_window k c.horizon.result 0) change.least ∙ ap (λ k. end_of_window (least_delay new) k 0) c.horizon.ensures.value;
    })
