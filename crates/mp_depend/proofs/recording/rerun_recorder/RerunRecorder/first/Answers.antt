use Rattle.std.proofs.Common.{sym, subst, ◌∙◌}
use Rattle.mp_partition.specs.runs.Marks.{is_marked}
use Rattle.mp_depend.specs.recording.Keeping.{AreOverlays, AreOldStates}
use Rattle.mp_depend.proofs.lemmas.recording.HistoryLemmas.{history_alike}
use Rattle.mp_depend.proofs.recording.rerun_recorder.RerunRecorder.first.Goals as goal

pub returns : goal.returns
returns c = λ old run live same states.
    let new = c.args.new.now in
    let touched = c.args.touched.now in
    let after = c.open_first.new.self in
    let done = c.in_ok-open_first.ensures in
    let first : AreOldStates new run 0 (is_marked touched) = λ m r stands off. states m r stands (same m ∙ off) in
    let overlays : AreOverlays new run (λ m. 0) (is_marked touched) after.overlays.items =
    subst (λ v. AreOverlays new run (λ m. 0) (is_marked touched) v.items) (sym done.overlays) (c.in_ok-overlays.ensures run first) in
    history_alike old new run (λ m. 0) 0 (is_marked touched) live after same (record {
      overlays = overlays;
      worked = done.worked old;
      opened = done.opened;
      listed = done.listed;
    })
