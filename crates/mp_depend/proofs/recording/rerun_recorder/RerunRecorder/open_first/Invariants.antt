use Rattle.std.proofs.Common.{◌≡◌}
use Rattle.mp_partition.specs.runs.Marks.{is_marked}
use Rattle.mp_depend.proofs.lemmas.recording.FirstLemmas.{AreFirst, IsListedTo}
use Rattle.mp_depend.proofs.recording.rerun_recorder.RerunRecorder.open_first.Given as goal

-- those of the modules so far
abbrev pub invariant-loop-m : goal.invariant-loop-m
invariant-loop-m l = record {
  overlays : l.self.overlays ≡ l.fn.self.overlays;
  first : AreFirst l.new l.first_end l.horizon l.m (is_marked l.touched) l.self.places.items l.self.work_spans.items;
  listed : IsListedTo l.new l.m (is_marked l.touched) l.self.live.items;
}
