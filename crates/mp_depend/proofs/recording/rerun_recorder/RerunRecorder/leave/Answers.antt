use Rattle.std.proofs.Common.{◌≡◌, ◌<◌, Some, None, length, slice_set, sym, ◌∙◌, arith}
use Rattle.std.proofs.lemmas.List.{get_or_read, get_or_default}
use Rattle.mp_model.proofs.SlotLemmas.{some_within}
use Rattle.mp_depend.specs.declared.work.work_span.WorkSpan.{WorkSpan}
use Rattle.mp_depend.specs.work.WorkSpans.{no_work_span}
use Rattle.mp_depend.specs.declared.recording.checkpoint_overlay.CheckpointOverlay.TheVariants.{Old}
use Rattle.mp_depend.specs.recording.Leaving.{ended, HasEnded, HasHandedBack}
use Rattle.mp_depend.specs.recording.Live.{place_at}
use Rattle.mp_depend.proofs.lemmas.recording.LeaveLemmas.{ended_work, ended_at, open_on, closed_work_span, handed_back, left_overlays, was_live}
use Rattle.mp_depend.proofs.recording.rerun_recorder.RerunRecorder.leave.Goals as goal

pub returns-clause-left : goal.returns-clause-left
returns-clause-left c = λ old new run kept live now leaves same is.
    let overlays = c.args.self.now.overlays.items in
    let places = c.args.self.now.places.items in
    let work_spans = c.args.self.now.work_spans.items in
    let m = c.args.id.0 in
    let time = c.args.time in
    let place = c.in-Some.place in
    let within = some_within new.modules m leaves.stands in
    let low : m < length overlays = let size = is.overlays.places in omega (arith, within, size) in
    let inside : m < length places = let size = is.opened.count in omega (arith, within, size) in
    let at : place_at places m ≡ Some place = sym (get_or_read places m c.index.result.now inside c.index.ensures None) ∙ c.in-Some.is in
    let on = open_on new time m place live places work_spans is.opened leaves.stands leaves.was at in
    let overlay = c.index_mut.result.now in
    let handed : HasHandedBack overlays (slice_set overlays m c.hand_back.new.self) m time =
    handed_back overlays m time overlay c.hand_back.new.self low (c.index_mut.ensures.value ∙ get_or_default overlays m overlay Old low) c.hand_back.ensures.order c.hand_back.ensures.states in
    let work_span : WorkSpan = c.index_mut-2.result.now in
    let ends : HasEnded work_spans (slice_set work_spans place (ended work_span time)) place time =
    ended_at work_spans place time work_span on.within (c.index_mut-2.ensures.value ∙ get_or_default work_spans place work_span no_work_span on.within) in
    record {
      overlays = left_overlays new run kept time m live now overlays (slice_set overlays m c.hand_back.new.self) is.overlays leaves same handed;
      worked = ended_work old new work_spans (slice_set work_spans place (ended work_span time)) place time ends (let end = on.on in let below = leaves.below in omega (arith, end, below)) leaves.window.0 leaves.window.1 is.worked;
      opened = closed_work_span new time m place live now places work_spans (slice_set work_spans place (ended work_span time)) is.opened leaves at inside ends;
      listed = λ k stands on. is.listed k stands (was_live new live now m time leaves k on);
    }
