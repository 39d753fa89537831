use Rattle.std.proofs.Common.{◌≡◌, ◌<◌, length, subst, ◌∙◌, arith}
use Rattle.std.proofs.lemmas.List.{get_or_default}
use Rattle.mp_model.proofs.SlotLemmas.{slot_within}
use Rattle.mp_depend.specs.declared.recording.checkpoint_overlay.CheckpointOverlay.{CheckpointOverlay}
use Rattle.mp_depend.specs.declared.recording.checkpoint_overlay.CheckpointOverlay.TheVariants.{Old}
use Rattle.mp_depend.specs.recording.Keeping.{HasKept}
use Rattle.mp_depend.specs.recording.Overlays.{overlay_at}
use Rattle.mp_depend.proofs.lemmas.recording.KeepLemmas.{one_kept}
use Rattle.mp_depend.proofs.recording.rerun_recorder.RerunRecorder.keep.Goals as goal

pub returns-clause-kept : goal.returns-clause-kept
returns-clause-kept c = λ old new run kept later t live state is.
    let overlays = c.args.self.now.overlays.items in
    let m = c.args.id.0 in
    let was = c.index_mut.result.now in
    let low : m < length overlays = let within = slot_within new.modules m state.part state.stands in let places = is.overlays.places in omega (arith, within, places) in
    let read : was ≡ overlay_at overlays m = c.index_mut.ensures.value ∙ get_or_default overlays m was Old low in
    record {
      overlays = one_kept new run kept later live m c.args.time c.args.memory overlays c.keep.new.self low state
          (subst (λ (l : CheckpointOverlay). HasKept c.args.time c.args.memory l c.keep.new.self) read c.in_ok-keep.ensures) is.overlays;
      worked = is.worked;
      opened = is.opened;
      listed = is.listed;
    }
