use Rattle.std.proofs.Common.{rules, ◌≡◌, true, is_some, List, Option, ℕ, ap, subst, sym}
use Rattle.std.specs.List.{Contains}
use Rattle.std.proofs.lemmas.Fn.{filter_same}
use Rattle.mp_records.specs.declared.ids.ModuleId.{ModuleId}
use Rattle.mp_depend.specs.recording.Live.{place_at}
use Rattle.mp_depend.proofs.lemmas.recording.LeaveLemmas.{filter_keeps}
use Rattle.mp_depend.proofs.recording.rerun_recorder.RerunRecorder.list_live.Goals as goal

pub returns : goal.returns
returns c = λ old new run kept t live is. record {
  overlays = is.overlays;
  worked = is.worked;
  opened = is.opened;
  listed = λ m stands on.
      let test = λ (id : ModuleId). is_some (place_at c.as_slice-places.result.now id.0) in
      let found = is.opened.opened m stands on in
      let passes : is_some (place_at c.as_slice-places.result.now m) ≡ true =
      subst (λ (xs : List (Option ℕ)). is_some (place_at xs m) ≡ true) (sym c.as_slice-places.ensures.value) (ap is_some found.1) in
      subst (λ xs. Contains xs (record { 0 = m })) (sym (filter_same _ test _ (λ x b f' k. search rules) _ _ c.retain.ensures.filtered))
      (filter_keeps test c.args.self.now.live.items (record { 0 = m }) passes (is.listed m stands on));
}
