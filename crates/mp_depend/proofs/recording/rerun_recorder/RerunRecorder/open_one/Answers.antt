use Rattle.std.proofs.Common.{rules, ◌≡◌, ◌+◌, ◌<◌, ◌⊎◌, ◌++◌, ◌∷◌, [], ℕ, List, Some, None, false, is_some, length, slice_set, ap, sym, subst, ◌∙◌, arith, inl, inr}
use Rattle.std.specs.List.{Contains}
use Rattle.std.proofs.lemmas.Bool.{cases_eq}
use Rattle.std.proofs.lemmas.List.{get_or_read, get_or_default}
use Rattle.std.proofs.lemmas.List.Elements.{Contains-push}
use Rattle.mp_records.specs.declared.ids.ModuleId.{ModuleId}
use Rattle.mp_model.proofs.SlotLemmas.{some_within}
use Rattle.mp_depend.specs.declared.work.work_span.WorkSpan.{WorkSpan}
use Rattle.mp_depend.specs.declared.recording.checkpoint_overlay.CheckpointOverlay.TheVariants.{Old}
use Rattle.mp_depend.specs.recording.Overlays.{overlay_at}
use Rattle.mp_depend.specs.recording.Live.{place_at}
use Rattle.mp_depend.specs.recording.Opened.{HasNoWorkSpan, work_span_from, HaveOpened, HaveJoined}
use Rattle.mp_depend.proofs.lemmas.recording.OpenedLemmas.{none_there, opened_one, joined_one, still_joining}
use Rattle.mp_depend.proofs.recording.rerun_recorder.RerunRecorder.open_one.Goals as goal

pub returns-clause-opened : goal.returns-clause-opened
returns-clause-opened c = λ now on.
    let new = c.args.new.now in
    let m = c.args.id.0 in
    let block = c.args.block in
    let to = c.args.to in
    let places = c.args.self.now.places.items in
    let work_spans = c.args.self.now.work_spans.items in
    let within : m < length places = let low = some_within new.modules m c.requires.stands in let size = c.requires.sound.places in omega (arith, low, size) in
    let off : is_some c.index.result.now ≡ false = search rules in
    let none : place_at places m ≡ None = sym (get_or_read places m c.index.result.now within c.index.ensures None) ∙ none_there c.index.result.now off in
    let joins : HasNoWorkSpan new now places m = record { stands = c.requires.stands; on = on; none = none } in
    let work_span : ℕ → WorkSpan = λ h. record { «module» = record { 0 = m }; from = block; first_end = to; last_end = h } in
    let more : c.open.new.self.work_spans.items ≡ work_spans ++ work_span_from new m block to ∷ [] = c.in_ok-open.ensures.work_spans ∙ ap (λ h. work_spans ++ work_span h ∷ []) c.horizon-end.ensures.value in
    subst (λ xs. HaveOpened new block to now places xs work_spans c.open.new.self.work_spans.items) (sym c.in_ok-open.ensures.places)
    (subst (HaveOpened new block to now places (slice_set places m (Some (length work_spans))) work_spans) (sym more) (opened_one new block to now places work_spans m within joins))

pub returns-clause-joined : goal.returns-clause-joined
returns-clause-joined c = λ now on.
    let new = c.args.new.now in
    let run = c.args.run.now in
    let m = c.args.id.0 in
    let block = c.args.block in
    let places = c.args.self.now.places.items in
    let work_spans = c.args.self.now.work_spans.items in
    let overlays = c.args.self.now.overlays.items in
    let stands = some_within new.modules m c.requires.stands in
    let within : m < length places = let size = c.requires.sound.places in omega (arith, stands, size) in
    let low : m < length overlays = let size = c.requires.sound.overlays in omega (arith, stands, size) in
    let off : is_some c.index.result.now ≡ false = search rules in
    let none : place_at places m ≡ None = sym (get_or_read places m c.index.result.now within c.index.ensures None) ∙ none_there c.index.result.now off in
    let joins : HasNoWorkSpan new now places m = record { stands = c.requires.stands; on = on; none = none } in
    let was = c.index_mut.result.now in
    let after = c.take_over.new.self in
    let read : was ≡ overlay_at overlays m = c.index_mut.ensures.value ∙ get_or_default overlays m was Old low in
    let taken = c.in_ok-take_over.ensures in
    let end = c.horizon-end.result in
    let long = c.horizon-end.ensures.value in
    let less : block < end = let below = c.requires.within in omega (arith, below, long) in
    let later : c.open.new.self.overlays.items ≡ slice_set overlays m after = ap (λ v. v.items) c.in_ok-open.ensures.overlays in
    subst (λ xs. HaveJoined new run block now places xs overlays c.open.new.self.overlays.items) (sym c.in_ok-open.ensures.places)
    (subst (HaveJoined new run block now places (slice_set places m (Some (length work_spans))) overlays) (sym later)
    (joined_one new run block end now places overlays m (length work_spans) was after within low joins less long read taken.own taken.before))

pub returns-clause-listed : goal.returns-clause-listed
returns-clause-listed c = λ now k joins.
    let new = c.args.new.now in
    let m = c.args.id.0 in
    let places = c.args.self.now.places.items in
    let after = c.open.new.self.places.items in
    let live = c.open.new.self.live.items in
    let work_spans = c.args.self.now.work_spans.items in
    elim (cases_eq k m) as (λ _. HasNoWorkSpan new now after k ⊎ Contains live (record { 0 = k })) [
      | inl same ↦
          inr (subst (λ j. Contains live (record { 0 = j })) (sym same)
          (subst (λ (xs : List ModuleId). Contains xs c.args.id) (sym c.in_ok-open.ensures.live) (Contains-push c.args.self.now.live.items c.args.id)))
      | inr other ↦
          inl (subst (λ xs. HasNoWorkSpan new now xs k) (sym c.in_ok-open.ensures.places) (still_joining new now places m (length work_spans) k other joins))
    ]
