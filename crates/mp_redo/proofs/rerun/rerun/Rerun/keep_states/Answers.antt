use Rattle.std.proofs.Common.{◌≡◌, ℕ, ◌+◌, ◌-◌, ◌<◌, ◌≤◌, IsSome, Some, true, length, slice_index_or, refl, ap, sym, subst, ◌∙◌, arith}
use Rattle.std.specs.List.{Contains}
use Rattle.std.proofs.lemmas.Bool.{both_ways}
use Rattle.mp_modules.specs.declared.memory.Memory.{Memory}
use Rattle.mp_records.specs.declared.ids.ModuleId.{ModuleId}
use Rattle.mp_records.specs.declared.module_record.ModuleRecord.{ModuleRecord}
use Rattle.mp_netlist.specs.Circuit.{module_at}
use Rattle.mp_partition.specs.runs.Checkpoints.{state_before}
use Rattle.mp_simulation.specs.declared.units.netlist_simulation.NetlistSimulation.{NetlistSimulation}
use Rattle.mp_simulation.specs.units.NetlistSimulations.{IsSimulated, CanTell}
use Rattle.mp_depend.specs.declared.recording.rerun_recorder.RerunRecorder.{RerunRecorder}
use Rattle.mp_depend.specs.recording.Recorders.{IsRecorder, CanKeep}
use Rattle.mp_depend.specs.recording.Keeping.{KeepsState}
use Rattle.mp_depend.proofs.lemmas.recording.HistoryLemmas.{kept_all}
use Rattle.mp_depend.specs.work.Work.{block_of}
use Rattle.mp_redo.specs.declared.rerun.rerun.Rerun.{Rerun}
use Rattle.mp_redo.specs.rerun.Reruns.{active_of}
use Rattle.mp_redo.proofs.lemmas.rerun.BorderLemmas.{can_tell, told_state}
use Rattle.mp_redo.proofs.lemmas.rerun.KeepingLemmas.{IsKeeping, kept_now, next_border, before_is, sleepers_kept, keeping_begins, keeping_same, keeping_can, keeping_state, keeping_more}
use Rattle.mp_redo.proofs.rerun.rerun.Rerun.keep_states.Goals as goal
use Rattle.mp_redo.proofs.rerun.rerun.Rerun.keep_states.Goals.{then-is_at_work+in_ok-keep, else-is_at_work}

pub loop-place-init : goal.loop-place-init
loop-place-init c =
    let change = c.args.change.now in
    let s = c.args.self.now in
    let some = c.requires.some in
    let next : c.args.time - 1 + 1 ≡ c.args.time = omega (arith, some) in
    let block = block_of change.new.now.horizon (c.args.time - 1) in
    record {
      same = refl;
      listed = refl;
      keeping = keeping_begins change.old.now change.new.now change.run.now block c.args.time (active_of s) s.recorder.live.items s.recorder
          (subst (λ (t : ℕ). IsRecorder change.old.now change.new.now change.run.now (λ m. block) t (active_of s) s.recorder) next c.requires.before.recorder);
    }

pub memory-memory-requires : goal.memory-memory-requires
memory-memory-requires c =
    let change = c.args.change.now in
    let new = change.new.now in
    let s = c.args.self.now in
    let id : ModuleId = slice_index_or c.live.result.now c.loop-place.place (record { 0 = 0 }) in
    subst (λ (x : NetlistSimulation). CanTell id.0 x) (sym (ap (λ (x : Rerun). x.simulation) c.loop-place.invariant.same))
    (can_tell change.old.now new c.requires.change.form change.run.now (block_of new.horizon (c.args.time - 1)) c.args.time c.requires.below s c.requires.before.is id.0 (c.is_at_work.ensures.0 c.if-is_at_work.true).0)

pub keep-requires : goal.keep-requires
keep-requires c =
    let change = c.args.change.now in
    let new = change.new.now in
    let time = c.args.time in
    let block = block_of new.horizon (time - 1) in
    let s = c.args.self.now in
    let live = active_of s in
    let list = s.recorder.live.items in
    let k = c.loop-place.place in
    let d : ModuleId = record { 0 = 0 } in
    let now = c.loop-place.self.recorder in
    let inv = c.loop-place.invariant in
    let seen = c.live.result.now in
    let same : seen ≡ list = c.live.ensures ∙ ap (λ v. v.items) inv.listed in
    let within : k < length list = subst (λ xs. k < length xs) (c.live-place-end.ensures) c.loop-place-test.true in
    let at = c.is_at_work.ensures.0 c.if-is_at_work.true in
    let awake : live (slice_index_or seen k d).0 ≡ true = sym (ap (λ (x : Rerun). active_of x (slice_index_or seen k d).0) inv.same) ∙ at.1 in
    let stands : IsSome (module_at new (slice_index_or list k d).0) = subst (λ xs. IsSome (module_at new (slice_index_or xs k d).0)) same at.0 in
    let on : live (slice_index_or list k d).0 ≡ true = subst (λ xs. live (slice_index_or xs k d).0 ≡ true) same awake in
    let next = next_border new time c.requires.border c.requires.some c.requires.below in
    subst (λ xs. CanKeep now (slice_index_or xs k d).0 time) (sym same)
    (keeping_can change.old.now new change.run.now block time live list k d now within inv.keeping next stands on)

pub loop-place-preserved : goal.loop-place-preserved
loop-place-preserved c =
    let change = c.args.change.now in
    let old = change.old.now in
    let new = change.new.now in
    let run = change.run.now in
    let time = c.args.time in
    let block = block_of new.horizon (time - 1) in
    let s = c.args.self.now in
    let live = active_of s in
    let list = s.recorder.live.items in
    let k = c.loop-place.place in
    let d : ModuleId = record { 0 = 0 } in
    let now : RerunRecorder = c.loop-place.self.recorder in
    let inv = c.loop-place.invariant in
    let seen = c.live.result.now in
    let same : seen ≡ list = c.live.ensures ∙ ap (λ v. v.items) inv.listed in
    let within : k < length list = subst (λ xs. k < length xs) c.live-place-end.ensures c.loop-place-test.true in
    let next = next_border new time c.requires.border c.requires.some c.requires.below in
    elim c.if-is_at_work.branch [
      | then-is_at_work+in_ok-keep w ↦
          let after : RerunRecorder = w.keep.new.self in
          let mid : Rerun = record (c.loop-place.self) { recorder = after } in
          let is : c.if-is_at_work.self ≡ mid = w.self-is in
          let done = w.in_ok-keep.ensures in
          let at = c.is_at_work.ensures.0 w.if-is_at_work.true in
          let awake : live (slice_index_or seen k d).0 ≡ true = sym (ap (λ (x : Rerun). active_of x (slice_index_or seen k d).0) inv.same) ∙ at.1 in
          let stands : IsSome (module_at new (slice_index_or list k d).0) = subst (λ xs. IsSome (module_at new (slice_index_or xs k d).0)) same at.0 in
          let on : live (slice_index_or list k d).0 ≡ true = subst (λ xs. live (slice_index_or xs k d).0 ≡ true) same awake in
          let memory : Memory = w.memory-memory.result in
          let simulation : c.loop-place.self.simulation ≡ s.simulation = ap (λ (x : Rerun). x.simulation) inv.same in
          let told = λ (r : ModuleRecord) (here : module_at new (slice_index_or seen k d).0 ≡ Some r).
          told_state old new c.requires.change.form run block time c.requires.below s c.requires.before.is (slice_index_or seen k d).0 r here awake memory
          (λ n t p ok simulated there. w.memory-memory.ensures n t p ok (subst (IsSimulated n t) (sym simulation) simulated) there)
          ∙ sym (before_is new (slice_index_or seen k d).0 time r c.requires.some) in
          let state = subst (λ xs. KeepsState new live inv.keeping.kept (kept_now inv.keeping.kept (slice_index_or list k d).0 time) (slice_index_or xs k d).0 time memory) (sym same)
          (keeping_state old new run block time live list k d now within inv.keeping next stands on memory
          (λ r here. subst (λ xs. memory ≡ state_before new (slice_index_or xs k d).0 r time) same (told r (subst (λ xs. module_at new (slice_index_or xs k d).0 ≡ Some r) (sym same) here)))) in
          let kept : IsRecorder old new run (kept_now inv.keeping.kept (slice_index_or list k d).0 time) time live after =
          done.kept old new run inv.keeping.kept (kept_now inv.keeping.kept (slice_index_or list k d).0 time) time live state inv.keeping.is in
          record {
            same = is ∙ ap (λ (x : Rerun). (let y : Rerun = record x { recorder = after } in y)) inv.same ∙ ap (λ (h : RerunRecorder). (let y : Rerun = record s { recorder = h } in y)) (sym (ap (λ (x : Rerun). x.recorder) is));
            listed = ap (λ (x : Rerun). x.recorder.live) is ∙ done.listed ∙ inv.listed;
            keeping = subst (λ (h : RerunRecorder). IsKeeping old new run block time live list (k + 1) h) (sym (ap (λ (x : Rerun). x.recorder) is))
                (keeping_more old new run block time live list k d now within inv.keeping next stands on after kept);
          }
      | else-is_at_work w ↦
          let is : c.if-is_at_work.self ≡ c.loop-place.self = w.self-is in
          let none : IsSome (module_at new (slice_index_or list k d).0) → live (slice_index_or list k d).0 ≡ true → ⊥ = λ stands on.
          both_ways c.is_at_work.result w.if-is_at_work.false (c.is_at_work.ensures.1 (
            subst (λ xs. IsSome (module_at new (slice_index_or xs k d).0)) (sym same) stands,
            ap (λ (x : Rerun). active_of x (slice_index_or seen k d).0) inv.same ∙ subst (λ xs. live (slice_index_or xs k d).0 ≡ true) (sym same) on,
          )) in
          record {
            same = is ∙ inv.same ∙ ap (λ (h : RerunRecorder). (let y : Rerun = record s { recorder = h } in y)) (sym (ap (λ (x : Rerun). x.recorder) is));
            listed = ap (λ (x : Rerun). x.recorder.live) is ∙ inv.listed;
            keeping = subst (λ (h : RerunRecorder). IsKeeping old new run block time live list (k + 1) h) (sym (ap (λ (x : Rerun). x.recorder) is)) (keeping_same old new run block time live list k d now within inv.keeping none);
          }
    ]

pub returns-clause-recorder : goal.returns-clause-recorder
returns-clause-recorder c =
    let change = c.args.change.now in
    let old = change.old.now in
    let new = change.new.now in
    let run = change.run.now in
    let ok = c.requires.change in
    let time = c.args.time in
    let block = block_of new.horizon (time - 1) in
    let s = c.args.self.now in
    let live = active_of s in
    let list = s.recorder.live.items in
    let now : RerunRecorder = c.loop-place.self.recorder in
    let keeping = c.loop-place.invariant.keeping in
    let next = next_border new time c.requires.border c.requires.some c.requires.below in
    let later = next.later in
    let before = c.requires.before.is in
    let states = sleepers_kept old new ok.old_form ok.form ok.revision run ok.run live before.since block time c.requires.border c.requires.some c.requires.below (omega (arith, later)) before.early before.is.followed.sleeping in
    kept_all old new run keeping.kept time live now keeping.is block time next states keeping.quiet
    (λ m stands on.
    let has = keeping.is.listed m stands on in
    let at : Contains list (record { 0 = m }) = subst (λ v. Contains v.items (record { 0 = m })) c.loop-place.invariant.listed has in
    let low = at.1 in
    let end = c.loop-place-test.false in
    let here : (slice_index_or list at.0 (record { 0 = m })).0 ≡ m = ap (λ (x : ModuleId). x.0) at.2 in
    let last = c.loop-place.auto.place-end in
    let over : length list ≤ c.loop-place.place = subst (λ xs. length xs ≤ c.loop-place.place) c.live-place-end.ensures (omega (arith, end, last)) in
    let within : at.0 < c.loop-place.place = omega (arith, over, low) in
    subst (λ j. keeping.kept j ≡ time) here
    (keeping.done at.0 (record { 0 = m }) within (subst (λ j. IsSome (module_at new j)) (sym here) stands) (subst (λ j. live j ≡ true) (sym here) on)))
