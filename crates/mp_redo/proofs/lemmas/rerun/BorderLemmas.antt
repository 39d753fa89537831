-- The border between two blocks.
use Rattle.std.proofs.Common.{◌≡◌, ◌⊎◌, ℕ, ◌+◌, ◌-◌, ◌<◌, ◌≤◌, Bool, true, false, List, [], ◌∷◌, ◌++◌, IsSome, Some, length, slice_index_or, refl, ap, sym, subst, ◌∙◌, arith, inl, inr}
use Rattle.std.specs.List.{Contains}
use Rattle.std.proofs.lemmas.Bool.{both_ways, cases_eq}
use Rattle.std.proofs.lemmas.List.Elements.{Contains-append_left, Contains-push, Contains-push_cases}
use Rattle.mp_modules.specs.declared.memory.Memory.{Memory}
use Rattle.mp_records.specs.declared.ids.ModuleId.{ModuleId}
use Rattle.mp_records.specs.declared.module_record.ModuleRecord.{ModuleRecord}
use Rattle.mp_netlist.specs.Circuit.{Circuit, IsCircuit, module_at}
use Rattle.mp_netlist.specs.Slots.{slot_at}
use Rattle.mp_model.specs.Waves.{state}
use Rattle.mp_model.proofs.SlotLemmas.{slot_within}
use Rattle.mp_partition.specs.runs.Checkpoints.{IsBorder}
use Rattle.mp_partition.specs.runs.Marks.{is_marked}
use Rattle.mp_partition.specs.runs.Outcomes.{Outcome}
use Rattle.mp_partition.specs.runs.Runs.{IsRun}
use Rattle.mp_partition.proofs.lemmas.runs.MarkLemmas.{none_in}
use Rattle.mp_simulation.specs.units.NetlistSimulations.{IsSimulated, CanTell}
use Rattle.mp_active.specs.excerpt.Excerpts.{excerpt, ArePortsOn}
use Rattle.mp_active.proofs.lemmas.excerpt.LevelLemmas.{excerpt_state}
use Rattle.mp_active.proofs.lemmas.excerpt.SimulatedLemmas.{showing_simulates}
use Rattle.mp_active.proofs.lemmas.excerpt.ExcerptLemmas.{excerpt_is, length_active, module_active}
use Rattle.mp_active.proofs.lemmas.agreement.RestingLemmas.{sleepers_rest}
use Rattle.mp_active.specs.compare.Comparing.{AreUnseen}
use Rattle.mp_depend.specs.work.Revisions.{IsRevision, IsKept}
use Rattle.mp_depend.specs.declared.recording.rerun_recorder.RerunRecorder.{RerunRecorder}
use Rattle.mp_depend.specs.recording.Recorders.{IsRecorder}
use Rattle.mp_depend.specs.recording.Overlays.{state_in}
use Rattle.mp_depend.specs.recording.Live.{IsWorking, AreAtWork, IsListed}
use Rattle.mp_redo.specs.declared.rerun.rerun.Rerun.{Rerun}
use Rattle.mp_redo.specs.rerun.Leaving.{CanLeaveAt, CanLeave, HaveLeft}
use Rattle.mp_redo.specs.rerun.Reruns.{IsRerunAt, active_of, on_of}
use Rattle.mp_redo.specs.rerun.Windows.{AreTouched, IsAtWindow}
use Rattle.mp_redo.proofs.lemmas.rerun.KeepingLemmas.{old_state_is}
use Rattle.mp_redo.proofs.lemmas.rerun.KeptLemmas.{rerun_renewed}
use Rattle.mp_redo.proofs.lemmas.rerun.StandingLemmas.{standing}
use Rattle.mp_redo.proofs.lemmas.rerun.WindowLemmas.{is_listed}

-- ---- states of active modules

module _ (old new : Circuit) (ok : IsCircuit new) (run : Outcome) (latest time : ℕ) (below : time < new.horizon) (s : Rerun) (is : IsRerunAt old new run latest (time - 1) s) where
  ports : ArePortsOn new (active_of s) (on_of s)
  ports = is.is.followed.ports

  simulated : IsSimulated (excerpt new (active_of s) (on_of s)) (time - 1) s.simulation
  simulated = showing_simulates new ok (active_of s) (on_of s) ports is.numbering (time - 1) s.simulation (omega (arith, below)) is.is.shows

  pub can_tell : (m : ℕ) → IsSome (module_at new m) → CanTell m s.simulation
  can_tell m stands =
      let r = standing (module_at new m) stands in
      record {
        n = excerpt new (active_of s) (on_of s);
        ok = excerpt_is new ok (active_of s) (on_of s) ports;
        t = time - 1;
        is = simulated;
        within = subst (λ (k : ℕ). m < k) (sym (length_active (active_of s) 0 new.modules)) (slot_within new.modules m r.0 r.1);
      }

  pub told_state : (m : ℕ) (r : ModuleRecord) → module_at new m ≡ Some r → active_of s m ≡ true → (memory : Memory)
      → ((n : Circuit) (t : ℕ) (p : ModuleRecord) → IsCircuit n → IsSimulated n t s.simulation → module_at n m ≡ Some p → memory ≡ state n m t) → memory ≡ state new m (time - 1)
  told_state m r at on memory tells =
      tells (excerpt new (active_of s) (on_of s)) (time - 1) r (excerpt_is new ok (active_of s) (on_of s) ports) simulated (module_active new (active_of s) (on_of s) m on ∙ at)
      ∙ excerpt_state new ok (active_of s) (on_of s) ports m (time - 1) r on at (omega (arith, below))

-- ---- who leaves and who stays

module _ (old new : Circuit) (old_ok : IsCircuit old) (new_ok : IsCircuit new) (revised : IsRevision old new) (run : Outcome) (is_run : IsRun old run)
    (time : ℕ) (border : IsBorder new.horizon time) (some : 0 < time) (below : time < new.horizon) (s : Rerun) (touched : AreTouched old new s.activity.touched.items) where
  module _ (m : ℕ) (r : ModuleRecord) (at : module_at new m ≡ Some r) (unmarked : is_marked s.activity.touched.items m ≡ false) (memory : Memory) (is : memory ≡ state new m (time - 1)) where
    stays : IsKept old new m r
    stays = record { before = touched.others m r at unmarked; after = at }

    was : state_in (slot_at run.kept m) time ≡ state old m (time - 1)
    was = old_state_is old new old_ok new_ok revised run is_run m time r stays.before border some below

    pub can_leave_at : active_of s m ≡ true → state_in (slot_at run.kept m) time ≡ memory → CanLeaveAt old new time s m
    can_leave_at on same = record { active = on; part = r; kept = stays; agree = sym was ∙ same ∙ is }

    pub works_on : (state_in (slot_at run.kept m) time ≡ memory → ⊥) → IsWorking old new time m time
    works_on other = inr (inl (record { part = r; kept = stays; last = time - 1; before = omega (arith, some); differ = λ same. other (was ∙ same ∙ sym is) }))

  -- when those that leave sleep
  module _ (none : s.activity.joined.items ≡ []) (seen : AreUnseen (time - 1 + 1) s.comparison) (listed : IsListed new (active_of s) s.recorder.live.items)
      (leaving : List ModuleId) (others : (m : ℕ) → Contains s.recorder.live.items (record { 0 = m }) → IsSome (module_at new m) → active_of s m ≡ true → Contains leaving (record { 0 = m }) ⊎ IsWorking old new time m time)
      (now : Rerun) (left : HaveLeft leaving s now) (is : IsRerunAt old new run time (time - 1) now) where
    work_on : (m : ℕ) → IsSome (module_at new m) → active_of now m ≡ true → IsWorking old new time m time
    work_on m stands on = elim (is_listed m leaving) as (λ _. IsWorking old new time m time) [
      | inl has ↦ let no : ⊥ = both_ways (active_of now m) (left.left m has) on in absurd no
      | inr not ↦
          let awake : active_of s m ≡ true = sym (left.others m not) ∙ on in
          elim (others m (listed m stands awake) stands awake) as (λ _. IsWorking old new time m time) [ inl has ↦ absurd (not has) | inr works ↦ works ]
    ]

    rest_on : (m : ℕ) → IsSome (module_at new m) → active_of now m ≡ false → IsWorking old new time m time → ⊥
    rest_on m stands off works =
        let r = standing (module_at new m) stands in
        let early = is.early m in
        sleepers_rest old new old_ok new_ok revised (is.since m) (time - 1) m time time r.0 (is.is.followed.sleeping m r.0 r.1 off) (omega (arith, early)) (omega (arith, some)) (omega (arith, some)) works

    pub crossed : (recorder : RerunRecorder) → IsRecorder old new run (λ m. time) time (active_of now) recorder → IsAtWindow old new run time (time - 1) (record now { recorder = recorder })
    crossed recorder kept = record {
      is = rerun_renewed old new run time time (time - 1) now now.activity.joined recorder now.window_end now.look_at (omega arith) is;
      unseen = λ x. subst (λ (k : ℕ). k < time - 1 + 1) (sym (ap (λ v. slice_index_or v.items x 0) left.seen)) (seen x);
      touched = subst (λ (marks : List Bool). AreTouched old new marks) (sym (ap (λ (x : Rerun). x.activity.touched.items) left.kept)) touched;
      none = ap (λ (x : Rerun). x.activity.joined.items) left.kept ∙ none;
      work = subst (λ (t : ℕ). AreAtWork old new time t (active_of now)) next (record { works = work_on; rests = rest_on });
      recorder = subst (λ (t : ℕ). IsRecorder old new run (λ m. time) t (active_of now) recorder) next kept;
    }
      where
        next : time ≡ time - 1 + 1
        next = omega (arith, some)

-- nobody leaves
pub none_left : (s : Rerun) (leaving : List ModuleId) → leaving ≡ [] → HaveLeft leaving s s
none_left s leaving none = record {
  kept = refl;
  seen = refl;
  left = λ m has. absurd (none_in (let id : ModuleId = record { 0 = m } in id) (subst (λ (ids : List ModuleId). Contains ids (record { 0 = m })) none has));
  others = λ m not. refl;
}

-- ---- who leaves is listed

-- of the first modules of a list those that can leave are, and each other active one that stands works on
pub record HasFound (old new : Circuit) (time : ℕ) (s : Rerun) (list : List ModuleId) (count : ℕ) (leaving : List ModuleId) : Type 0 where
  pub can : CanLeave old new time leaving s
  pub others : (k : ℕ) (d : ModuleId) → k < count → IsSome (module_at new (slice_index_or list k d).0) → active_of s (slice_index_or list k d).0 ≡ true →
      Contains leaving (slice_index_or list k d) ⊎ IsWorking old new time (slice_index_or list k d).0 time

module _ (old new : Circuit) (time : ℕ) (s : Rerun) (list : List ModuleId) where
  pub found_none : (leaving : List ModuleId) → leaving ≡ [] → HasFound old new time s list 0 leaving
  found_none leaving none = record {
    can = λ m has. absurd (none_in (let id : ModuleId = record { 0 = m } in id) (subst (λ (ids : List ModuleId). Contains ids (record { 0 = m })) none has));
    others = λ k d low. absurd (let no : ⊥ = omega (arith, low) in no);
  }

  module _ (count : ℕ) (leaving : List ModuleId) (id : ModuleId) (at : (d : ModuleId) → slice_index_or list count d ≡ id) (found : HasFound old new time s list count leaving) where
    -- one more leaves
    pub found_more : CanLeaveAt old new time s id.0 → HasFound old new time s list (count + 1) (leaving ++ id ∷ [])
    found_more can = record {
      can = λ m has. elim (Contains-push_cases leaving id (record { 0 = m }) has) as (λ _. CanLeaveAt old new time s m) [
        | inl before ↦ found.can m before
        | inr here ↦ subst (λ (x : ModuleId). CanLeaveAt old new time s x.0) here can
      ];
      others = λ k d low stands on. elim (cases_eq k count) as (λ _. Contains (leaving ++ id ∷ []) (slice_index_or list k d) ⊎ IsWorking old new time (slice_index_or list k d).0 time) [
        | inl same ↦ inl (subst (λ (x : ModuleId). Contains (leaving ++ id ∷ []) x) (sym (ap (λ (j : ℕ). slice_index_or list j d) same ∙ at d)) (Contains-push leaving id))
        | inr other ↦ elim (found.others k d (omega (arith, low, other)) stands on) as (λ _. Contains (leaving ++ id ∷ []) (slice_index_or list k d) ⊎ IsWorking old new time (slice_index_or list k d).0 time) [
          | inl has ↦ inl (Contains-append_left leaving (id ∷ []) (slice_index_or list k d) has)
          | inr works ↦ inr works
        ]
      ];
    }

    -- it stays
    pub found_else : (IsSome (module_at new id.0) → active_of s id.0 ≡ true → IsWorking old new time id.0 time) → HasFound old new time s list (count + 1) leaving
    found_else stays = record {
      can = found.can;
      others = λ k d low stands on. elim (cases_eq k count) as (λ _. Contains leaving (slice_index_or list k d) ⊎ IsWorking old new time (slice_index_or list k d).0 time) [
        | inl same ↦
            let here : slice_index_or list k d ≡ id = ap (λ (j : ℕ). slice_index_or list j d) same ∙ at d in
            inr (subst (λ (x : ModuleId). IsWorking old new time x.0 time) (sym here) (stays (subst (λ (x : ModuleId). IsSome (module_at new x.0)) here stands) (subst (λ (x : ModuleId). active_of s x.0 ≡ true) here on)))
        | inr other ↦ found.others k d (omega (arith, low, other)) stands on
      ];
    }

  pub found_all : (count : ℕ) (leaving : List ModuleId) → HasFound old new time s list count leaving → length list ≤ count → (m : ℕ) → Contains list (record { 0 = m }) → IsSome (module_at new m) → active_of s m ≡ true
      → Contains leaving (record { 0 = m }) ⊎ IsWorking old new time m time
  found_all count leaving found all m has stands on =
      let low = has.1 in
      subst (λ (x : ModuleId). Contains leaving x ⊎ IsWorking old new time x.0 time) has.2
      (found.others has.0 (record { 0 = m }) (omega (arith, low, all)) (subst (λ (x : ModuleId). IsSome (module_at new x.0)) (sym has.2) stands) (subst (λ (x : ModuleId). active_of s x.0 ≡ true) (sym has.2) on))

pub empty_when : {A : Type 0} (xs : List A) → length xs ≡ 0 → xs ≡ []
empty_when [] none = refl
empty_when (x ∷ xs) none = absurd (let no : ⊥ = omega (arith, none) in no)
