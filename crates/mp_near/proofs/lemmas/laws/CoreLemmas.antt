-- What is picked beside the core of a region has its old levels and states there, so nothing outside the region reads another level.
use Rattle.std.proofs.Common.{◌≡◌, ◌⊎◌, ℕ, ◌+◌, ◌<◌, ◌≤◌, Bool, true, false, cond, Some, zero, suc, ap, sym, subst, ◌∙◌, arith, inl, inr}
use Rattle.std.proofs.lemmas.Bool.{cases_Bool, cases_lt}
use Rattle.mp_modules.specs.declared.memory.Memory.{Memory}
use Rattle.mp_modules.specs.storage.AnyModules.{settle, step}
use Rattle.mp_records.specs.declared.module_record.ModuleRecord.{ModuleRecord}
use Rattle.mp_netlist.specs.Circuit.{Circuit, IsCircuit, Drives, module_at}
use Rattle.mp_model.specs.Levels.{built, inputs_by, level_by}
use Rattle.mp_model.specs.Waves.{level, state}
use Rattle.mp_model.proofs.BehaviourLemmas.{satisfies}
use Rattle.mp_model.proofs.HistoryLemmas.{SameBelow, level_by_same}
use Rattle.mp_partition.specs.regions.Readers.{Reads}
use Rattle.mp_depend.specs.work.Revisions.{IsRevision, IsKept, IsDrivenAlike}
use Rattle.mp_depend.proofs.lemmas.work.StayLemmas.{built_same}
use Rattle.mp_near.specs.laws.Picking.{Picking, has_wire, has_module}
use Rattle.mp_near.specs.laws.Regions.{AreRegion, Stays, IsCore, ClosedCoresStay}
use Rattle.mp_near.proofs.lemmas.laws.PlacedLemmas.{at_place}
use Rattle.mp_near.proofs.lemmas.laws.AlikeLemmas.{alike_level, kept_inputs}
use Rattle.mp_near.proofs.lemmas.laws.RegionLevelLemmas.{levels, states, level_in, state_in, state_out, driven_in, settled_in, stepped_in}

module _ (old new was now : Circuit) (pick : Picking) (core : ℕ → Bool) (old_ok : IsCircuit old) (new_ok : IsCircuit new) (now_ok : IsCircuit now) (revised : IsRevision old new) (region : AreRegion old new was now pick) (is : IsCore old new pick core) where
  -- the levels and states of the region where they are picked, and else those of the old netlist
  abbrev all_levels : ℕ → ℕ → ℕ
  all_levels w t = levels old new was now pick old_ok new_ok now_ok revised region w t

  abbrev all_states : ℕ → ℕ → Memory
  all_states m t = states old new was now pick old_ok new_ok now_ok revised region m t

  -- the states of the region in the core, and else those of the old netlist
  abbrev core_states : ℕ → ℕ → Memory
  core_states m t = cond (core m) (state now (pick.seat_of m) t) (state old m t)

  core_in : (m t : ℕ) → core m ≡ true → core_states m t ≡ state now (pick.seat_of m) t
  core_in m t e = ap (λ b. cond b (state now (pick.seat_of m) t) (state old m t)) e

  core_out : (m t : ℕ) → core m ≡ false → core_states m t ≡ state old m t
  core_out m t e = ap (λ b. cond b (state now (pick.seat_of m) t) (state old m t)) e

  -- below a time the picked modules outside the core have their old states
  abbrev HaveStayed : ℕ → Type 0
  HaveStayed t = (m u : ℕ) (r : ModuleRecord) → u < t → has_module pick m ≡ true → core m ≡ false → module_at new m ≡ Some r → state now (pick.seat_of m) u ≡ state old m u

  states_same : (t : ℕ) → HaveStayed t → SameBelow new t all_states core_states
  states_same t stayed m u r low at = elim (cases_Bool (core m)) as (λ _. all_states m u ≡ core_states m u) [
    | inl inside ↦ state_in old new was now pick old_ok new_ok now_ok revised region m u (is.picked m inside) ∙ sym (core_in m u inside)
    | inr outside ↦ elim (cases_Bool (has_module pick m)) as (λ _. all_states m u ≡ core_states m u) [
      | inl picked ↦ state_in old new was now pick old_ok new_ok now_ok revised region m u picked ∙ stayed m u r low picked outside at ∙ sym (core_out m u outside)
      | inr not ↦ state_out old new was now pick old_ok new_ok now_ok revised region m u not ∙ sym (core_out m u outside)
    ]
  ]

  -- a module outside the core reads no wire of a module in it
  driver_out : (m w : ℕ) → core m ≡ false → Reads new m w → (k p : ℕ) → Drives new k p w → core k ≡ false
  driver_out m w outside reads k p drives = elim (cases_Bool (core k)) as (λ _. core k ≡ false) [
    | inl inside ↦ let reader = is.driven k p w m inside drives reads in let no : ⊥ = cc in absurd no
    | inr other ↦ other
  ]

  alike : (m w : ℕ) → core m ≡ false → Reads new m w → IsDrivenAlike old new w
  alike m w outside reads = by (is.changed w m reads)
    where
      by : (core m ≡ true) ⊎ IsDrivenAlike old new w → IsDrivenAlike old new w
      by (inl inside) = let no : ⊥ = cc in absurd no
      by (inr found) = found

  -- a picked wire that it reads has its old level
  level_stays : (t : ℕ) → t < new.horizon → HaveStayed t → (m w : ℕ) → core m ≡ false → Reads new m w → has_wire pick w ≡ true → level now (pick.place_of w) t ≡ level old w t
  level_stays t low stayed m w outside reads picked =
      driven_in old new was now pick old_ok new_ok now_ok revised region (pick.place_of w) t low
      ∙ ap (λ v. level_by new all_states v t) (at_place pick w picked)
      ∙ level_by_same new new_ok all_states core_states w t (states_same t stayed)
      ∙ sym (alike_level old new old_ok new_ok revised w t core_states (alike m w outside reads) (λ k p u drives. core_out k u (driver_out m w outside reads k p drives)))

  -- a picked module outside the core
  module _ (m : ℕ) (r : ModuleRecord) (picked : has_module pick m ≡ true) (outside : core m ≡ false) (at : module_at new m ≡ Some r) where
    kept : IsKept old new m r
    kept = record { before = is.same m outside ∙ at; after = at }

    built_old : built old r ≡ built new r
    built_old = built_same old new old_ok new_ok revised m r kept

    inputs_old : (t : ℕ) → t < new.horizon → HaveStayed t → inputs_by old (level old) r t ≡ inputs_by new all_levels r t
    inputs_old t low stayed = kept_inputs old new old_ok new_ok revised m r t all_levels kept
        (λ w u before reads.
        let wire = region.new_picking.read m w picked reads in
        sym (level_in old new was now pick old_ok new_ok now_ok revised region w u wire
        ∙ level_stays u (omega (arith, before, low)) (λ k v q less. stayed k v q (omega (arith, less, before))) m w outside reads wire))

    state_first : 0 < new.horizon → HaveStayed 0 → state now (pick.seat_of m) 0 ≡ state old m 0
    state_first low stayed =
        sym (state_in old new was now pick old_ok new_ok now_ok revised region m 0 picked)
        ∙ settled_in old new was now pick old_ok new_ok now_ok revised region m r picked at
        ∙ ap (settle (built new r)) (sym (inputs_old 0 low stayed))
        ∙ ap (λ part. settle part (inputs_by old (level old) r 0)) (sym built_old)
        ∙ sym ((satisfies old old_ok).settled m r kept.before)

    state_next : (t : ℕ) → t + 1 < new.horizon → HaveStayed (t + 1) → state now (pick.seat_of m) (t + 1) ≡ state old m (t + 1)
    state_next t low stayed =
        sym (state_in old new was now pick old_ok new_ok now_ok revised region m (t + 1) picked)
        ∙ stepped_in old new was now pick old_ok new_ok now_ok revised region m r picked at t
        ∙ ap (λ (x : Memory). step (built new r) x (inputs_by new all_levels r (t + 1))) (state_in old new was now pick old_ok new_ok now_ok revised region m t picked ∙ stayed m t r (omega arith) picked outside at)
        ∙ ap (step (built new r) (state old m t)) (sym (inputs_old (t + 1) low stayed))
        ∙ ap (λ part. step part (state old m t) (inputs_by old (level old) r (t + 1))) (sym built_old)
        ∙ sym ((satisfies old old_ok).stepped m t r kept.before)

    state_at : (t : ℕ) → t < new.horizon → HaveStayed t → state now (pick.seat_of m) t ≡ state old m t
    state_at zero low stayed = state_first low stayed
    state_at (suc t) low stayed =
        let e : t + 1 ≡ suc t = omega arith in
        subst (λ k. state now (pick.seat_of m) k ≡ state old m k) e (state_next t (omega (arith, low)) (λ k v q less. stayed k v q (omega (arith, less))))

  have_stayed : (t : ℕ) → t ≤ new.horizon → HaveStayed t
  have_stayed zero low m u r below picked outside at = absurd (omega (arith, below))
  have_stayed (suc t) low m u r below picked outside at =
      let earlier = have_stayed t (omega (arith, low)) in
      elim (cases_lt u t) as (λ _. state now (pick.seat_of m) u ≡ state old m u) [
        | inl less ↦ earlier m u r less picked outside at
        | inr last ↦
            let e : t ≡ u = omega (arith, last, below) in
            subst (λ k. state now (pick.seat_of m) k ≡ state old m k) e (state_at m r picked outside at t (omega (arith, low)) earlier)
      ]

  core_stays : (h : ℕ) → h ≤ new.horizon → Stays old new now pick h
  core_stays h within m w t not reads picked own low = elim (cases_Bool (core m)) as (λ _. level now (pick.place_of w) t ≡ level old w t) [
    | inl inside ↦ let has = is.picked m inside in let no : ⊥ = cc in absurd no
    | inr outside ↦ level_stays t (omega (arith, low, within)) (have_stayed t (omega (arith, low, within))) m w outside reads picked
  ]

pub closed_cores_stay : ClosedCoresStay
closed_cores_stay old new was now pick core old_ok new_ok now_ok revised region is h within m w t not reads picked own low =
    core_stays old new was now pick core old_ok new_ok now_ok revised region is h within m w t not reads picked own low
