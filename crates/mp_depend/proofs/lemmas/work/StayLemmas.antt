-- States that agree stay so where the inputs agree.
use Rattle.std.proofs.Common.{◌≡◌, ◌⊎◌, ℕ, ◌+◌, ◌<◌, ◌≤◌, Option, Some, None, IsSome, length, zero, suc, refl, ap, sym, subst, ◌∙◌, arith, inl, inr}
use Rattle.std.proofs.lemmas.Bool.{cases_lt}
use Rattle.mp_modules.specs.declared.memory.Memory.{Memory}
use Rattle.mp_modules.specs.Kinds.{width_from}
use Rattle.mp_modules.proofs.KindLemmas.{some_input}
use Rattle.mp_modules.specs.storage.AnyModules.{any_part_of, settle, step}
use Rattle.mp_records.specs.declared.wire_record.WireRecord.{WireRecord}
use Rattle.mp_records.specs.declared.module_record.ModuleRecord.{ModuleRecord}
use Rattle.mp_records.specs.Inputs.{input_at, no_input}
use Rattle.mp_netlist.specs.Circuit.{Circuit, IsCircuit, wire_at, module_at, width_of, module_width}
use Rattle.mp_model.specs.Levels.{built, inputs_by}
use Rattle.mp_model.specs.Waves.{level, state}
use Rattle.mp_model.specs.Reach.{inputs, slot_inputs, IsApart}
use Rattle.mp_model.proofs.BehaviourLemmas.{satisfies}
use Rattle.mp_depend.specs.work.Revisions.{IsRevision, IsKept, AgreeBefore}
use Rattle.mp_depend.specs.work.Stays.{StatesStay, UnreachedStates}
use Rattle.mp_depend.proofs.lemmas.work.SameLemmas.{same, same_lists}

pub some_is : {A : Type 0} (slot : Option A) (x : A) → slot ≡ Some x → IsSome slot
some_is None x e = cc
some_is (Some y) x e = refl

-- wires that stand in both have one width
widths_same : (old new : Circuit) → IsRevision old new → (w : ℕ) (one other : Option WireRecord) → wire_at old w ≡ one → wire_at new w ≡ other → IsSome one → IsSome other → width_of one ≡ width_of other
widths_same old new revised w None other a b some too = cc
widths_same old new revised w (Some r) None a b some too = cc
widths_same old new revised w (Some r) (Some s) a b some too = revised.widths w r s a b

module _ (old new : Circuit) (old_ok : IsCircuit old) (new_ok : IsCircuit new) (revised : IsRevision old new) (m : ℕ) (r : ModuleRecord) (kept : IsKept old new m r) where
  width_same : module_width old r ≡ module_width new r
  width_same =
      let was = old_ok.modules_ok m r kept.before in
      let now = new_ok.modules_ok m r kept.after in
      let some : 0 < length r.inputs = omega (arith, was.inputs, some_input r.kind) in
      let w = (input_at r 0).wire.0 in
      ap (width_from r.kind)
      (widths_same old new revised w (wire_at old w) (wire_at new w) refl refl (was.reads 0 no_input some).0 (now.reads 0 no_input some).0)

  pub built_same : built old r ≡ built new r
  built_same = ap (any_part_of r.kind r.params) width_same

  pub old_inputs : (t : ℕ) → inputs old m t ≡ inputs_by old (level old) r t
  old_inputs t = ap (λ slot. slot_inputs old slot t) kept.before

  pub new_inputs : (t : ℕ) → inputs new m t ≡ inputs_by new (level new) r t
  new_inputs t = ap (λ slot. slot_inputs new slot t) kept.after

  -- a module that isn't apart has the same inputs
  pub together : (t : ℕ) → (IsApart old new m t → ⊥) → inputs_by old (level old) r t ≡ inputs_by new (level new) r t
  together t not =
      sym (old_inputs t)
      ∙ same (inputs old m t) (inputs new m t) (same_lists (inputs old m t) (inputs new m t))
      (λ differ. not (record { before = some_is (module_at old m) r kept.before; after = some_is (module_at new m) r kept.after; differ = differ }))
      ∙ new_inputs t

  pub decide_apart : (t : ℕ) → IsApart old new m t ⊎ (IsApart old new m t → ⊥)
  decide_apart t = elim (same_lists (inputs old m t) (inputs new m t)) as (λ _. IsApart old new m t ⊎ (IsApart old new m t → ⊥)) [
    | inl e ↦ inr (λ apart. apart.differ e)
    | inr differ ↦ inl (record { before = some_is (module_at old m) r kept.before; after = some_is (module_at new m) r kept.after; differ = differ })
  ]

  pub stay : (a b : ℕ) → AgreeBefore old new m a → ((t : ℕ) → a ≤ t → t < b → IsApart old new m t → ⊥) → (t : ℕ) → a ≤ t → t < b → state old m t ≡ state new m t
  stay a b before none zero from below =
      let x = satisfies old old_ok in
      let y = satisfies new new_ok in
      x.settled m r kept.before
      ∙ ap (λ part. settle part (inputs_by old (level old) r 0)) built_same
      ∙ ap (settle (built new r)) (together 0 (none 0 from below))
      ∙ sym (y.settled m r kept.after)
  stay a b before none (suc u) from below =
      let x = satisfies old old_ok in
      let y = satisfies new new_ok in
      let e : u + 1 ≡ suc u = omega arith in
      let earlier : state old m u ≡ state new m u =
      elim (cases_lt u a) as (λ _. state old m u ≡ state new m u) [
        | inl less ↦ before u (omega arith)
        | inr past ↦ stay a b before none u past (omega arith)
      ] in
      let next : state old m (u + 1) ≡ state new m (u + 1) =
      x.stepped m u r kept.before
      ∙ ap (λ part. step part (state old m u) (inputs_by old (level old) r (u + 1))) built_same
      ∙ ap (λ (s : Memory). step (built new r) s (inputs_by old (level old) r (u + 1))) earlier
      ∙ ap (step (built new r) (state new m u)) (together (u + 1) (none (u + 1) (omega arith) (omega arith)))
      ∙ sym (y.stepped m u r kept.after)
      in subst (λ k. state old m k ≡ state new m k) e next

pub states_stay : StatesStay
states_stay old new old_ok new_ok revised m r kept = stay old new old_ok new_ok revised m r kept

pub unreached_states : UnreachedStates
unreached_states old new old_ok new_ok revised m r kept b not t below =
    states_stay old new old_ok new_ok revised m r kept 0 b (λ u e. absurd (omega arith)) (λ k from less apart. not (inr (k, less, apart))) t (omega arith) below
