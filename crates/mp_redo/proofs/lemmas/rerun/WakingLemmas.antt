-- Modules become active, one after the other.
use Rattle.std.proofs.Common.{◌≡◌, ℕ, ◌+◌, ◌-◌, ◌<◌, ◌≤◌, Bool, true, false, List, [], ◌∷◌, ◌++◌, Some, IsSome, length, take, suc, refl, ap, sym, subst, ◌∙◌, arith, inl, inr}
use Rattle.std.specs.Prelude.{◌==◌, ◌||◌, ◌⊎◌, slice_index_or}
use Rattle.std.specs.List.{Contains}
use Rattle.std.proofs.lemmas.Bool.{eqb-true, eq-eqb, or_cases, or_left, or_right, true≢false}
use Rattle.std.proofs.lemmas.List.{take_more, take_all}
use Rattle.std.proofs.lemmas.List.Elements.{Contains-push, Contains-push_cases, Contains-append_left}
use Rattle.mp_modules.specs.declared.memory.Memory.{Memory}
use Rattle.mp_records.specs.declared.ids.ModuleId.{ModuleId}
use Rattle.mp_records.specs.declared.module_record.ModuleRecord.{ModuleRecord}
use Rattle.mp_netlist.specs.Circuit.{Circuit, IsCircuit, module_at}
use Rattle.mp_model.specs.Waves.{state}
use Rattle.mp_partition.specs.runs.Checkpoints.{state_before}
use Rattle.mp_partition.specs.runs.Outcomes.{Outcome}
use Rattle.mp_depend.specs.work.Revisions.{IsRevision, IsKept}
use Rattle.mp_active.specs.agreement.Sleeping.{IsSleeping, SleepersAgree}
use Rattle.mp_depend.specs.recording.Live.{HaveBecomeLive}
use Rattle.mp_active.specs.excerpt.Numberings.{Numbering}
use Rattle.mp_redo.specs.declared.rerun.rerun.Rerun.{Rerun}
use Rattle.mp_redo.specs.rerun.Joining.{HaveJoined}
use Rattle.mp_redo.specs.rerun.Reruns.{active_of, IsFollowed}
use Rattle.mp_redo.specs.rerun.Returning.{HasSeat, AreBack, IsToldAwake}
use Rattle.mp_redo.specs.rerun.Waking.{HasTurnedOn, HasWoken, HaveWoken}

-- ---- the state that a module that sleeps is in is that of the old run
module _ (old new : Circuit) (run : Outcome) (numbering : Numbering) (since : ℕ → ℕ) (time m : ℕ) (r : ModuleRecord) (s : Rerun) (some : 0 < time)
    (is : IsFollowed old new run numbering since (time - 1) s) (at : module_at new m ≡ Some r) (asleep : active_of s m ≡ false) where
  sleeping : IsSleeping old new (since m) (time - 1) m r
  sleeping = is.sleeping m r at asleep

  pub is_kept : IsKept old new m r
  is_kept = sleeping.kept

  before_is : (u : ℕ) → suc u ≡ time → state_before old m r time ≡ state old m (time - 1)
  before_is u e = subst (λ k. state_before old m r k ≡ state old m (k - 1)) e (ap (state old m) (let same : u ≡ suc u - 1 = omega arith in same))

  pub memory_is : SleepersAgree → IsCircuit old → IsCircuit new → IsRevision old new → state_before old m r time ≡ state new m (time - 1)
  memory_is agree old_ok ok revised =
      before_is (time - 1) (omega (arith, some)) ∙ agree old new old_ok ok revised (since m) (time - 1) m r sleeping (time - 1) sleeping.begun (omega arith)

-- ---- all that becomes of it
module _ (new : Circuit) (r : ModuleRecord) (memory : Memory) (m : ℕ) (numbering : Numbering) (t : ℕ) (wires : ℕ → Bool) (s s1 s2 s3 s4 : Rerun) (turned : HasTurnedOn s s1) (seat : HasSeat new m r memory s1 s2)
    (back : AreBack new numbering t wires s2 s3) (told : IsToldAwake m s3 s4) where
  abbrev with_last : Rerun → Rerun
  with_last x = record x {
    simulation = s4.simulation;
    comparison = s4.comparison;
    pending_outputs = s4.pending_outputs;
    activity = record (x.activity) { active = s4.activity.active; seats = s4.activity.seats; joined = s4.activity.joined };
  }

  actives_before : active_of s3 ≡ active_of s
  actives_before = ap (λ (x : Rerun). active_of x) back.kept ∙ ap (λ (x : Rerun). active_of x) seat.kept ∙ ap (λ (x : Rerun). active_of x) turned.kept

  pub has_woken : HasWoken m s s4
  has_woken = record {
    kept = ap with_last told.kept ∙ ap with_last back.kept ∙ ap with_last seat.kept ∙ ap with_last turned.kept;
    seen = told.seen ∙ ap (λ (x : Rerun). x.comparison.seen) back.kept ∙ ap (λ (x : Rerun). x.comparison.seen) seat.kept ∙ turned.seen;
    active = λ k. told.active k ∙ ap (λ (active : ℕ → Bool). active k || (k == m)) actives_before;
  }

  pub joined_before : s3.activity.joined.items ≡ s.activity.joined.items
  joined_before = ap (λ (x : Rerun). x.activity.joined.items) back.kept ∙ ap (λ (x : Rerun). x.activity.joined.items) seat.kept ∙ ap (λ (x : Rerun). x.activity.joined.items) turned.kept

-- ---- the first of those that join are active
pub record HaveWokenUpTo (joining : List ModuleId) (k : ℕ) (s l : Rerun) : Type 0 where
  pub woken : HaveWoken s l
  pub stay : (m : ℕ) → active_of s m ≡ true → active_of l m ≡ true
  pub done : (m : ℕ) → Contains (take k joining) (record { 0 = m }) → active_of l m ≡ true
  pub awake : (m : ℕ) → active_of l m ≡ true → (active_of s m ≡ true) ⊎ (Contains l.activity.joined.items (record { 0 = m }) × Contains (take k joining) (record { 0 = m }))
  pub joined : (m : ℕ) → Contains l.activity.joined.items (record { 0 = m }) → Contains s.activity.joined.items (record { 0 = m }) ⊎ Contains (take k joining) (record { 0 = m })
  pub were : (m : ℕ) → Contains s.activity.joined.items (record { 0 = m }) → Contains l.activity.joined.items (record { 0 = m })

module _ (joining : List ModuleId) (k : ℕ) (id : ModuleId) (s l : Rerun) (low : k < length joining) (is : slice_index_or joining k id ≡ id) (so : HaveWokenUpTo joining k s l) where
  one_more : take (k + 1) joining ≡ take k joining ++ id ∷ []
  one_more = take_more joining k id low ∙ ap (λ (x : ModuleId). take k joining ++ x ∷ []) is

  in_more : (x : ModuleId) → Contains (take k joining) x → Contains (take (k + 1) joining) x
  in_more x there = subst (λ (xs : List ModuleId). Contains xs x) (sym one_more) (Contains-append_left (take k joining) (id ∷ []) x there)

  here_more : Contains (take (k + 1) joining) id
  here_more = subst (λ (xs : List ModuleId). Contains xs id) (sym one_more) (Contains-push (take k joining) id)

  cases_more : (x : ModuleId) → Contains (take (k + 1) joining) x → Contains (take k joining) x ⊎ (id ≡ x)
  cases_more x there = Contains-push_cases (take k joining) id x (subst (λ (xs : List ModuleId). Contains xs x) one_more there)

  -- it is active before
  pub passed_over : active_of l id.0 ≡ true → HaveWokenUpTo joining (k + 1) s l
  passed_over awake = record {
    woken = so.woken;
    stay = so.stay;
    done = λ m there. elim (cases_more (record { 0 = m }) there) as (λ _. active_of l m ≡ true) [
      | inl was ↦ so.done m was
      | inr own ↦ subst (λ (x : ModuleId). active_of l x.0 ≡ true) own awake
    ];
    awake = λ m is. elim (so.awake m is) as (λ _. (active_of s m ≡ true) ⊎ (Contains l.activity.joined.items (record { 0 = m }) × Contains (take (k + 1) joining) (record { 0 = m }))) [
      | inl was ↦ inl was
      | inr both ↦ inr (both.0, in_more (record { 0 = m }) both.1)
    ];
    joined = λ m there. elim (so.joined m there) as (λ _. Contains s.activity.joined.items (record { 0 = m }) ⊎ Contains (take (k + 1) joining) (record { 0 = m })) [
      | inl was ↦ inl was
      | inr now ↦ inr (in_more (record { 0 = m }) now)
    ];
    were = so.were;
  }

  -- it becomes active
  pub one_woken : (new : Rerun) → HasWoken id.0 l new → new.activity.joined.items ≡ l.activity.joined.items ++ id ∷ [] → HaveWokenUpTo joining (k + 1) s new
  one_woken new woken more = record {
    woken = record {
      kept = ap (λ (x : Rerun). record x {
        simulation = new.simulation;
        comparison = new.comparison;
        pending_outputs = new.pending_outputs;
        activity = record (x.activity) { active = new.activity.active; seats = new.activity.seats; joined = new.activity.joined };
      }) woken.kept ∙ ap (λ (x : Rerun). record x {
        simulation = new.simulation;
        comparison = new.comparison;
        pending_outputs = new.pending_outputs;
        activity = record (x.activity) { active = new.activity.active; seats = new.activity.seats; joined = new.activity.joined };
      }) so.woken.kept;
      seen = woken.seen ∙ so.woken.seen;
    };
    stay = λ m awake. stays m (so.stay m awake);
    done = λ m there. elim (cases_more (record { 0 = m }) there) as (λ _. active_of new m ≡ true) [
      | inl was ↦ stays m (so.done m was)
      | inr own ↦ subst (λ (x : ModuleId). active_of new x.0 ≡ true) own (woken.active id.0 ∙ or_right (active_of l id.0) (id.0 == id.0) (eq-eqb id.0 id.0 refl))
    ];
    awake = λ m is. elim (or_cases (active_of l m) (m == id.0) (sym (woken.active m) ∙ is)) as (λ _. (active_of s m ≡ true) ⊎ (Contains new.activity.joined.items (record { 0 = m }) × Contains (take (k + 1) joining) (record { 0 = m }))) [
      | inl was ↦ elim (so.awake m was) as (λ _. (active_of s m ≡ true) ⊎ (Contains new.activity.joined.items (record { 0 = m }) × Contains (take (k + 1) joining) (record { 0 = m }))) [
        | inl at_first ↦ inl at_first
        | inr both ↦ inr (were_more (record { 0 = m }) both.0, in_more (record { 0 = m }) both.1)
      ]
      | inr own ↦
          let e : id ≡ record { 0 = m } = ap (λ (j : ℕ). (let x : ModuleId = record { 0 = j } in x)) (sym (eqb-true m id.0 own)) in
          inr (subst (λ (x : ModuleId). Contains new.activity.joined.items x) e own_more, subst (λ (x : ModuleId). Contains (take (k + 1) joining) x) e here_more)
    ];
    joined = λ m there. elim (Contains-push_cases l.activity.joined.items id (record { 0 = m }) (subst (λ (xs : List ModuleId). Contains xs (record { 0 = m })) more there)) as
        (λ _. Contains s.activity.joined.items (record { 0 = m }) ⊎ Contains (take (k + 1) joining) (record { 0 = m })) [
          | inl was ↦ elim (so.joined m was) as (λ _. Contains s.activity.joined.items (record { 0 = m }) ⊎ Contains (take (k + 1) joining) (record { 0 = m })) [
            | inl first ↦ inl first
            | inr now ↦ inr (in_more (record { 0 = m }) now)
          ]
          | inr own ↦ inr (subst (λ (x : ModuleId). Contains (take (k + 1) joining) x) own here_more)
        ];
    were = λ m there. were_more (record { 0 = m }) (so.were m there);
  }
    where
      stays : (m : ℕ) → active_of l m ≡ true → active_of new m ≡ true
      stays m awake = woken.active m ∙ or_left (active_of l m) (m == id.0) awake

      were_more : (x : ModuleId) → Contains l.activity.joined.items x → Contains new.activity.joined.items x
      were_more x there = subst (λ (xs : List ModuleId). Contains xs x) (sym more) (Contains-append_left l.activity.joined.items (id ∷ []) x there)

      own_more : Contains new.activity.joined.items id
      own_more = subst (λ (xs : List ModuleId). Contains xs id) (sym more) (Contains-push l.activity.joined.items id)

-- ---- all are
module _ (n : Circuit) (joining : List ModuleId) (k : ℕ) (s new : Rerun) (all : length joining ≤ k) (so : HaveWokenUpTo joining k s new) where
  whole : take k joining ≡ joining
  whole = take_all k joining all

  pub have_become : ((m : ℕ) → Contains joining (record { 0 = m }) → IsSome (module_at n m)) → HaveBecomeLive n joining (active_of s) (active_of new)
  have_become stand = record {
    stand = stand;
    stay = so.stay;
    join = λ m there. so.done m (subst (λ (xs : List ModuleId). Contains xs (record { 0 = m })) (sym whole) there);
    others = λ m other. by m other (active_of new m) (active_of s m) refl refl;
  }
    where
      by : (m : ℕ) → (Contains joining (record { 0 = m }) → ⊥) → (now was : Bool) → active_of new m ≡ now → active_of s m ≡ was → active_of new m ≡ active_of s m
      by m other true was is e = elim (so.awake m is) as (λ _. active_of new m ≡ active_of s m) [
        | inl first ↦ is ∙ sym first
        | inr both ↦ absurd (other (subst (λ (xs : List ModuleId). Contains xs (record { 0 = m })) whole both.1))
      ]
      by m other false true is e = absurd (true≢false (sym (so.stay m e) ∙ is))
      by m other false false is e = is ∙ sym e

  pub have_joined : ((m : ℕ) → Contains joining (record { 0 = m }) → active_of s m ≡ false) → HaveJoined joining s.activity.joined.items new.activity.joined.items
  have_joined asleep m = (there, back)
    where
      there : Contains new.activity.joined.items (record { 0 = m }) → Contains s.activity.joined.items (record { 0 = m }) ⊎ Contains joining (record { 0 = m })
      there is = subst (λ (xs : List ModuleId). Contains s.activity.joined.items (record { 0 = m }) ⊎ Contains xs (record { 0 = m })) whole (so.joined m is)

      back : Contains s.activity.joined.items (record { 0 = m }) ⊎ Contains joining (record { 0 = m }) → Contains new.activity.joined.items (record { 0 = m })
      back (inl was) = so.were m was
      back (inr joins) = elim (so.awake m (so.done m (subst (λ (xs : List ModuleId). Contains xs (record { 0 = m })) (sym whole) joins))) as (λ _. Contains new.activity.joined.items (record { 0 = m })) [
        | inl awake ↦ absurd (true≢false (sym awake ∙ asleep m joins))
        | inr both ↦ both.0
      ]
