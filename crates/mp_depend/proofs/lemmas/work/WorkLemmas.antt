-- What is worked on, and what isn't.
use Rattle.std.proofs.Common.{◌≡◌, ◌⊎◌, ℕ, ◌+◌, ◌<◌, ◌≤◌, Some, refl, ap, sym, subst, ◌∙◌, arith, inl, inr}
use Rattle.std.proofs.lemmas.Bool.{cases_lt}
use Rattle.mp_records.specs.Outputs.{delay_of}
use Rattle.mp_records.specs.declared.ids.ModuleId.{ModuleId}
use Rattle.mp_records.specs.declared.module_record.ModuleRecord.{ModuleRecord}
use Rattle.mp_netlist.specs.Circuit.{Circuit, IsCircuit, module_at}
use Rattle.mp_netlist.specs.Limits.{checkpoint_units}
use Rattle.mp_model.specs.Waves.{state}
use Rattle.mp_model.specs.Reach.{IsApart, IsReached}
use Rattle.mp_depend.specs.work.Revisions.{IsRevision, IsKept, AgreeBefore}
use Rattle.mp_depend.specs.work.Work.{block_of, Differs, IsApartIn, IsAtWork, WorksFrom, WorksOnlyReached, WorksWhileDifferent, AgreesOutside, LevelsAgreeOutside}
use Rattle.mp_depend.proofs.lemmas.work.SameLemmas.{same, same_memories, search_span}
use Rattle.mp_depend.proofs.lemmas.work.WindowLemmas.{window_within, same_block}
use Rattle.mp_depend.proofs.lemmas.work.LevelLemmas.{levels_stay}
use Rattle.mp_depend.proofs.lemmas.work.StayLemmas.{states_stay, decide_apart}

-- where states differ before a time, the module was apart before
apart_before : (old new : Circuit) → IsCircuit old → IsCircuit new → IsRevision old new → (m c : ℕ) → Differs old new m c → (t : ℕ) × (0 ≤ t) × (t < c) × IsApart old new m t
apart_before old new old_ok new_ok revised m c differs =
    elim (search_span (IsApart old new m) (decide_apart old new old_ok new_ok revised m differs.part differs.kept) 0 c) as (λ _. (t : ℕ) × (0 ≤ t) × (t < c) × IsApart old new m t) [
      | inl found ↦ found
      | inr none ↦ absurd (differs.differ (states_stay old new old_ok new_ok revised m differs.part differs.kept 0 c (λ u e. absurd (omega arith)) none differs.last (omega arith) (omega (arith, differs.before))))
    ]

pub only_reached : WorksOnlyReached
only_reached old new old_ok new_ok revised m from to entry = by entry.works
  where
    within : (block_of new.horizon entry.start ≤ entry.start) × (entry.start < to) × (to ≤ block_of new.horizon entry.start + checkpoint_units new.horizon)
    within = window_within new new_ok entry.start to entry.window

    at_work : IsAtWork old new m entry.start → IsReached old new m to
    at_work (inl touched) = inl touched
    at_work (inr (inl differs)) =
        let found = apart_before old new old_ok new_ok revised m (block_of new.horizon entry.start) differs in
        inr (found.0, omega (arith, found.2, within.0, within.1), found.3)
    at_work (inr (inr found)) = inr (found.0, omega (arith, found.2, within.1), found.3)

    by : WorksFrom old new m entry.start from to → IsReached old new m to
    by (inl works) = at_work works.0
    by (inr joins) = inr (joins.1.0, joins.1.2, joins.1.3)

pub rejoins : WorksWhileDifferent
rejoins old new new_ok m from to r kept entry =
    subst (λ c. Differs old new m c ⊎ IsApartIn old new m c to) (sym (same_block new.horizon entry.start to within.1 within.2)) (by entry.works)
  where
    within : (block_of new.horizon entry.start ≤ entry.start) × (entry.start < to) × (to ≤ block_of new.horizon entry.start + checkpoint_units new.horizon)
    within = window_within new new_ok entry.start to entry.window

    at_work : IsAtWork old new m entry.start → Differs old new m (block_of new.horizon entry.start) ⊎ IsApartIn old new m (block_of new.horizon entry.start) to
    at_work (inl touched) = absurd (touched.differ (kept.before ∙ sym kept.after))
    at_work (inr (inl differs)) = inl differs
    at_work (inr (inr found)) = inr (found.0, found.1, omega (arith, found.2, within.1), found.3)

    by : WorksFrom old new m entry.start from to → Differs old new m (block_of new.horizon entry.start) ⊎ IsApartIn old new m (block_of new.horizon entry.start) to
    by (inl works) = at_work works.0
    by (inr joins) = inr (joins.1.0, omega (arith, joins.1.1, within.0), joins.1.2, joins.1.3)

pub agrees_outside : AgreesOutside
agrees_outside old new old_ok new_ok revised m r kept start to window none =
    states_stay old new old_ok new_ok revised m r kept (block_of new.horizon start) to before together
  where
    idle : IsAtWork old new m start → ⊥
    idle work = none start (record { start = start; window = window; works = inl (work, refl) })

    before : AgreeBefore old new m (block_of new.horizon start)
    before u e = same (state old m u) (state new m u) (same_memories (state old m u) (state new m u))
        (λ differ. idle (inr (inl (record { part = r; kept = kept; last = u; before = e; differ = differ }))))

    together : (t : ℕ) → block_of new.horizon start ≤ t → t < to → IsApart old new m t → ⊥
    together t from below apart = elim (cases_lt t start) as (λ _. ⊥) [
      | inl earlier ↦ idle (inr (inr (t, from, earlier, apart)))
      | inr later ↦ none (block_of new.horizon start) (record { start = start; window = window; works = inr (idle, (t, later, below, apart), refl) })
    ]

pub levels_agree_outside : LevelsAgreeOutside
levels_agree_outside old new old_ok new_ok revised w alike m p r drives at start to window none t from below =
    levels_stay old new old_ok new_ok revised w alike t (λ k q u s drive stands e.
    let part : k ≡ m = cc in
    let port : q ≡ p = cc in
    let slot : module_at new m.0 ≡ Some s = subst (λ (j : ModuleId). module_at new j.0 ≡ Some s) part stands in
    let one : s ≡ r = cc in
    let delay : delay_of s q ≡ delay_of r p = ap (λ (x : ModuleRecord). delay_of x q) one ∙ ap (delay_of r) port in
    let kept : IsKept old new m.0 r = record { before = alike.part m p drives ∙ at; after = at } in
    subst (λ (j : ModuleId). state old j.0 u ≡ state new j.0 u) (sym part)
    (agrees_outside old new old_ok new_ok revised m.0 r kept start to window none u (omega (arith, e, delay, from)) (omega (arith, e, delay, below))))
