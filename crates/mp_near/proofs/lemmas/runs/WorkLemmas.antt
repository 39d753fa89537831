-- The work of a region and the work of its netlist.
use Rattle.std.proofs.Common.{◌≡◌, ℕ, ◌+◌, ◌<◌, ◌≤◌, List, [], ◌∷◌, Option, Some, None, map, option_map, length, slice_index_or, refl, ap, sym, subst, ◌∙◌, arith, inl, inr}
use Rattle.std.specs.Prelude.{Bool, IsSome}
use Rattle.std.proofs.lemmas.Bool.{cases_lt}
use Rattle.std.proofs.lemmas.List.{get_or_past, get_or_default}
use Rattle.mp_netlist.specs.Circuit.{Circuit, module_at}
use Rattle.mp_model.proofs.SlotLemmas.{some_within}
use Rattle.mp_depend.specs.declared.work.work_span.WorkSpan.{WorkSpan}
use Rattle.mp_depend.specs.work.Work.{IsAtWork, WorksFrom, IsEntry}
use Rattle.mp_depend.specs.work.WorkSpans.{work_span_at, HasBegun, AreWorkSpans}
use Rattle.mp_phase.specs.Allowed.{IsAllowed}
use Rattle.mp_near.specs.laws.Picking.{Picking, placed}
use Rattle.mp_near.specs.laws.RegionWorkSpans.{with_old_number}
use Rattle.mp_near.proofs.lemmas.laws.PlacedLemmas.{some_is}
use Rattle.mp_near.proofs.lemmas.laws.RegionWorkLemmas.{regions_have_work, others_rest}
use Rattle.mp_near.proofs.lemmas.laws.WorkSpanLemmas.{regions_have_work_spans}
use Rattle.mp_near.specs.Changes.{IsChange}
use Rattle.mp_near.specs.region.Picks.{picking}
use Rattle.mp_near.specs.region.Regions.{IsSmall, HasLeast, with_number}
use Rattle.mp_near.specs.declared.revision.Revision.{Revision}
use Rattle.mp_near.specs.declared.region.small.Small.{Small}
use Rattle.mp_near.proofs.lemmas.runs.RunLemmas.{stays, outside}

-- whatever works stands in the new netlist
entry_stands : (old new : Circuit) (m from to : ℕ) → IsEntry old new m from to → IsSome (module_at new m)
entry_stands old new m from to is = by is.works
  where
    at_work : IsAtWork old new m is.start → IsSome (module_at new m)
    at_work (inl touched) = touched.stands
    at_work (inr (inl differs)) = some_is (module_at new m) differs.part differs.kept.after
    at_work (inr (inr apart)) = apart.3.after

    by : WorksFrom old new m is.start from to → IsSome (module_at new m)
    by (inl works) = at_work works.0
    by (inr works) = works.1.3.after

mapped_some : {A B : Type 0} (f : A → B) (slot : Option A) → IsSome (option_map f slot) → IsSome slot
mapped_some f None some = some
mapped_some f (Some x) some = refl

module _ (change : Revision) (is : IsChange change) (small : Small) (like : IsSmall change.old.now change.new.now small) where
  abbrev pick : Picking
  pick = picking change.new.now small.picked

  abbrev numbers : List ℕ
  numbers = small.picked.modules.numbers.items

  -- a module of the region has a number in the netlist
  number_there : (k : ℕ) → IsSome (module_at small.now k) → k < length numbers
  number_there k stands = elim (cases_lt k (length numbers)) as (λ _. k < length numbers) [
    | inl low ↦ low
    | inr past ↦
        let number : pick.module_of k ≡ length change.new.now.modules + k + 1 = get_or_past numbers k (length change.new.now.modules + k + 1) past in
        let there : IsSome (module_at change.new.now (pick.module_of k)) = mapped_some (placed pick.place_of) (module_at change.new.now (pick.module_of k)) (subst IsSome (like.region.after.modules k) stands) in
        let low = some_within change.new.now.modules (pick.module_of k) there in
        absurd (omega (arith, number, low))
  ]

  entry_there : (k from to : ℕ) → IsEntry small.was small.now k from to → k < length numbers
  entry_there k from to entry = number_there k (entry_stands small.was small.now k from to entry)

  -- the work spans of the region are at its modules
  pub span_there : (work_spans : List WorkSpan) → AreWorkSpans small.was small.now work_spans → (j : ℕ) → j < length work_spans → (work_span_at work_spans j).«module».0 < length numbers
  span_there work_spans are j within =
      let s = work_span_at work_spans j in
      let low : s.first_end < small.now.horizon + 1 = by (are.begun j within) in
      entry_there s.«module».0 s.from s.first_end (are.only s.«module».0 s.from s.first_end j (omega arith) (record { within = within; part = refl; at = inl (refl, refl) }))
    where
      by : HasBegun small.now small.now.horizon (work_span_at work_spans j) → (work_span_at work_spans j).first_end < small.now.horizon + 1
      by (inl low) = omega arith
      by (inr none) = let some = like.now.horizon_low in let zero = none.0 in absurd (omega arith)

  -- what works in the region works in the netlist
  entry_up : HasLeast change.new.now small → (k from to : ℕ) → IsEntry small.was small.now k from to → IsEntry change.old.now change.new.now (slice_index_or numbers k 0) from to
  entry_up (inl none) k from to entry = let low = entry_there k from to entry in let size = ap (λ (xs : List ℕ). length xs) none in absurd (omega (arith, low, size))
  entry_up (inr least) k from to entry =
      let low = entry_there k from to entry in
      subst (λ m. IsEntry change.old.now change.new.now m from to) (get_or_default numbers k (length change.new.now.modules + k + 1) 0 low)
      ((regions_have_work change.old.now change.new.now small.was small.now pick is.old is.new like.was like.now is.revision like.region least change.new.now.horizon (omega arith)
      (stays change is small like) k from to (entry_low k from to entry)).0 entry)
    where
      entry_low : (k from to : ℕ) → IsEntry small.was small.now k from to → to ≤ change.new.now.horizon
      entry_low k from to entry = let ends = entry.window.ends in let horizon = like.region.after.horizon in omega (arith, ends, horizon)

  pub allowed_there : HasLeast change.new.now small → (may : ℕ → ℕ → ℕ → Bool) → IsAllowed (IsEntry change.old.now change.new.now) may →
      IsAllowed (IsEntry small.was small.now) (λ k from to. may (slice_index_or numbers k 0) from to)
  allowed_there least may allowed k from to entry = allowed (slice_index_or numbers k 0) from to (entry_up least k from to entry)

  -- work spans with the numbers of the netlist
  renumbered : (work_spans all : List WorkSpan) → all ≡ map (with_number (length change.new.now.modules) numbers) work_spans → all ≡ map (with_old_number pick) work_spans
  renumbered work_spans all is = is

  no_spans : (work_spans : List WorkSpan) → numbers ≡ [] → AreWorkSpans small.was small.now work_spans → work_spans ≡ []
  no_spans [] none are = refl
  no_spans (s ∷ others) none are =
      let low = span_there (s ∷ others) are 0 (omega arith) in
      let size = ap (λ (xs : List ℕ). length xs) none in
      absurd (omega (arith, low, size))

  nothing : numbers ≡ [] → AreWorkSpans change.old.now change.new.now []
  nothing none = record {
    known = λ m from to low entry. absurd (others_rest change.old.now change.new.now small.was small.now pick is.old is.new like.now is.revision like.region change.new.now.horizon (omega arith)
        (stays change is small like) m from to low (outside change is small like m (λ k there one. let size = ap (λ (xs : List ℕ). length xs) none in absurd (omega (arith, there, size)))) entry);
    only = λ m from to k low at. let no = at.within in absurd (omega (arith, no));
    once = λ m from to k j low at other. let no = at.within in absurd (omega (arith, no));
    begun = λ k low. absurd (omega arith);
    ends = λ k low. absurd (omega arith);
  }

  pub spans_up : HasLeast change.new.now small → (work_spans all : List WorkSpan) → AreWorkSpans small.was small.now work_spans →
      all ≡ map (with_number (length change.new.now.modules) numbers) work_spans → AreWorkSpans change.old.now change.new.now all
  spans_up (inl none) work_spans all are same =
      subst (AreWorkSpans change.old.now change.new.now) (sym (same ∙ ap (map (with_number (length change.new.now.modules) numbers)) (no_spans work_spans none are))) (nothing none)
  spans_up (inr least) work_spans all are same =
      subst (AreWorkSpans change.old.now change.new.now) (sym (renumbered work_spans all same))
      (regions_have_work_spans change.old.now change.new.now small.was small.now pick is.old is.new like.was like.now is.revision like.region least (stays change is small like) work_spans are)
