-- The work spans of a region are those of its netlist.
use Rattle.std.proofs.Common.{◌≡◌, ℕ, ◌<◌, ◌≤◌, List, map, length, refl, ap, sym, subst, ◌∙◌, arith, inl, inr}
use Rattle.std.specs.Prelude.{IsSome}
use Rattle.std.proofs.lemmas.Bool.{cases_Bool}
use Rattle.std.proofs.lemmas.List.{length-map, get_or-map}
use Rattle.mp_netlist.specs.Circuit.{Circuit, IsCircuit, module_at}
use Rattle.mp_netlist.specs.Delays.{least_delay}
use Rattle.mp_model.specs.Waves.{level}
use Rattle.mp_depend.specs.declared.work.work_span.WorkSpan.{WorkSpan}
use Rattle.mp_depend.specs.work.Revisions.{IsRevision}
use Rattle.mp_depend.specs.work.Work.{IsAtWork, WorksFrom, IsEntry}
use Rattle.mp_depend.specs.work.WorkSpans.{no_work_span, work_span_at, IsPart, IsIn, EndsWithWindow, HasBegun, AreWorkSpans}
use Rattle.mp_near.specs.laws.Picking.{Picking, has_module}
use Rattle.mp_near.specs.laws.Regions.{AreRegion, Stays}
use Rattle.mp_near.specs.laws.RegionWork.{HasWorkOf}
use Rattle.mp_near.specs.laws.RegionWorkSpans.{with_old_number, RegionsHaveWorkSpans}
use Rattle.mp_near.proofs.lemmas.laws.PlacedLemmas.{some_is, at_seat, module_stands}
use Rattle.mp_near.proofs.lemmas.laws.EntryLemmas.{is_window, end_same}
use Rattle.mp_near.proofs.lemmas.laws.RegionWorkLemmas.{regions_have_work, others_rest}

-- whatever works stands in the new netlist
entry_stands : (old new : Circuit) (m from to : ℕ) → IsEntry old new m from to → IsSome (module_at new m)
entry_stands old new m from to is = by is.works
  where
    at_work : IsAtWork old new m is.start → IsSome (module_at new m)
    at_work (inl touched) = touched.stands
    at_work (inr (inl differs)) = some_is (module_at new m) differs.part differs.kept.after
    at_work (inr (inr apart)) = apart.3.after

    by : WorksFrom old new m is.start from to → IsSome (module_at new m)
    by (inl works) = at_work works.0
    by (inr works) = works.1.3.after

-- work spans of two netlists with one horizon and one least delay
module _ (new now : Circuit) (pick : Picking) (horizon : now.horizon ≡ new.horizon) (least : least_delay now ≡ least_delay new) (work_spans : List WorkSpan) where
  abbrev spans : List WorkSpan
  spans = map (with_old_number pick) work_spans

  inside : (j : ℕ) → j < length spans → j < length work_spans
  inside j within = let size = length-map work_spans (with_old_number pick) in omega (arith, within, size)

  span_there : (j : ℕ) → j < length work_spans → work_span_at spans j ≡ with_old_number pick (work_span_at work_spans j)
  span_there j within = get_or-map (with_old_number pick) work_spans j no_work_span no_work_span within

  part_up : (s : WorkSpan) (from to : ℕ) → IsPart now s from to → IsPart new (with_old_number pick s) from to
  part_up s from to (inl first) = inl first
  part_up s from to (inr later) = inr (is_window new now horizon least from to later.0, later.1, later.2)

  part_down : (s : WorkSpan) (from to : ℕ) → IsPart new (with_old_number pick s) from to → IsPart now s from to
  part_down s from to (inl first) = inl first
  part_down s from to (inr later) = inr (is_window now new (sym horizon) (sym least) from to later.0, later.1, later.2)

  in_up : (k m from to j : ℕ) → pick.module_of k ≡ m → IsIn now work_spans k from to j → IsIn new spans m from to j
  in_up k m from to j number is = record {
    within = let size = length-map work_spans (with_old_number pick) in let within = is.within in omega (arith, within, size);
    part = ap (λ (s : WorkSpan). s.«module».0) (span_there j is.within) ∙ ap (λ i. pick.module_of i) is.part ∙ number;
    at = subst (λ s. IsPart new s from to) (sym (span_there j is.within)) (part_up (work_span_at work_spans j) from to is.at);
  }

  in_down : (m from to j : ℕ) → IsIn new spans m from to j → IsIn now work_spans (work_span_at work_spans j).«module».0 from to j
  in_down m from to j is = record {
    within = inside j is.within;
    part = refl;
    at = part_down (work_span_at work_spans j) from to (subst (λ s. IsPart new s from to) (span_there j (inside j is.within)) is.at);
  }

  in_number : (m from to j : ℕ) → IsIn new spans m from to j → pick.module_of (work_span_at work_spans j).«module».0 ≡ m
  in_number m from to j is = sym (ap (λ (s : WorkSpan). s.«module».0) (span_there j (inside j is.within))) ∙ is.part

  begun_up : (s : WorkSpan) → HasBegun now now.horizon s → HasBegun new new.horizon (with_old_number pick s)
  begun_up s (inl ended) = inl (omega (arith, ended, horizon))
  begun_up s (inr first) = inr (sym horizon ∙ first.0, first.1, first.2 ∙ end_same new now horizon least 0)

  ends_up : (s : WorkSpan) → EndsWithWindow now s → EndsWithWindow new (with_old_number pick s)
  ends_up s (inl whole) = inl (whole ∙ horizon)
  ends_up s (inr window) = inr (window.0, is_window new now horizon least window.0 s.last_end window.1)

module _ (old new was now : Circuit) (pick : Picking) (old_ok : IsCircuit old) (new_ok : IsCircuit new) (was_ok : IsCircuit was) (now_ok : IsCircuit now) (revised : IsRevision old new)
    (region : AreRegion old new was now pick) (least : least_delay now ≡ least_delay new) (stays : Stays old new now pick new.horizon) (work_spans : List WorkSpan) (are : AreWorkSpans was now work_spans) where
  horizon : now.horizon ≡ new.horizon
  horizon = region.after.horizon

  work : HasWorkOf old new was now pick new.horizon
  work = regions_have_work old new was now pick old_ok new_ok was_ok now_ok revised region least new.horizon (omega arith) stays

  low_there : (to : ℕ) → to ≤ new.horizon → to ≤ now.horizon
  low_there to low = omega (arith, low, horizon)

  known : (m from to : ℕ) → to ≤ new.horizon → IsEntry old new m from to → (j : ℕ) × IsIn new (spans new now pick horizon least work_spans) m from to j
  known m from to low entry = elim (cases_Bool (has_module pick m)) as (λ _. (j : ℕ) × IsIn new (spans new now pick horizon least work_spans) m from to j) [
    | inl picked ↦
        let number = at_seat pick m picked in
        let found = are.known (pick.seat_of m) from to (low_there to low) ((work (pick.seat_of m) from to low).1 (subst (λ i. IsEntry old new i from to) (sym number) entry)) in
        (found.0, in_up new now pick horizon least work_spans (pick.seat_of m) m from to found.0 number found.1)
    | inr not ↦ absurd (others_rest old new was now pick old_ok new_ok now_ok revised region new.horizon (omega arith) stays m from to low not entry)
  ]

  -- what is in a work span is work of the region
  entry_of : (m from to j : ℕ) → to ≤ new.horizon → IsIn new (spans new now pick horizon least work_spans) m from to j → IsEntry was now (work_span_at work_spans j).«module».0 from to
  entry_of m from to j low is = are.only (work_span_at work_spans j).«module».0 from to j (low_there to low) (in_down new now pick horizon least work_spans m from to j is)

  only : (m from to j : ℕ) → to ≤ new.horizon → IsIn new (spans new now pick horizon least work_spans) m from to j → IsEntry old new m from to
  only m from to j low is =
      subst (λ i. IsEntry old new i from to) (in_number new now pick horizon least work_spans m from to j is)
      ((work (work_span_at work_spans j).«module».0 from to low).0 (entry_of m from to j low is))

  seat : (m from to j : ℕ) → to ≤ new.horizon → IsIn new (spans new now pick horizon least work_spans) m from to j → pick.seat_of m ≡ (work_span_at work_spans j).«module».0
  seat m from to j low is =
      let k = (work_span_at work_spans j).«module».0 in
      let stands = sym (module_stands new now pick (level old) region.new_picking region.after k) ∙ entry_stands was now k from to (entry_of m from to j low is) in
      sym (ap (λ i. pick.seat_of i) (in_number new now pick horizon least work_spans m from to j is)) ∙ region.new_picking.seats k stands

  once : (m from to i j : ℕ) → to ≤ new.horizon → IsIn new (spans new now pick horizon least work_spans) m from to i → IsIn new (spans new now pick horizon least work_spans) m from to j → i ≡ j
  once m from to i j low one other =
      let same = sym (seat m from to j low other) ∙ seat m from to i low one in
      are.once (work_span_at work_spans i).«module».0 from to i j (low_there to low) (in_down new now pick horizon least work_spans m from to i one)
      (subst (λ k. IsIn now work_spans k from to j) same (in_down new now pick horizon least work_spans m from to j other))

pub regions_have_work_spans : RegionsHaveWorkSpans
regions_have_work_spans old new was now pick old_ok new_ok was_ok now_ok revised region least stays work_spans are = record {
  known = known old new was now pick old_ok new_ok was_ok now_ok revised region least stays work_spans are;
  only = only old new was now pick old_ok new_ok was_ok now_ok revised region least stays work_spans are;
  once = once old new was now pick old_ok new_ok was_ok now_ok revised region least stays work_spans are;
  begun = λ j within.
      let low = inside new now pick region.after.horizon least work_spans j within in
      subst (HasBegun new new.horizon) (sym (span_there new now pick region.after.horizon least work_spans j low))
      (begun_up new now pick region.after.horizon least work_spans (work_span_at work_spans j) (are.begun j low));
  ends = λ j within.
      let low = inside new now pick region.after.horizon least work_spans j within in
      subst (EndsWithWindow new) (sym (span_there new now pick region.after.horizon least work_spans j low))
      (ends_up new now pick region.after.horizon least work_spans (work_span_at work_spans j) (are.ends j low));
}
