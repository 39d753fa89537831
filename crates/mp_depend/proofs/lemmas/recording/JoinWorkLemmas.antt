-- Modules join: with their work spans, work spans have all work up to the window's end.
use Rattle.std.proofs.Common.{◌≡◌, ℕ, ◌<◌, ◌≤◌, Bool, true, false, List, Option, Some, IsSome, length, refl, ap, sym, subst, ◌∙◌, arith, inl, inr}
use Rattle.std.specs.List.{Contains}
use Rattle.std.proofs.lemmas.Bool.{cases_Bool, cases_lt, false_from_ne_true}
use Rattle.std.proofs.lemmas.Option.{same_Some}
use Rattle.mp_records.specs.declared.ids.ModuleId.{ModuleId}
use Rattle.mp_netlist.specs.Circuit.{Circuit, IsCircuit, module_at}
use Rattle.mp_depend.specs.declared.work.work_span.WorkSpan.{WorkSpan}
use Rattle.mp_depend.specs.recording.Opened.{HasNoWorkSpan, work_span_from, HaveOpened}
use Rattle.mp_depend.specs.recording.Live.{place_at, IsWorking, AreOpen, JoinInWindow}
use Rattle.mp_depend.specs.work.WorkSpans.{work_span_at, IsPart, IsIn, EndsWithWindow, HasBegun, AreWorkSpansTo}
use Rattle.mp_depend.specs.work.Work.{block_of, window_end, IsWindow, IsApartIn, IsAtWork, WorksFrom, IsEntry}
use Rattle.mp_depend.proofs.lemmas.work.EntryLemmas.{ends_before, begins_with}
use Rattle.mp_depend.proofs.lemmas.recording.JoinLemmas.{dark_before, kept_place, new_place, open_after}
use Rattle.mp_depend.proofs.lemmas.work.StayLemmas.{some_is}
use Rattle.mp_depend.proofs.lemmas.work.WindowLemmas.{window_within}

-- what is at work stands
working_stands : (old new : Circuit) (c m t : ℕ) → IsWorking old new c m t → IsSome (module_at new m)
working_stands old new c m t (inl touched) = touched.stands
working_stands old new c m t (inr (inl differs)) = some_is (module_at new m) differs.part differs.kept.after
working_stands old new c m t (inr (inr found)) = found.3.after

module _ (old new : Circuit) (from to block : ℕ) (joined : List ModuleId) (live now : ℕ → Bool) (places after : List (Option ℕ)) (work_spans opened : List WorkSpan)
    (joins : JoinInWindow old new block from to joined live now) (goes : AreOpen new from live places work_spans) (are : AreWorkSpansTo old new from work_spans)
    (rel : HaveOpened new block to now places after work_spans opened) (done : (m : ℕ) → Contains joined (record { 0 = m }) → HasNoWorkSpan new now after m → ⊥) where
  ok : IsCircuit new
  ok = joins.form

  window : IsWindow new from to
  window = joins.window

  same : block ≡ block_of new.horizon from
  same = joins.block

  less : from < to
  less = (window_within new ok from to window).1

  -- ---- who is at work

  was_at_work : (m : ℕ) → IsSome (module_at new m) → live m ≡ true → IsAtWork old new m from
  was_at_work m stands on = subst (λ c. IsWorking old new c m from) same (joins.before.works m stands on)

  was_idle : (m : ℕ) → IsSome (module_at new m) → live m ≡ false → IsAtWork old new m from → ⊥
  was_idle m stands off work = joins.before.rests m stands off (subst (λ c. IsWorking old new c m from) (sym same) work)

  was_live : (m : ℕ) → IsSome (module_at new m) → IsAtWork old new m from → live m ≡ true
  was_live m stands work = elim (cases_Bool (live m)) as (λ _. live m ≡ true) [
    | inl on ↦ on
    | inr off ↦ absurd (was_idle m stands off work)
  ]

  now_at_work : (m : ℕ) → IsSome (module_at new m) → now m ≡ true → IsWorking old new (block_of new.horizon from) m to
  now_at_work m stands on = subst (λ c. IsWorking old new c m to) same (joins.after.works m stands on)

  now_live : (m : ℕ) → IsSome (module_at new m) → IsWorking old new (block_of new.horizon from) m to → now m ≡ true
  now_live m stands work = elim (cases_Bool (now m)) as (λ _. now m ≡ true) [
    | inl on ↦ on
    | inr off ↦ absurd (joins.after.rests m stands off (subst (λ c. IsWorking old new c m to) (sym same) work))
  ]

  first_apart : (m : ℕ) → (IsAtWork old new m from → ⊥) → IsWorking old new (block_of new.horizon from) m to → IsApartIn old new m from to
  first_apart m idle (inl touched) = absurd (idle (inl touched))
  first_apart m idle (inr (inl differs)) = absurd (idle (inr (inl differs)))
  first_apart m idle (inr (inr found)) = elim (cases_lt found.0 from) as (λ _. IsApartIn old new m from to) [
    | inl early ↦ absurd (idle (inr (inr (found.0, found.1, early, found.3))))
    | inr late ↦ (found.0, late, found.2, found.3)
  ]

  -- ---- a window that ends in this one is this one

  last_window : (start end : ℕ) → IsWindow new start end → from < end → end ≤ to → (start ≡ from) × (end ≡ to)
  last_window start end other late low = (begins_with new ok start end from to other window one, one)
    where
      one : end ≡ to
      one = elim (cases_lt end to) as (λ _. end ≡ to) [
        | inl sooner ↦ let over = ends_before new ok start end from to other window sooner in absurd (omega (arith, over, late))
        | inr past ↦ omega (arith, past, low)
      ]

  -- what an old work span has in this window is the whole window, and it goes on behind the window's begin
  old_late : (k a b : ℕ) → k < length work_spans → from < b → b ≤ to → IsPart new (work_span_at work_spans k) a b → (a ≡ from) × (b ≡ to) × (from < (work_span_at work_spans k).last_end)
  old_late k a b within late low (inr later) =
      let ends = last_window a b later.0 late low in
      let high = later.2 in
      (ends.0, ends.1, omega (arith, high, late))
  old_late k a b within late low (inl first) = begun (are.begun k within)
    where
      s : WorkSpan
      s = work_span_at work_spans k

      goes_on : from ≡ 0 → EndsWithWindow new s → from < s.last_end
      goes_on zero (inl last) = let below = window.below in omega (arith, last, below)
      goes_on zero (inr found) = let some = (window_within new ok found.0 s.last_end found.1).1 in omega (arith, some, zero)

      begun : HasBegun new from s → (a ≡ from) × (b ≡ to) × (from < s.last_end)
      begun (inl early) = let end = first.1 in absurd (omega (arith, end, early, late))
      begun (inr zero) = (first.0 ∙ zero.1 ∙ sym zero.0, first.1 ∙ zero.2 ∙ ap (window_end new) (sym zero.0) ∙ sym window.ends, goes_on zero.0 (are.ends k within))

  -- ---- old work spans are among all

  in_old : (m a b k : ℕ) → IsIn new work_spans m a b k → IsIn new opened m a b k
  in_old m a b k is =
      let within = is.within in
      let more = rel.more in
      record {
        within = omega (arith, within, more);
        part = ap (λ (s : WorkSpan). s.«module».0) (rel.olds k is.within) ∙ is.part;
        at = subst (λ (s : WorkSpan). IsPart new s a b) (sym (rel.olds k is.within)) is.at;
      }

  out_old : (m a b k : ℕ) → k < length work_spans → IsIn new opened m a b k → IsIn new work_spans m a b k
  out_old m a b k within is = record {
    within = within;
    part = ap (λ (s : WorkSpan). s.«module».0) (sym (rel.olds k within)) ∙ is.part;
    at = subst (λ (s : WorkSpan). IsPart new s a b) (rel.olds k within) is.at;
  }

  -- what a new work span has up to this window's end is its first entry
  new_first : (m a b : ℕ) → b ≤ to → IsPart new (work_span_from new m block to) a b → (a ≡ block) × (b ≡ to)
  new_first m a b low (inl first) = first
  new_first m a b low (inr later) =
      let some = (window_within new ok a b later.0).1 in
      let high = later.1 in
      absurd (omega (arith, some, high, low))

  -- a new work span of the module
  new_is : (m a b k : ℕ) → length work_spans ≤ k → b ≤ to → IsIn new opened m a b k → HasNoWorkSpan new now places m × (place_at after m ≡ Some k) × (a ≡ block) × (b ≡ to)
  new_is m a b k high low is =
      let found = rel.news k high is.within in
      let one : found.0 ≡ m = sym (ap (λ (s : WorkSpan). s.«module».0) found.1.is) ∙ is.part in
      let first = new_first found.0 a b low (subst (λ (s : WorkSpan). IsPart new s a b) found.1.is is.at) in
      (subst (HasNoWorkSpan new now places) one found.1.joins, subst (λ j. place_at after j ≡ Some k) one found.1.place, first.0, first.1)

  -- ---- work is in a work span

  on_part : (s : WorkSpan) → HasBegun new from s → s.last_end ≡ new.horizon → IsPart new s from to
  on_part s (inl low) on = let ends = window.ends in inr (window, low, omega (arith, ends, on))
  on_part s (inr first) on = inl (first.0 ∙ sym first.1, window.ends ∙ ap (window_end new) first.0 ∙ sym first.2)

  here : (m a : ℕ) → WorksFrom old new m from a to → (k : ℕ) × IsIn new opened m a to k
  here m a (inl works) =
      let stands = working_stands old new (block_of new.horizon from) m from works.0 in
      let found = goes.opened m stands (was_live m stands works.0) in
      let s = work_span_at work_spans found.0 in
      let has = found.2 in
      let part : IsPart new s a to = subst (λ x. IsPart new s x to) (sym works.1) (on_part s (are.begun found.0 has.within) has.on) in
      (found.0, in_old m a to found.0 (record { within = has.within; part = has.own; at = part }))
  here m a (inr begun) =
      let apart = begun.1 in
      let stands = apart.3.after in
      let off : live m ≡ false = false_from_ne_true (live m) (λ on. begun.0 (was_at_work m stands on)) in
      let begins = apart.1 in
      let on = now_live m stands (inr (inr (apart.0, omega (arith, begins), apart.2, apart.3))) in
      let found = new_place new from to block joined live now places after work_spans opened joins.become goes rel done m stands on off in
      let is = found.1.is in
      let part : IsPart new (work_span_from new m block to) a to = inl (begun.2 ∙ sym same, refl) in
      (found.0, record { within = found.1.within; part = ap (λ (s : WorkSpan). s.«module».0) is; at = subst (λ (s : WorkSpan). IsPart new s a to) (sym is) part })

  known : (m a b : ℕ) → b ≤ to → IsEntry old new m a b → (k : ℕ) × IsIn new opened m a b k
  known m a b low entry = elim (cases_lt from b) as (λ _. (k : ℕ) × IsIn new opened m a b k) [
    | inr early ↦
        let found = are.known m a b early entry in
        (found.0, in_old m a b found.0 found.1)
    | inl late ↦
        let ends = last_window entry.start b entry.window late low in
        let works : WorksFrom old new m from a b = subst (λ s. WorksFrom old new m s a b) ends.0 entry.works in
        subst (λ e. (k : ℕ) × IsIn new opened m a e k) (sym ends.1) (here m a (subst (λ e. WorksFrom old new m from a e) ends.1 works))
  ]

  -- ---- what is in a work span is work

  entry_here : (m a b : ℕ) → b ≡ to → WorksFrom old new m from a to → IsEntry old new m a b
  entry_here m a b end works = subst (IsEntry old new m a) (sym end) (record { start = from; window = window; works = works })

  only : (m a b k : ℕ) → b ≤ to → IsIn new opened m a b k → IsEntry old new m a b
  only m a b k low is = elim (cases_lt k (length work_spans)) as (λ _. IsEntry old new m a b) [
    | inl within ↦ elim (cases_lt from b) as (λ _. IsEntry old new m a b) [
      | inr early ↦ are.only m a b k early (out_old m a b k within is)
      | inl late ↦
          let was = out_old m a b k within is in
          let ends = old_late k a b within late low was.at in
          let over = goes.over k within ends.2 in
          let work = was_at_work (work_span_at work_spans k).«module».0 over.2 over.0 in
          entry_here m a b ends.1 (inl (subst (λ j. IsAtWork old new j from) was.part work, ends.0))
    ]
    | inr high ↦
        let found = new_is m a b k high low is in
        let one = found.0 in
        let idle = was_idle m one.stands (dark_before new from joined live now places work_spans joins.become goes m one.stands one.none) in
        entry_here m a b found.3 (inr (idle, first_apart m idle (now_at_work m one.stands one.on), found.2 ∙ same))
  ]

  -- ---- in just one

  place_now : (m a b k : ℕ) → from < b → b ≤ to → IsIn new opened m a b k → place_at after m ≡ Some k
  place_now m a b k late low is = elim (cases_lt k (length work_spans)) as (λ _. place_at after m ≡ Some k) [
    | inl within ↦
        let was = out_old m a b k within is in
        let ends = old_late k a b within late low was.at in
        let over = goes.over k within ends.2 in
        let j = (work_span_at work_spans k).«module».0 in
        subst (λ i. place_at after i ≡ Some k) was.part (kept_place new from to block joined live now places after work_spans opened joins.become goes rel done j over.2 over.0 ∙ over.1)
    | inr high ↦ (new_is m a b k high low is).1
  ]

  early_old : (m a b k : ℕ) → b ≤ from → IsIn new opened m a b k → k < length work_spans
  early_old m a b k early is = elim (cases_lt k (length work_spans)) as (λ _. k < length work_spans) [
    | inl within ↦ within
    | inr high ↦
        let some = less in
        let end = (new_is m a b k high (omega (arith, early, some)) is).3 in
        absurd (omega (arith, end, early, some))
  ]

  once : (m a b k j : ℕ) → b ≤ to → IsIn new opened m a b k → IsIn new opened m a b j → k ≡ j
  once m a b k j low is also = elim (cases_lt from b) as (λ _. k ≡ j) [
    | inl late ↦ same_Some k j (sym (place_now m a b k late low is) ∙ place_now m a b j late low also)
    | inr early ↦ are.once m a b k j early (out_old m a b k (early_old m a b k early is) is) (out_old m a b j (early_old m a b j early also) also)
  ]

  -- ---- where they begin and end

  begun_later : (s : WorkSpan) → HasBegun new from s → HasBegun new to s
  begun_later s (inl low) = let some = less in inl (omega (arith, low, some))
  begun_later s (inr first) = let end = first.2 ∙ ap (window_end new) (sym first.0) ∙ sym window.ends in inl (omega (arith, end))

  begun : (k : ℕ) → k < length opened → HasBegun new to (work_span_at opened k)
  begun k within = elim (cases_lt k (length work_spans)) as (λ _. HasBegun new to (work_span_at opened k)) [
    | inl low ↦ subst (HasBegun new to) (sym (rel.olds k low)) (begun_later (work_span_at work_spans k) (are.begun k low))
    | inr high ↦ subst (HasBegun new to) (sym (rel.news k high within).1.is) (inl (omega arith))
  ]

  ends : (k : ℕ) → k < length opened → EndsWithWindow new (work_span_at opened k)
  ends k within = elim (cases_lt k (length work_spans)) as (λ _. EndsWithWindow new (work_span_at opened k)) [
    | inl low ↦ subst (EndsWithWindow new) (sym (rel.olds k low)) (are.ends k low)
    | inr high ↦ subst (EndsWithWindow new) (sym (rel.news k high within).1.is) (inl refl)
  ]

  pub joined_work_spans : AreWorkSpansTo old new to opened × AreOpen new to now after opened
  joined_work_spans = (
    record { known = known; only = only; once = once; begun = begun; ends = ends },
    open_after new from to block joined live now places after work_spans opened joins.become goes rel done less,
  )
