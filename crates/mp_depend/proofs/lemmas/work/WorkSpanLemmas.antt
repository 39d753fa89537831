-- Where work spans have all work in them, their entries are the work.
use Rattle.std.proofs.Common.{◌≡◌, ℕ, ◌+◌, ◌<◌, ◌≤◌, List, [], ◌∷◌, length, All, zero, suc, refl, sym, subst, arith, inl, inr}
use Rattle.std.proofs.lemmas.List.Elements.{All-nil, All-cons}
use Rattle.mp_netlist.specs.Circuit.{Circuit, IsCircuit}
use Rattle.mp_netlist.specs.Limits.{checkpoint_units}
use Rattle.mp_depend.specs.declared.work.work_entry.WorkEntry.{WorkEntry}
use Rattle.mp_depend.specs.declared.work.work_span.WorkSpan.{WorkSpan}
use Rattle.mp_depend.specs.work.Work.{block_of, IsWindow, WorksFrom, IsEntry}
use Rattle.mp_depend.specs.work.Merges.{IsWorkSpan, first_entry, most_entries}
use Rattle.mp_depend.specs.work.WorkSpans.{work_span_at, IsPart, EndsWithWindow, AreWorkSpans, AreInOrder, WorkSpansAreWork, HasBegun}
use Rattle.mp_depend.proofs.lemmas.work.WindowLemmas.{window_within}
use Rattle.mp_depend.proofs.lemmas.work.EntryLemmas.{works_once}
use Rattle.mp_depend.proofs.lemmas.work.PartLemmas.{next_begins, IsTiled, IsOf, IsInSome}
use Rattle.mp_depend.proofs.lemmas.work.LeftLemmas.{IsLeftEntry, left_sound, left_complete}
use Rattle.mp_depend.proofs.lemmas.work.QueueLemmas.{IsAfter, IsSorted, all_after, IsBegun, AreOnce, AreQueues, left_ordered}

-- ---- by position

all_from : (P : WorkSpan → Type 0) (q : List WorkSpan) → ((k : ℕ) → k < length q → P (work_span_at q k)) → All P q
all_from P [] holds = All-nil P
all_from P (s ∷ q) holds = All-cons P s q (holds zero (omega arith)) (all_from P q (λ k within. holds (suc k) (omega (arith, within))))

some_from : (n : Circuit) (q : List WorkSpan) (m from to k : ℕ) → k < length q → IsOf n (work_span_at q k) m from to → IsInSome n q m from to
some_from n [] m from to k within is = absurd (omega (arith, within))
some_from n (s ∷ q) m from to zero within is = inl is
some_from n (s ∷ q) m from to (suc k) within is = inr (some_from n q m from to k (omega (arith, within)) is)

some_at : (n : Circuit) (q : List WorkSpan) (m from to : ℕ) → IsInSome n q m from to → (k : ℕ) × (k < length q) × IsOf n (work_span_at q k) m from to
some_at n [] m from to has = absurd has
some_at n (s ∷ q) m from to (inl here) = (zero, omega arith, here)
some_at n (s ∷ q) m from to (inr later) =
    let found = some_at n q m from to later in
    let within = found.1 in
    (suc found.0, omega (arith, within), found.2)

sorted_from : (q : List WorkSpan) → AreInOrder q → IsSorted q
sorted_from [] order = tt
sorted_from (s ∷ []) order = (All-nil (IsAfter (first_entry s)), tt)
sorted_from (s ∷ t ∷ q) order =
    let others = sorted_from (t ∷ q) (λ k within.
    let e : suc k + 1 ≡ suc (k + 1) = omega arith in
    subst (λ j. IsAfter (first_entry (work_span_at (t ∷ q) k)) (work_span_at (s ∷ t ∷ q) j)) e (order (suc k) (omega (arith, within)))) in
    (all_after (first_entry s) t q (order 0 (omega arith)) others.0, others)

-- two positions with entries of a module that end together are one
abbrev AreAlone : Circuit → List WorkSpan → Type 0
AreAlone n q = (k j m a c to : ℕ) → k < length q → j < length q → IsOf n (work_span_at q k) m a to → IsOf n (work_span_at q j) m c to → k ≡ j

once_from : (n : Circuit) (q : List WorkSpan) → AreAlone n q → AreOnce n q
once_from n [] alone = tt
once_from n (s ∷ q) alone = (first, once_from n q others)
  where
    first : (m a c to : ℕ) → IsOf n s m a to → IsInSome n q m c to → ⊥
    first m a c to here later =
        let found = some_at n q m c to later in
        let within = found.1 in
        let e = alone zero (suc found.0) m a c to (omega arith) (omega (arith, within)) here found.2 in
        omega (arith, e)

    others : AreAlone n q
    others k j m a c to one other is also =
        let e = alone (suc k) (suc j) m a c to (omega (arith, one)) (omega (arith, other)) is also in
        omega (arith, e)

-- ---- of all work

module _ (old new : Circuit) (ok : IsCircuit new) (work_spans : List WorkSpan) (are : AreWorkSpans old new work_spans) where
  window_by : (start to : ℕ) → IsWindow new start to → to ≤ new.horizon
  window_by start to window = let ends = window.ends in omega (arith, ends)

  ends_by : (m from to k : ℕ) → k < length work_spans → IsOf new (work_span_at work_spans k) m from to → to ≤ new.horizon
  ends_by m from to k within is = by is.1
    where
      by : IsPart new (work_span_at work_spans k) from to → to ≤ new.horizon
      by (inl first) = begun (are.begun k within)
        where
          begun : HasBegun new new.horizon (work_span_at work_spans k) → to ≤ new.horizon
          begun (inl low) = let e = first.1 in omega (arith, low, e)
          begun (inr now) = let end = now.2 in let e = first.1 in omega (arith, end, e)
      by (inr other) = window_by from to other.0

  entry_of : (m from to k : ℕ) → k < length work_spans → IsOf new (work_span_at work_spans k) m from to → IsEntry old new m from to
  entry_of m from to k within is = are.only m from to k (ends_by m from to k within is) (record { within = within; part = is.0; at = is.1 })

  tiled_at : (k : ℕ) → k < length work_spans → IsTiled new (work_span_at work_spans k)
  tiled_at k within = record { is = record { begins = begins entry.works; ends = ends (are.ends k within) }; first = next_begins new ok entry.start s.first_end entry.window; last = are.ends k within }
    where
      s : WorkSpan
      s = work_span_at work_spans k

      entry : IsEntry old new s.«module».0 s.from s.first_end
      entry = entry_of s.«module».0 s.from s.first_end k within (refl, inl (refl, refl))

      inside : (block_of new.horizon entry.start ≤ entry.start) × (entry.start < s.first_end) × (s.first_end ≤ block_of new.horizon entry.start + checkpoint_units new.horizon)
      inside = window_within new ok entry.start s.first_end entry.window

      begins : WorksFrom old new s.«module».0 entry.start s.from s.first_end → s.from < s.first_end
      begins (inl works) = let e = works.1 in let within = inside.1 in omega (arith, e, within)
      begins (inr joins) = let e = joins.2 in let block = inside.0 in let within = inside.1 in omega (arith, e, block, within)

      ends : EndsWithWindow new s → s.last_end ≤ new.horizon
      ends (inl same) = omega (arith, same)
      ends (inr found) = window_by found.0 s.last_end found.1

  alone : AreAlone new work_spans
  alone k j m a c to one other is also =
      let first = entry_of m a to k one is in
      let second = entry_of m c to j other also in
      let same : a ≡ c = (works_once old new ok m a to c to first second).1 refl in
      let moved : IsOf new (work_span_at work_spans j) m a to = subst (λ x. IsOf new (work_span_at work_spans j) m x to) (sym same) also in
      are.once m a to k j (ends_by m a to k one is) (record { within = one; part = is.0; at = is.1 }) (record { within = other; part = moved.0; at = moved.1 })

  entry_in : (m from to : ℕ) → IsEntry old new m from to → IsInSome new work_spans m from to
  entry_in m from to entry =
      let found = are.known m from to (window_by entry.start to entry.window) entry in
      some_from new work_spans m from to found.0 found.1.within (found.1.part, found.1.at)

  in_entry : (e : WorkEntry) → IsLeftEntry new [] work_spans e → IsEntry old new e.«module».0 e.from e.to
  in_entry e (inl none) = absurd none
  in_entry e (inr has) =
      let found = some_at new work_spans e.«module».0 e.from e.to has in
      entry_of e.«module».0 e.from e.to found.0 found.1 found.2

  tiled : All (IsTiled new) work_spans
  tiled = all_from (IsTiled new) work_spans tiled_at

  -- they are work spans, of which no two have the first entry of one module that ends at one time
  pub each_is : All (IsWorkSpan new.horizon) work_spans
  each_is = λ k d within. (tiled k d within).is

  pub first_once : (k j : ℕ) → k < length work_spans → j < length work_spans → (work_span_at work_spans j).«module».0 ≡ (work_span_at work_spans k).«module».0
      → (work_span_at work_spans k).first_end ≡ (work_span_at work_spans j).first_end → k ≡ j
  first_once k j one other same together =
      let s = work_span_at work_spans k in
      let t = work_span_at work_spans j in
      alone k j s.«module».0 s.from t.from s.first_end one other (refl, inl (refl, refl)) (same, inl (refl, together))

  abbrev no_entry : WorkEntry
  no_entry = record { «module» = record { 0 = 0 }; from = 0; to = 0 }

  queues : AreInOrder work_spans → AreQueues new no_entry [] work_spans
  queues order = record {
    begun = All-nil (IsBegun new no_entry);
    above = All-nil (IsAfter no_entry);
    waits = all_from (IsAfter no_entry) work_spans (λ k within. let begins = (tiled_at k within).is.begins in inl (omega (arith, begins)));
    sorted = tt;
    order = sorted_from work_spans order;
    apart = λ m a c to none has. none;
    once = once_from new work_spans alone;
  }

pub work_spans_are_work : WorkSpansAreWork
work_spans_are_work old new ok work_spans are order = record {
  entries = λ e. (
    λ has. in_entry old new ok work_spans are e (left_sound new ok most [] work_spans none all (omega arith) e has),
    λ entry. left_complete new ok most [] work_spans none all (omega arith) e (inr (entry_in old new ok work_spans are e.«module».0 e.from e.to entry)),
  );
  order = left_ordered new ok most [] work_spans none all (omega arith) (no_entry old new ok work_spans are) (queues old new ok work_spans are order);
}
  where
    most : ℕ
    most = most_entries (let l : List WorkSpan = [] in l) + most_entries work_spans

    none : All (IsTiled new) []
    none = All-nil (IsTiled new)

    all : All (IsTiled new) work_spans
    all = tiled old new ok work_spans are
