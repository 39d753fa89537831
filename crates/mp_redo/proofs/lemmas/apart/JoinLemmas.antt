-- The work spans of the parts of a netlist are, one part after the other, those of the netlist.
use Rattle.std.proofs.Common.{◌≡◌, ◌↔◌, ℕ, ◌+◌, ◌-◌, ◌<◌, ◌≤◌, List, ◌++◌, length, refl, sym, subst, ◌∙◌, arith, inl, inr}
use Rattle.std.proofs.lemmas.Bool.{cases_eq, cases_lt}
use Rattle.std.proofs.lemmas.List.{length-append, get_or_append_left, get_or-append-add, get_or-append_right}
use Rattle.mp_netlist.specs.Circuit.{Circuit}
use Rattle.mp_partition.specs.regions.Regions.{partition_of}
use Rattle.mp_depend.specs.declared.work.work_span.WorkSpan.{WorkSpan}
use Rattle.mp_depend.specs.work.Work.{IsEntry}
use Rattle.mp_depend.specs.work.WorkSpans.{no_work_span, work_span_at, IsPart, IsIn, EndsWithWindow, HasBegun, AreWorkSpans}
use Rattle.mp_redo.specs.apart.Parts.{part_of}
use Rattle.mp_redo.specs.apart.PartWork.{HasWindows}
use Rattle.mp_redo.specs.apart.PartWorkSpans.{AreWorkSpansBelow, NoneAreBelow, WorkSpansJoin, AllAreWorkSpans}
use Rattle.mp_redo.proofs.lemmas.apart.PartWorkLemmas.{parts_have_windows, parts_have_work, others_dont_work}

-- ---- in two lists

work_span_left : (xs ys : List WorkSpan) (j : ℕ) → j < length xs → work_span_at (xs ++ ys) j ≡ work_span_at xs j
work_span_left xs ys j within = get_or_append_left xs ys no_work_span j within

work_span_right : (xs ys : List WorkSpan) (j : ℕ) → length xs ≤ j → work_span_at (xs ++ ys) j ≡ work_span_at ys (j - length xs)
work_span_right xs ys j past = get_or-append_right xs ys (length xs) j no_work_span refl past

moved : (n : Circuit) (xs ys : List WorkSpan) (m from to i j : ℕ) → j < length ys → work_span_at xs i ≡ work_span_at ys j → IsIn n xs m from to i → IsIn n ys m from to j
moved n xs ys m from to i j within same is = record {
  within = within;
  part = subst (λ (s : WorkSpan). s.«module».0 ≡ m) same is.part;
  at = subst (λ (s : WorkSpan). IsPart n s from to) same is.at;
}

in_left : (n : Circuit) (xs ys : List WorkSpan) (m from to j : ℕ) → IsIn n xs m from to j → IsIn n (xs ++ ys) m from to j
in_left n xs ys m from to j is =
    let within = is.within in
    let count = length-append xs ys in
    moved n xs (xs ++ ys) m from to j j (omega (arith, within, count)) (sym (work_span_left xs ys j within)) is

in_right : (n : Circuit) (xs ys : List WorkSpan) (m from to j : ℕ) → IsIn n ys m from to j → IsIn n (xs ++ ys) m from to (length xs + j)
in_right n xs ys m from to j is =
    let within = is.within in
    let count = length-append xs ys in
    moved n ys (xs ++ ys) m from to j (length xs + j) (omega (arith, within, count)) (sym (get_or-append-add xs ys j no_work_span)) is

from_left : (n : Circuit) (xs ys : List WorkSpan) (m from to j : ℕ) → j < length xs → IsIn n (xs ++ ys) m from to j → IsIn n xs m from to j
from_left n xs ys m from to j before is = moved n (xs ++ ys) xs m from to j j before (work_span_left xs ys j before) is

from_right : (n : Circuit) (xs ys : List WorkSpan) (m from to j : ℕ) → length xs ≤ j → IsIn n (xs ++ ys) m from to j → IsIn n ys m from to (j - length xs)
from_right n xs ys m from to j past is =
    let within = is.within in
    let count = length-append xs ys in
    moved n (xs ++ ys) ys m from to j (j - length xs) (omega (arith, past, within, count)) (work_span_right xs ys j past) is

-- what holds of each work span of two lists holds of both lists
each_of : (P : WorkSpan → Type 0) (xs ys : List WorkSpan) → ((j : ℕ) → j < length xs → P (work_span_at xs j)) → ((j : ℕ) → j < length ys → P (work_span_at ys j))
    → (j : ℕ) → j < length (xs ++ ys) → P (work_span_at (xs ++ ys) j)
each_of P xs ys left right j within = elim (cases_lt j (length xs)) as (λ _. P (work_span_at (xs ++ ys) j)) [
  | inl before ↦ subst P (sym (work_span_left xs ys j before)) (left j before)
  | inr past ↦ subst P (sym (work_span_right xs ys j past)) (right (j - length xs) (let count = length-append xs ys in omega (arith, past, within, count)))
]

-- ---- in two netlists with the same windows

module _ (n other : Circuit) (has : HasWindows n other) where
  part_there : (s : WorkSpan) (from to : ℕ) → IsPart other s from to → IsPart n s from to
  part_there s from to (inl first) = inl first
  part_there s from to (inr later) = inr ((has.windows from to).0 later.0, later.1, later.2)

  part_here : (s : WorkSpan) (from to : ℕ) → IsPart n s from to → IsPart other s from to
  part_here s from to (inl first) = inl first
  part_here s from to (inr later) = inr ((has.windows from to).1 later.0, later.1, later.2)

  in_there : (xs : List WorkSpan) (m from to j : ℕ) → IsIn other xs m from to j → IsIn n xs m from to j
  in_there xs m from to j is = record { within = is.within; part = is.part; at = part_there (work_span_at xs j) from to is.at }

  in_here : (xs : List WorkSpan) (m from to j : ℕ) → IsIn n xs m from to j → IsIn other xs m from to j
  in_here xs m from to j is = record { within = is.within; part = is.part; at = part_here (work_span_at xs j) from to is.at }

  begun_there : (end : ℕ) (s : WorkSpan) → HasBegun other end s → HasBegun n end s
  begun_there end s (inl low) = inl low
  begun_there end s (inr first) = inr (first.0, first.1, first.2 ∙ has.ends 0)

  ends_there : (s : WorkSpan) → EndsWithWindow other s → EndsWithWindow n s
  ends_there s (inl last) = inl (last ∙ has.horizon)
  ends_there s (inr found) = inr (found.0, (has.windows found.0 s.last_end).0 found.1)

first_low : (n : Circuit) (s : WorkSpan) → HasBegun n n.horizon s → s.first_end ≤ n.horizon
first_low n s (inl low) = low
first_low n s (inr first) = let end = first.2 in omega (arith, end)

entry_low : (old new : Circuit) (m from to : ℕ) → IsEntry old new m from to → to ≤ new.horizon
entry_low old new m from to entry = let end = entry.window.ends in omega (arith, end)

-- ---- one part more

module _ (old new : Circuit) (homes : List ℕ) (k : ℕ) (below work_spans : List WorkSpan) (has : HasWindows new (part_of new homes k))
    (works : (m from to : ℕ) → partition_of homes m ≡ k → IsEntry (part_of old homes k) (part_of new homes k) m from to ↔ IsEntry old new m from to)
    (rests : (m from to : ℕ) → (partition_of homes m ≡ k → ⊥) → IsEntry (part_of old homes k) (part_of new homes k) m from to → ⊥)
    (before : AreWorkSpansBelow old new homes k below) (are : AreWorkSpans (part_of old homes k) (part_of new homes k) work_spans) where
  home_by : (m from to : ℕ) → IsEntry (part_of old homes k) (part_of new homes k) m from to → partition_of homes m ≡ k
  home_by m from to entry = elim (cases_eq (partition_of homes m) k) as (λ _. partition_of homes m ≡ k) [
    | inl same ↦ same
    | inr other ↦ absurd (rests m from to other entry)
  ]

  entry_by : (m from to j : ℕ) → to ≤ new.horizon → IsIn new work_spans m from to j → IsEntry (part_of old homes k) (part_of new homes k) m from to
  entry_by m from to j low is = are.only m from to j low (in_here new (part_of new homes k) has work_spans m from to j is)

  begun_by : (j : ℕ) → j < length work_spans → HasBegun new new.horizon (work_span_at work_spans j)
  begun_by j within = begun_there new (part_of new homes k) has new.horizon (work_span_at work_spans j) (are.begun j within)

  home_at : (j : ℕ) → j < length work_spans → partition_of homes (work_span_at work_spans j).«module».0 ≡ k
  home_at j within =
      let s = work_span_at work_spans j in
      home_by s.«module».0 s.from s.first_end
      (entry_by s.«module».0 s.from s.first_end j (first_low new s (begun_by j within)) (record { within = within; part = refl; at = inl (refl, refl) }))

  known : (m from to : ℕ) → partition_of homes m < k + 1 → IsEntry old new m from to → (j : ℕ) × IsIn new (below ++ work_spans) m from to j
  known m from to home entry = elim (cases_eq (partition_of homes m) k) as (λ _. (j : ℕ) × IsIn new (below ++ work_spans) m from to j) [
    | inl same ↦
        let found = are.known m from to (entry_low old new m from to entry) ((works m from to same).1 entry) in
        (length below + found.0, in_right new below work_spans m from to found.0 (in_there new (part_of new homes k) has work_spans m from to found.0 found.1))
    | inr other ↦
        let found = before.known m from to (omega (arith, home, other)) entry in
        (found.0, in_left new below work_spans m from to found.0 found.1)
  ]

  only : (m from to j : ℕ) → to ≤ new.horizon → IsIn new (below ++ work_spans) m from to j → IsEntry old new m from to
  only m from to j low is = elim (cases_lt j (length below)) as (λ _. IsEntry old new m from to) [
    | inl first ↦ before.only m from to j low (from_left new below work_spans m from to j first is)
    | inr past ↦
        let entry = entry_by m from to (j - length below) low (from_right new below work_spans m from to j past is) in
        (works m from to (home_by m from to entry)).0 entry
  ]

  -- a module isn't at home in this part and in one below it
  apart : (m from to i j : ℕ) → to ≤ new.horizon → i < length below → length below ≤ j → IsIn new (below ++ work_spans) m from to i → IsIn new (below ++ work_spans) m from to j → ⊥
  apart m from to i j low first past is also =
      let left = from_left new below work_spans m from to i first is in
      let less = subst (λ q. partition_of homes q < k) left.part (before.at_home i first) in
      let same = home_by m from to (entry_by m from to (j - length below) low (from_right new below work_spans m from to j past also)) in
      omega (arith, less, same)

  once : (m from to i j : ℕ) → to ≤ new.horizon → IsIn new (below ++ work_spans) m from to i → IsIn new (below ++ work_spans) m from to j → i ≡ j
  once m from to i j low is also = elim (cases_lt i (length below)) as (λ _. i ≡ j) [
    | inl left ↦ elim (cases_lt j (length below)) as (λ _. i ≡ j) [
      | inl first ↦ before.once m from to i j low (from_left new below work_spans m from to i left is) (from_left new below work_spans m from to j first also)
      | inr past ↦ absurd (apart m from to i j low left past is also)
    ]
    | inr right ↦ elim (cases_lt j (length below)) as (λ _. i ≡ j) [
      | inl first ↦ absurd (apart m from to j i low first right also is)
      | inr past ↦
          let same = are.once m from to (i - length below) (j - length below) low
          (in_here new (part_of new homes k) has work_spans m from to (i - length below) (from_right new below work_spans m from to i right is))
          (in_here new (part_of new homes k) has work_spans m from to (j - length below) (from_right new below work_spans m from to j past also)) in
          omega (arith, same, right, past)
    ]
  ]

  pub joined : AreWorkSpansBelow old new homes (k + 1) (below ++ work_spans)
  joined = record {
    at_home = each_of (λ (s : WorkSpan). partition_of homes s.«module».0 < k + 1) below work_spans
        (λ j within. let less = before.at_home j within in omega (arith, less))
        (λ j within. let same = home_at j within in omega (arith, same));
    known = known;
    only = only;
    once = once;
    begun = each_of (HasBegun new new.horizon) below work_spans before.begun begun_by;
    ends = each_of (EndsWithWindow new) below work_spans before.ends (λ j within. ends_there new (part_of new homes k) has (work_span_at work_spans j) (are.ends j within));
  }

pub none_are_below : NoneAreBelow
none_are_below old new homes = record {
  at_home = λ j within. absurd (let no : ⊥ = omega (arith, within) in no);
  known = λ m from to home entry. absurd (let no : ⊥ = omega (arith, home) in no);
  only = λ m from to j low is. absurd (let within = is.within in let no : ⊥ = omega (arith, within) in no);
  once = λ m from to i j low is also. absurd (let within = is.within in let no : ⊥ = omega (arith, within) in no);
  begun = λ j within. absurd (let no : ⊥ = omega (arith, within) in no);
  ends = λ j within. absurd (let no : ⊥ = omega (arith, within) in no);
}

pub work_spans_join : WorkSpansJoin
work_spans_join old new old_ok new_ok revised homes old_apart new_apart k below work_spans least before are =
    joined old new homes k below work_spans (parts_have_windows new homes k least)
    (λ m from to home. parts_have_work old new old_ok new_ok revised homes old_apart new_apart k m from to least home)
    (λ m from to other entry. others_dont_work old new homes k m from to other entry) before are

pub all_are_work_spans : AllAreWorkSpans
all_are_work_spans old new homes parts work_spans few below = record {
  known = λ m from to low entry. below.known m from to (few m) entry;
  only = below.only;
  once = below.once;
  begun = below.begun;
  ends = below.ends;
}
