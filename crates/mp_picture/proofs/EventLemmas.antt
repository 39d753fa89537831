-- The events of a level over some units.
use Rattle.std.proofs.Common.{◌≡◌, ◌≢◌, ℕ, ◌+◌, ◌-◌, ◌<◌, ◌≤◌, Bool, true, false, cond, ◌==◌, zero, suc, refl, sym, ap, ◌∙◌, ◌⊎◌, inl, inr, zero-add, arith}
use Rattle.std.proofs.lemmas.Bool.{cases_lt, eqb-true, eqb-false}
use Rattle.std.proofs.lemmas.List.FromFn.{get_or-map-range_with_len}
use Rattle.std.specs.List.{count_by, range_with_len}
use Rattle.mp_modules.specs.Histories.{has_event}
use Rattle.mp_picture.specs.declared.cell.ColumnCell.{ColumnCell}
use Rattle.mp_picture.specs.declared.cell.ColumnEvents.TheVariants.{None, One, More}
use Rattle.mp_picture.specs.Columns.{count}
use Rattle.mp_picture.specs.Cells.{cell, cell_at, cells, event_count, events_of}
use Rattle.mp_picture.specs.CellLaws.{IsOnlyChange, opens, StaysWithout, ChangesAtOne, TellsEvents, TellsLevels}
use Rattle.mp_picture.proofs.CellLemmas.{no_event, an_event, first_counted}

module _ (f : ℕ → ℕ) where
  -- how many events there are in n units after a time
  abbrev counted : ℕ → ℕ → ℕ
  counted s n = count_by (has_event f) (range_with_len (s + 1) n)

  -- the next unit has an event or not
  next_by : (s n : ℕ) → ((f s ≡ f (s + 1)) × (counted s (suc n) ≡ counted (s + 1) n)) ⊎ ((f s ≢ f (s + 1)) × (counted s (suc n) ≡ 1 + counted (s + 1) n))
  next_by s n = by (f s == f (s + 1)) refl
    where
      by : (b : Bool) → (f s == f (s + 1)) ≡ b → ((f s ≡ f (s + 1)) × (counted s (suc n) ≡ counted (s + 1) n)) ⊎ ((f s ≢ f (s + 1)) × (counted s (suc n) ≡ 1 + counted (s + 1) n))
      by true test =
          let same : f s ≡ f (s + 1) = eqb-true (f s) (f (s + 1)) test in
          inl (same, first_counted f s n false (no_event f s same) ∙ zero-add (counted (s + 1) n))
      by false test =
          let other : f s ≢ f (s + 1) = eqb-false (f s) (f (s + 1)) test in
          inr (other, first_counted f s n true (an_event f s other))

  -- without events the level stays
  stays : (n s : ℕ) → counted s n ≡ 0 → (t : ℕ) → s ≤ t → t < s + 1 + n → f t ≡ f s
  stays zero s none t low high = let same : t ≡ s = omega arith in ap f same
  stays (suc n) s none t low high =
      elim (next_by s n) as (λ _. f t ≡ f s) [
        | inl quiet ↦
            elim (cases_lt s t) as (λ _. f t ≡ f s) [
              | inl later ↦ stays n (s + 1) (sym quiet.1 ∙ none) t (omega (arith, later)) (omega (arith, high)) ∙ sym quiet.0
              | inr here ↦ let same : t ≡ s = omega (arith, here, low) in ap f same
            ]
        | inr event ↦ absurd (omega (arith, event.1, none))
      ]

  -- with one event it changes once
  changes : (n s : ℕ) → counted s n ≡ 1 → (u : ℕ) × IsOnlyChange f (s + 1) (s + 1 + n) (f s) (f (s + n)) u
  changes zero s one = absurd (omega (arith, one))
  changes (suc n) s one =
      let last : s + 1 + n ≡ s + suc n = omega arith in
      let over : s + 1 + 1 + n ≡ s + 1 + suc n = omega arith in
      elim (next_by s n) as (λ _. (u : ℕ) × IsOnlyChange f (s + 1) (s + 1 + suc n) (f s) (f (s + suc n)) u) [
        | inl quiet ↦
            let later = changes n (s + 1) (sym quiet.1 ∙ one) in (
              later.0,
              record {
                from = omega (arith, later.1.from);
                within = omega (arith, later.1.within);
                before = λ t low high.
                    elim (cases_lt s t) as (λ _. f t ≡ f s) [
                      | inl after ↦ later.1.before t (omega (arith, after)) high ∙ sym quiet.0
                      | inr here ↦ let same : t ≡ s = omega (arith, here, low) in ap f same
                    ];
                since = λ t low high. later.1.since t low (omega (arith, high)) ∙ ap f last;
                differ = λ same. later.1.differ (sym quiet.0 ∙ same ∙ ap f (sym last));
              },
            )
        | inr event ↦
            let none : counted (s + 1) n ≡ 0 = omega (arith, event.1, one) in
            let end : f (s + suc n) ≡ f (s + 1) = ap f (sym last) ∙ stays n (s + 1) none (s + 1 + n) (omega arith) (omega arith) in (
              s + 1,
              record {
                from = omega arith;
                within = omega arith;
                before = λ t low high. let same : t ≡ s = omega (arith, low, high) in ap f same;
                since = λ t low high. stays n (s + 1) none t low (omega (arith, high)) ∙ sym end;
                differ = λ same. event.0 (same ∙ end);
              },
            )
      ]

  -- with events there is one
  finds : (n s : ℕ) → counted s n ≢ 0 → (t : ℕ) × (s + 1 ≤ t) × (t < s + 1 + n) × (f (t - 1) ≢ f t)
  finds zero s some = absurd (some refl)
  finds (suc n) s some =
      elim (next_by s n) as (λ _. (t : ℕ) × (s + 1 ≤ t) × (t < s + 1 + suc n) × (f (t - 1) ≢ f t)) [
        | inl quiet ↦
            let later = finds n (s + 1) (λ none. some (quiet.1 ∙ none)) in
            (later.0, omega (arith, later.1), omega (arith, later.2), later.3)
        | inr event ↦ let before : s + 1 - 1 ≡ s = omega arith in (s + 1, omega arith, omega arith, λ same. event.0 (ap f (sym before) ∙ same))
      ]

-- ---- none, one or more

no_count : (k : ℕ) → events_of k ≡ None → k ≡ 0
no_count k is = by (k == 0) (k == 1) refl is
  where
    by : (a b : Bool) → (k == 0) ≡ a → cond a None (cond b One More) ≡ None → k ≡ 0
    by true b test none = eqb-true k 0 test
    by false true test none = cc
    by false false test none = cc

one_count : (k : ℕ) → events_of k ≡ One → k ≡ 1
one_count k is = by (k == 0) (k == 1) refl is
  where
    by : (a b : Bool) → (k == 1) ≡ b → cond a None (cond b One More) ≡ One → k ≡ 1
    by true b test one = cc
    by false true test one = eqb-true k 1 test
    by false false test one = cc

none_of : (k : ℕ) → k ≡ 0 → events_of k ≡ None
none_of k none = ap events_of none

-- ---- cells

module _ (f : ℕ → ℕ) (first lo hi : ℕ) (within : first ≤ lo) (some : lo < hi) where
  -- the unit before the column, or the picture's first, and the units after it
  abbrev start : ℕ
  start = opens first lo - 1

  abbrev units : ℕ
  units = hi - opens first lo

  begins : start + 1 ≡ opens first lo
  begins = omega arith

  ends : start + 1 + units ≡ hi
  ends = omega arith

  count_is : event_count f (opens first lo) hi ≡ counted f start units
  count_is = ap (λ a. count_by (has_event f) (range_with_len a units)) (sym begins)

  stays_in : (cell f first lo hi).events ≡ None → (t : ℕ) → start ≤ t → t < hi → f t ≡ f start
  stays_in none t low high = stays f units start (sym count_is ∙ no_count (event_count f (opens first lo) hi) none) t low (omega (arith, high, ends))

  -- a column without an event has the level of the unit before it, or of the picture's first
  pub cell_keeps : (cell f first lo hi).events ≡ None → f (hi - 1) ≡ f (opens first lo - 1)
  cell_keeps none = stays_in none (hi - 1) (omega (arith, within, some)) (omega (arith, some))

  cell_stays : (cell f first lo hi).events ≡ None → (t : ℕ) → lo ≤ t → t < hi → f t ≡ f (hi - 1)
  cell_stays none t low high = stays_in none t (omega (arith, low, within)) high ∙ sym (cell_keeps none)

  cell_changes : (cell f first lo hi).events ≡ One → (time : ℕ) × IsOnlyChange f (opens first lo) hi (f start) (f (hi - 1)) time
  cell_changes one =
      let found = changes f units start (sym count_is ∙ one_count (event_count f (opens first lo) hi) one) in
      let last : start + units ≡ hi - 1 = omega (arith, ends) in (
        found.0,
        record {
          from = omega (arith, found.1.from, begins);
          within = omega (arith, found.1.within, ends);
          before = λ t low high. found.1.before t (omega (arith, low, begins)) high;
          since = λ t low high. found.1.since t low (omega (arith, high, ends)) ∙ ap f last;
          differ = λ same. found.1.differ (same ∙ ap f (sym last));
        },
      )

  cell_has : (cell f first lo hi).events ≢ None → (t : ℕ) × (opens first lo ≤ t) × (t < hi) × (f (t - 1) ≢ f t)
  cell_has event =
      let found = finds f units start (λ none. event (none_of (event_count f (opens first lo) hi) (count_is ∙ none))) in
      (found.0, omega (arith, found.1, begins), omega (arith, found.2, ends), found.3)

  cell_has_not : (t : ℕ) → opens first lo ≤ t → t < hi → f (t - 1) ≢ f t → (cell f first lo hi).events ≢ None
  cell_has_not t low high differ none = differ (stays_in none (t - 1) (omega (arith, low)) (omega (arith, high)) ∙ sym (stays_in none t (omega (arith, low)) high))

pub stays_without : StaysWithout
stays_without f first lo hi t within low high none = cell_stays f first lo hi within (omega (arith, low, high)) none t low high

pub changes_at_one : ChangesAtOne
changes_at_one f first lo hi within some one = cell_changes f first lo hi within some one

pub tells_events : TellsEvents
tells_events f first lo hi within some = (cell_has f first lo hi within some, λ found. cell_has_not f first lo hi within some found.0 found.1 found.2 found.3)

pub tells_levels : TellsLevels
unfolding cells
tells_levels f c j d below = ap (λ (x : ColumnCell). x.level) (get_or-map-range_with_len (cell_at f c) 0 (count c) j j d below (zero-add j))
