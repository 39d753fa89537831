-- Lemmas on a wire from a time on.
use Rattle.mp_report.proofs.Names.{◌≡◌, ◌+◌, ◌-◌, ◌<◌, ◌≤◌, ◌==◌, ◌∷◌, ℕ, true, false, List, [], refl, ap, arith, Some, None, slice_get, cases_eq, ne_eqb, nat_tests, changes_in, AreChanges, last_time, has_event, IsAhead, Ahead}
use Rattle.mp_wave.proofs.WaveformLemmas.{level_from-before, level_from-first, le-last_time}

-- the level is the one before the time
pub level_before : (f : ℕ → ℕ) (end time : ℕ) (a : Ahead) → IsAhead f end time a → time ≤ end → a.level ≡ f (time - 1)
level_before f end time a is le = grind (arith, nat_tests, level_from-before)

-- a list that has a first element
pub first_is : (xs : List (ℕ × ℕ)) (x : ℕ × ℕ) → slice_get xs 0 ≡ Some x → (rest : List (ℕ × ℕ)) × (xs ≡ x ∷ rest)
first_is [] x is = let no : ⊥ = cc in absurd no
first_is (y ∷ ys) x is = let same : y ≡ x = cc in (ys, ap (λ (z : ℕ × ℕ). z ∷ ys) same)

-- and one that has none
pub no_first : (xs : List (ℕ × ℕ)) → slice_get xs 0 ≡ None → xs ≡ []
no_first [] none = refl
no_first (x ∷ xs) none = grind (arith, nat_tests)

-- where it has changes
module _ (f : ℕ → ℕ) (end time : ℕ) (a : Ahead) (change : ℕ × ℕ) (later : List (ℕ × ℕ)) (is : IsAhead f end time a) (head : (changes_in a.changes) ≡ change ∷ later) where
  form : AreChanges (time - 1) a.level (change ∷ later)
  form = rw head at is.form

  last : last_time change.0 later < end
  last = rw head at is.within

  -- no change comes before the time that is reached
  pub first_late : time ≤ change.0
  first_late = omega (arith, form.0, is.some)

  -- before the first change the level stays
  held : (u : ℕ) → time ≤ u + 1 → u < change.0 → u < end → f u ≡ a.level
  held u low sooner high = grind (arith, head, (is.levels u low high), (level_from-before u a.level u (change ∷ later) (sooner, form.1, form.2) (omega arith)))

  -- the first change is an event
  pub first_event : has_event f change.0 ≡ true
  first_event =
      let least = le-last_time change.0 change.1 later form.2 in
      grind (
        arith,
        nat_tests,
        ne_eqb,
        head,
        last,
        least,
        (held (change.0 - 1) (omega (arith, is.some, form.0)) (omega (arith, form.0)) (omega (arith, last, least))),
        (is.levels change.0 (omega (arith, first_late)) (omega (arith, last, least))),
        (level_from-first (time - 1) a.level change later form),
        form.0,
        form.1,
      )

  -- before it there is none
  pub none_sooner : (t : ℕ) → time ≤ t → t < change.0 → t < end → has_event f t ≡ false
  none_sooner t low sooner high = grind (arith, nat_tests, held)

  -- whether the first change is now
  pub changes_now : time < end → (change.0 == time) ≡ has_event f time
  changes_now within = grind (arith, cases_eq, nat_tests, first_event, none_sooner, first_late)

  -- what comes before the first change passes
  pub still_before : (t : ℕ) → time ≤ t → t ≤ change.0 → IsAhead f end t a
  still_before t low high = grind (arith, nat_tests, form, last)

-- without changes there is no event, and all passes
module _ (f : ℕ → ℕ) (end time t : ℕ) (a : Ahead) (is : IsAhead f end time a) (empty : (changes_in a.changes) ≡ []) (low : time ≤ t) where
  pub none_at_all : t < end → has_event f t ≡ false
  none_at_all high = grind (arith, nat_tests)

  pub still_none : t ≤ end → IsAhead f end t a
  still_none high = grind (arith, nat_tests)

pub ruleset ahead_next_steps = (first_is, no_first, first_late, still_before, none_sooner, still_none, none_at_all)
