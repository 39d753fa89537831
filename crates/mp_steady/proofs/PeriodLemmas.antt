-- Which numbers of units can be a period: each is the time from an earlier change of a guide to its last one.
use Rattle.std.proofs.Common.{◌≡◌, ℕ, ◌+◌, ◌-◌, ◌<◌, ◌≤◌, ◌==◌, ◌⊎◌, inl, inr, Bool, true, false, not, cond, List, [], ◌∷◌, ◌++◌, length, get_or, Option, Some, None, zero, suc, refl, ap, sym, subst, ◌∙◌, arith}
use Rattle.std.specs.Prelude.{◌≢◌, ◌||◌, IfNone, IfSome, IsSome, nat_le, unwrap_or}
use Rattle.std.specs.List.{All, Contains, find, list_all, range_with_len}
use Rattle.std.proofs.lemmas.Bool.{cases_Bool, cases_lt, eq-eqb, eqb-true, leb-true, leb-false, and_parts}
use Rattle.std.proofs.lemmas.List.Elements.{All-head, All-tail}
use Rattle.mp_modules.specs.Histories.{has_event}
use Rattle.mp_wave.specs.Waveform.{AreChanges, Waveform, change_after, changes_after, last_time, level_from}
use Rattle.mp_wave.proofs.WaveformLemmas.{last_time-append, level_from-rest, nat_le-false}
use Rattle.mp_wave.proofs.ChangesLemmas.{AreChanges-changes_after, level_from-changes_after, last_time-changes_after}
use Rattle.mp_records.specs.declared.ids.WireId.{WireId}
use Rattle.mp_netlist.specs.Circuit.{Circuit, wire_at}
use Rattle.mp_netlist.specs.Drivers.{driver}
use Rattle.mp_model.specs.Waves.{level, wave}
use Rattle.mp_questions.specs.timing.Events.{last_event, since}
use Rattle.mp_questions.proofs.lemmas.causes.EventLemmas.{last_event_is, no_event_at}
use Rattle.mp_steady.specs.WireSets.{has_wire, numbers}
use Rattle.mp_steady.specs.Periods.{heard_from, is_again_by, is_over, last_change, last_set, last_unit, longest_delay, longest_input_delay, longest_period, period, repeats, repeats_from, start}
use Rattle.mp_steady.proofs.SetLemmas.{greatest_bounds, repeats_level}

-- ---- wires of a set

pub has_number : (wires : List WireId) (w : WireId) → Contains wires w → has_wire (numbers wires) w.0 ≡ true
has_number wires w has = at wires has.0 has.1 has.2
  where
    or_true : (b : Bool) → (b || true) ≡ true
    or_true true = refl
    or_true false = refl

    at : (vs : List WireId) (k : ℕ) → k < length vs → get_or vs k w ≡ w → has_wire (numbers vs) w.0 ≡ true
    at [] k low is = absurd (omega (arith, low))
    at (v ∷ vs) zero low is = ap (λ b. b || has_wire (numbers vs) w.0) (eq-eqb v.0 w.0 (ap (λ (x : WireId). x.0) is))
    at (v ∷ vs) (suc k) low is = ap (λ b. (v.0 == w.0) || b) (at vs k (omega (arith, low)) is) ∙ or_true (v.0 == w.0)

-- a wire of a set stands
pub stands_of : (n : Circuit) (wires : List WireId) (w : ℕ) → All (λ (v : WireId). IsSome (wire_at n v.0)) wires → has_wire (numbers wires) w ≡ true → IsSome (wire_at n w)
stands_of n [] w all has = let no : ⊥ = cc in absurd no
stands_of n (v ∷ vs) w all has =
    by (cases_Bool (v.0 == w)) (All-head (λ (x : WireId). IsSome (wire_at n x.0)) v vs all) (stands_of n vs w (All-tail (λ (x : WireId). IsSome (wire_at n x.0)) v vs all))
  where
    by : ((v.0 == w) ≡ true) ⊎ ((v.0 == w) ≡ false) → IsSome (wire_at n v.0) → (has_wire (numbers vs) w ≡ true → IsSome (wire_at n w)) → IsSome (wire_at n w)
    by (inl same) here rest = subst (λ k. IsSome (wire_at n k)) (eqb-true v.0 w same) here
    by (inr other) here rest = rest (sym (ap (λ b. b || has_wire (numbers vs) w) other) ∙ has)

-- ---- the changes of a level

-- the time of the last change of a wave is that since which the level is what it is at the end
pub last_since : (f : ℕ → ℕ) (t : ℕ) → last_time 0 (changes_after f 0 t) ≡ since f t
last_since f zero = refl
last_since f (suc t) =
    let e : 0 + t ≡ t = omega arith in
    ap (λ k. last_time 0 (changes_after f 0 t ++ change_after f k)) e ∙ last_time-append 0 (changes_after f 0 t) (change_after f t) ∙ by (f t == f (suc t)) (last_since f t)
  where
    by : (same : Bool) → last_time 0 (changes_after f 0 t) ≡ since f t
        → last_time (last_time 0 (changes_after f 0 t)) (cond same [] ((suc t, f (suc t)) ∷ [])) ≡ unwrap_or (cond (not same) (Some (suc t)) (last_event f t)) 0
    by true before = before
    by false before = refl

pub late_is : (n : Circuit) (w : ℕ) (v : Waveform) (changes : List (ℕ × ℕ)) → changes ≡ v.changes → v ≡ wave n w → last_time 0 changes ≡ since (level n w) (last_unit n)
late_is n w v changes are is = ap (last_time 0) are ∙ ap (λ (x : Waveform). last_time 0 x.changes) is ∙ last_since (level n w) (last_unit n)

-- there it changes
pub since_event : (f : ℕ → ℕ) (end last : ℕ) → since f end ≡ last → 0 < last → f (last - 1) ≢ f last
since_event f end last is some = λ same. by same (last_event f end) refl
  where
    by : f (last - 1) ≡ f last → (o : Option ℕ) → last_event f end ≡ o → ⊥
    by same None at = let none : since f end ≡ 0 = ap (λ o. unwrap_or o 0) at in omega (arith, none, is, some)
    by same (Some u) at =
        let here : u ≡ last = sym (ap (λ o. unwrap_or o 0) at) ∙ is in
        let event : has_event f last ≡ true = subst (λ k. has_event f k ≡ true) here (last_event_is f end u at).event in
        let none : has_event f last ≡ false = no_event_at f last same in
        let no : true ≡ false = sym event ∙ none in
        cc

first_stays : (xs : List (ℕ × ℕ)) (v t : ℕ) (d : ℕ × ℕ) → (0 < length xs → t < (get_or xs 0 d).0) → level_from v xs t ≡ v
first_stays [] v t d until = refl
first_stays (x ∷ xs) v t d until = rw (nat_le-false x.0 t (until (omega arith))) refl

later_at : (before v : ℕ) (xs : List (ℕ × ℕ)) (k : ℕ) (d : ℕ × ℕ) → AreChanges before v xs → k < length xs → before < (get_or xs k d).0
later_at before v [] k d are low = absurd (omega (arith, low))
later_at before v (x ∷ xs) zero d are low = are.0
later_at before v (x ∷ xs) (suc k) d are low = omega (arith, are.0, later_at x.0 x.1 xs k d are.2 (omega (arith, low)))

-- a change is later than those before it
pub rises : (before v : ℕ) (xs : List (ℕ × ℕ)) (k j : ℕ) (d : ℕ × ℕ) → AreChanges before v xs → k < j → j < length xs → (get_or xs k d).0 < (get_or xs j d).0
rises before v [] k j d are less low = absurd (omega (arith, low))
rises before v (x ∷ xs) k zero d are less low = absurd (omega (arith, less))
rises before v (x ∷ xs) zero (suc j) d are less low = later_at x.0 x.1 xs j d are.2 (omega (arith, low))
rises before v (x ∷ xs) (suc k) (suc j) d are less low = rises x.0 x.1 xs k j d are.2 (omega (arith, less)) (omega (arith, low))

-- the level between a change and the next one
stays_at : (before v : ℕ) (xs : List (ℕ × ℕ)) (k t : ℕ) (d : ℕ × ℕ) → AreChanges before v xs → k < length xs → (get_or xs k d).0 ≤ t → (suc k < length xs → t < (get_or xs (suc k) d).0)
    → level_from v xs t ≡ (get_or xs k d).1
stays_at before v [] k t d are low from until = absurd (omega (arith, low))
stays_at before v (x ∷ xs) zero t d are low from until = level_from-rest v t x xs from ∙ first_stays xs x.1 t d (λ more. until (omega (arith, more)))
stays_at before v (x ∷ xs) (suc k) t d are low from until =
    let later = later_at x.0 x.1 xs k d are.2 (omega (arith, low)) in
    level_from-rest v t x xs (omega (arith, later, from)) ∙ stays_at x.0 x.1 xs k t d are.2 (omega (arith, low)) from (λ more. until (omega (arith, more)))

last_place : (before v : ℕ) (xs : List (ℕ × ℕ)) (k : ℕ) (d : ℕ × ℕ) → length xs ≡ suc k → last_time before xs ≡ (get_or xs k d).0
last_place before v [] k d long = absurd (omega (arith, long))
last_place before v (x ∷ []) zero d long = refl
last_place before v (x ∷ y ∷ ys) zero d long = absurd (omega (arith, long))
last_place before v (x ∷ xs) (suc k) d long = last_place x.0 x.1 xs k d (omega (arith, long))

-- ---- a number of units that a level repeats after

module _ (f : ℕ → ℕ) (units heard last end : ℕ) (few : units ≤ heard) (late : heard < last) (within : last ≤ end) (again : (t : ℕ) → heard - units ≤ t → t ≤ end - units → f t ≡ f (t + units)) where
  like_last : f (last - units) ≡ f last
  like_last = let e : last - units + units ≡ last = omega (arith, few, late) in again (last - units) (omega (arith, few, late)) (omega (arith, within)) ∙ ap f e

  like_before : f (last - units - 1) ≡ f (last - 1)
  like_before =
      let e : last - units - 1 + units ≡ last - 1 = omega (arith, few, late) in
      again (last - units - 1) (omega (arith, few, late)) (omega (arith, within)) ∙ ap f e

-- ---- one that was found, or another

pub none_more : {X : Type 0} (o : Option X) (P Q : Type 0) → (P → Q) → IfNone o P → IfNone o Q
none_more None P Q more none = more none
none_more (Some x) P Q more none = tt

pub chosen : {X : Type 0} (P : X → Type 0) (found : Option X) (other one : X) → (one ≡ other) ⊎ (found ≡ Some one) → P other → IfSome found P → P one
chosen P found other one (inl is) here before = subst P (sym is) here
chosen P found other one (inr is) here before = subst (λ o. IfSome o P) is before

-- ---- a guide, with its changes and the place of the last one

pub some_changes : (n : Circuit) (wires : List ℕ) (w : ℕ) (changes : List (ℕ × ℕ)) → heard_from n wires < since (level n w) (last_unit n) → changes ≡ changes_after (level n w) 0 (last_unit n) → 0 < length changes
some_changes n wires w changes late is = by changes (ap (last_time 0) is ∙ last_since (level n w) (last_unit n))
  where
    by : (ys : List (ℕ × ℕ)) → last_time 0 ys ≡ since (level n w) (last_unit n) → 0 < length ys
    by [] e = let none : since (level n w) (last_unit n) ≡ 0 = sym e in absurd (omega (arith, none, late))
    by (y ∷ ys) e = omega arith

pub record IsGuide (n : Circuit) (wires : List ℕ) (w : ℕ) (changes : List (ℕ × ℕ)) (last : ℕ) : Type 0 where
  pub has : has_wire wires w ≡ true
  pub late : heard_from n wires < since (level n w) (last_unit n)
  pub is : changes ≡ changes_after (level n w) 0 (last_unit n)
  pub long : length changes ≡ suc last

module _ (n : Circuit) (wires : List ℕ) (w : ℕ) (changes : List (ℕ × ℕ)) (last : ℕ) (guide : IsGuide n wires w changes last) where
  abbrev f : ℕ → ℕ
  f = level n w

  abbrev end : ℕ
  end = last_unit n

  are : AreChanges 0 (f 0) changes
  are = subst (AreChanges 0 (f 0)) (sym guide.is) (AreChanges-changes_after f 0 end)

  same : (t : ℕ) → t ≤ end → level_from (f 0) changes t ≡ f t
  same t upto = ap (λ ys. level_from (f 0) ys t) guide.is ∙ level_from-changes_after f 0 end t (omega arith) (omega (arith, upto))

  -- the time of the change at a place
  abbrev pub at : ℕ → ℕ
  at k = (get_or changes k (0, 0)).0

  abbrev pub level_at : ℕ → ℕ
  level_at k = (get_or changes k (0, 0)).1

  time_is : since f end ≡ at last
  time_is = sym (ap (last_time 0) guide.is ∙ last_since f end) ∙ last_place 0 (f 0) changes last (0, 0) guide.long

  -- it is late
  is_late : heard_from n wires < at last
  is_late = subst (λ k. heard_from n wires < k) time_is guide.late

  in_run : at last ≤ end
  in_run = let low = last_time-changes_after f 0 end in let e = last_since f end ∙ time_is in omega (arith, low, e)

  pub place_in_run : (k : ℕ) → k ≤ last → at k ≤ at last
  place_in_run k low = elim (cases_lt k last) as (λ _. at k ≤ at last) [
    | inl less ↦ let up = rises 0 (f 0) changes k last (0, 0) are less (omega (arith, guide.long)) in omega (arith, up)
    | inr over ↦ let here : k ≡ last = omega (arith, low, over) in let e : at k ≡ at last = ap at here in omega (arith, e)
  ]

  pub earlier : (k : ℕ) → suc k ≤ last → at k < at last
  earlier k less = rises 0 (f 0) changes k last (0, 0) are less (omega (arith, guide.long))

  stays : (k t : ℕ) → k ≤ last → at k ≤ t → t ≤ end → (suc k ≤ last → t < at (suc k)) → f t ≡ level_at k
  stays k t low from upto until = sym (same t upto) ∙ stays_at 0 (f 0) changes k t (0, 0) are (omega (arith, low, guide.long)) from (λ more. until (omega (arith, more, guide.long)))

  last_level : f (at last) ≡ level_at last
  last_level = stays last (at last) (omega arith) (omega arith) in_run (λ more. absurd (omega (arith, more)))

  module _ (units : ℕ) (some : 1 ≤ units) (few : units ≤ longest_period n wires) where
    short : units ≤ heard_from n wires
    short = omega (arith, few)

    again : repeats n wires units ≡ true → (t : ℕ) → heard_from n wires - units ≤ t → t ≤ end - units → f t ≡ f (t + units)
    unfolding repeats
    again is t low high =
        let parts = and_parts (nat_le (start n wires units) (heard_from n wires - units)) (list_all (λ v. is_again_by n wires units (driver n v)) wires) is in
        let begun : start n wires units ≤ heard_from n wires - units = leb-true (start n wires units) (heard_from n wires - units) parts.0 in
        let bound : repeats_from f units (end - units) ≤ start n wires units = greatest_bounds (λ v. repeats_from (level n v) units (end - units)) wires w guide.has in
        repeats_level f units (end - units) t (omega (arith, bound, begun, low)) high

    refused : (repeats n wires units ≡ true → ⊥) → repeats n wires units ≡ false
    refused never = elim (cases_Bool (repeats n wires units)) as (λ _. repeats n wires units ≡ false) [
      | inl is ↦ absurd (never is)
      | inr not_so ↦ not_so
    ]

    -- so many units before the last change the level is another one
    pub other_level : (k : ℕ) → k ≤ last → at last - units ≡ at k → level_at k ≢ level_at last → repeats n wires units ≡ false
    other_level k low here differs =
        refused (λ is. differs (sym (stays k (at k) low (omega arith) (let up = place_in_run k low in let run = in_run in omega (arith, up, run)) (λ more. rises 0 (f 0) changes k (suc k) (0, 0) are (omega arith) (omega (arith, more, guide.long))))
        ∙ ap f (sym here) ∙ like_last f units (heard_from n wires) (at last) end short is_late in_run (again is) ∙ last_level))

    -- there is no change so many units before the last one
    no_change : f (at last - units) ≡ f (at last - units - 1) → repeats n wires units ≡ false
    no_change still =
        refused (λ is. since_event f end (at last) time_is (let late = is_late in omega (arith, late))
        (sym (like_before f units (heard_from n wires) (at last) end short is_late in_run (again is)) ∙ sym still ∙ like_last f units (heard_from n wires) (at last) end short is_late in_run (again is)))

    -- that time lies between two changes
    pub between_changes : (k : ℕ) → suc k ≤ last → at last - at (suc k) < units → units < at last - at k → repeats n wires units ≡ false
    between_changes k low above below =
        let late = is_late in
        let run = in_run in
        let few_enough = short in
        let t : ℕ = at last - units in
        let from : at k ≤ t - 1 = omega (arith, below) in
        let until : t < at (suc k) = omega (arith, above, late, few_enough) in
        let upto : t ≤ end = omega (arith, run) in
        no_change (stays k t (omega (arith, low)) (omega (arith, from)) upto (λ more. until) ∙ sym (stays k (t - 1) (omega (arith, low)) from (omega (arith, upto)) (λ more. omega (arith, until))))

    -- that time lies before all changes
    pub before_changes : at last - at 0 < units → repeats n wires units ≡ false
    before_changes above =
        let late = is_late in
        let run = in_run in
        let few_enough = short in
        let t : ℕ = at last - units in
        let early : t < at 0 = omega (arith, above, late, few_enough) in
        let upto : t ≤ end = omega (arith, run) in
        no_change (sym (same t upto) ∙ first_stays changes (f 0) t (0, 0) (λ more. early) ∙ sym (first_stays changes (f 0) (t - 1) (0, 0) (λ more. omega (arith, early))) ∙ same (t - 1) (omega (arith, upto)))

  -- up to the time from the change at a place to the last one no number of units is a period
  abbrev pub NoneUpto : ℕ → Type 0
  NoneUpto k = (units : ℕ) → 1 ≤ units → units ≤ at last - at k → repeats n wires units ≡ false

  pub none_at_last : NoneUpto last
  none_at_last units some upto = absurd (omega (arith, some, upto))

  -- up to before the time from the change at the place before
  pub none_below : (k : ℕ) → suc k ≤ last → NoneUpto (suc k) → (units : ℕ) → 1 ≤ units → units ≤ longest_period n wires → units < at last - at k → repeats n wires units ≡ false
  none_below k low none units some few below = elim (cases_lt (at last - at (suc k)) units) as (λ _. repeats n wires units ≡ false) [
    | inl above ↦ between_changes units some few k low above below
    | inr upto ↦ none units some upto
  ]

  pub none_upto : (k : ℕ) → suc k ≤ last → NoneUpto (suc k) → at last - at k ≤ longest_period n wires → repeats n wires (at last - at k) ≡ false → NoneUpto k
  none_upto k low none few here units some upto = elim (cases_lt units (at last - at k)) as (λ _. repeats n wires units ≡ false) [
    | inl below ↦ none_below k low none units some (omega (arith, few, below)) below
    | inr over ↦ let is : at last - at k ≡ units = omega (arith, over, upto) in subst (λ u. repeats n wires u ≡ false) is here
  ]

  pub none_at_all : NoneUpto 0 → (units : ℕ) → 1 ≤ units → units ≤ longest_period n wires → repeats n wires units ≡ false
  none_at_all none units some few = elim (cases_lt (at last - at 0) units) as (λ _. repeats n wires units ≡ false) [
    | inl above ↦ before_changes units some few above
    | inr upto ↦ none units some upto
  ]

-- ---- the least period

find_none : (p : ℕ → Bool) (a k : ℕ) → ((u : ℕ) → a ≤ u → u < a + k → p u ≡ false) → find p (range_with_len a k) ≡ None
find_none p a zero none = refl
find_none p a (suc k) none =
    ap (λ b. cond b (Some a) (find p (range_with_len (a + 1) k))) (none a (omega arith) (omega arith)) ∙ find_none p (a + 1) k (λ u low high. none u (omega (arith, low)) (omega (arith, high)))

find_least : (p : ℕ → Bool) (a k u : ℕ) → a ≤ u → u < a + k → p u ≡ true → ((v : ℕ) → a ≤ v → v < u → p v ≡ false) → find p (range_with_len a k) ≡ Some u
find_least p a zero u low high is none = absurd (omega (arith, low, high))
find_least p a (suc k) u low high is none = by (cases_lt a u) (λ past. find_least p (a + 1) k u past (omega (arith, high)) is (λ v first below. none v (omega (arith, first)) below))
  where
    by : (a < u) ⊎ (u ≤ a) → (a + 1 ≤ u → find p (range_with_len (a + 1) k) ≡ Some u) → find p (range_with_len a (suc k)) ≡ Some u
    by (inl past) rest = ap (λ b. cond b (Some a) (find p (range_with_len (a + 1) k))) (none a (omega arith) past) ∙ rest (omega (arith, past))
    by (inr here) rest =
        let e : a ≡ u = omega (arith, low, here) in
        ap (λ b. cond b (Some a) (find p (range_with_len (a + 1) k))) (ap p e ∙ is) ∙ ap (λ k. let o : Option ℕ = Some k in o) e

pub no_period : (n : Circuit) (wires : List ℕ) → ((units : ℕ) → 1 ≤ units → units ≤ longest_period n wires → repeats n wires units ≡ false) → None ≡ period n wires
unfolding period
no_period n wires none = sym (find_none (repeats n wires) 1 (longest_period n wires) (λ u low high. none u low (omega (arith, high))))

pub a_period : (n : Circuit) (wires : List ℕ) (units : ℕ) → 1 ≤ units → units ≤ longest_period n wires → repeats n wires units ≡ true → ((v : ℕ) → 1 ≤ v → v < units → repeats n wires v ≡ false)
    → Some units ≡ period n wires
unfolding period
a_period n wires units some few is none = sym (find_least (repeats n wires) 1 (longest_period n wires) units some (omega (arith, few)) is none)

zero_longest : (end d e last set : ℕ) → last ≤ end - d - e → end < last + (d + e) → end - d - e - set ≡ 0
zero_longest end d e last set low high = omega (arith, low, high)

-- without a guide there is none
pub no_guide : (n : Circuit) (wires : List ℕ) → is_over n wires ≡ false → last_change n wires ≤ heard_from n wires → None ≡ period n wires
no_guide n wires moving low =
    let far = leb-false (last_change n wires + (longest_delay n wires + longest_input_delay n wires)) (last_unit n) moving in
    let none = zero_longest (last_unit n) (longest_delay n wires) (longest_input_delay n wires) (last_change n wires) (last_set n wires) low far in
    no_period n wires (λ units some few. absurd (omega (arith, some, few, none)))

-- ---- one change after the other, from the last one back

module _ (n : Circuit) (wires : List ℕ) (w : ℕ) (changes : List (ℕ × ℕ)) (last : ℕ) (guide : IsGuide n wires w changes last) where
  -- all were looked at
  pub none_left : (back : ℕ) → last ≤ back → NoneUpto n wires w changes last guide (last - back) → None ≡ period n wires
  none_left back over none =
      let e : last - back ≡ 0 = omega (arith, over) in
      no_period n wires (none_at_all n wires w changes last guide (subst (NoneUpto n wires w changes last guide) e none))

  module _ (back : ℕ) (low : back < last) (none : NoneUpto n wires w changes last guide (last - back)) (time before longest : ℕ) (time_is : time ≡ (get_or changes last (0, 0)).0)
      (before_is : before ≡ (get_or changes (last - 1 - back) (0, 0)).0) (most : longest ≡ longest_period n wires) where
    abbrev k : ℕ
    k = last - 1 - back

    inside : suc k ≤ last
    inside = omega (arith, low)

    none_behind : NoneUpto n wires w changes last guide (suc k)
    none_behind = let e : last - back ≡ suc k = omega (arith, low) in subst (NoneUpto n wires w changes last guide) e none

    units_are : time - before ≡ at n wires w changes last guide last - at n wires w changes last guide k
    units_are = ap (λ x. x - before) time_is ∙ ap (λ x. (get_or changes last (0, 0)).0 - x) before_is

    pub in_order : before ≤ time
    in_order = let up = place_in_run n wires w changes last guide k (omega (arith, low)) in omega (arith, up, time_is, before_is)

    pub too_long : longest < time - before → None ≡ period n wires
    too_long above =
        no_period n wires (λ units some few.
        let less : units < longest_period n wires + 1 = omega (arith, few) in
        none_below n wires w changes last guide k inside none_behind units some few (omega (arith, above, units_are, less, most)))

    module _ (short : time - before ≤ longest) where
      few : at n wires w changes last guide last - at n wires w changes last guide k ≤ longest_period n wires
      few = subst (λ x. at n wires w changes last guide last - at n wires w changes last guide k ≤ x) most (omega (arith, short, units_are))

      some : 1 ≤ at n wires w changes last guide last - at n wires w changes last guide k
      some = let up = earlier n wires w changes last guide k inside in omega (arith, up)

      next : repeats n wires (at n wires w changes last guide last - at n wires w changes last guide k) ≡ false → NoneUpto n wires w changes last guide (last - (back + 1))
      next here =
          let e : k ≡ last - (back + 1) = omega (arith, low) in
          subst (NoneUpto n wires w changes last guide) e (none_upto n wires w changes last guide k inside none_behind few here)

      -- the change there is to another level
      pub next_other : (get_or changes k (0, 0)).1 ≢ (get_or changes last (0, 0)).1 → NoneUpto n wires w changes last guide (last - (back + 1))
      next_other differs =
          let up = earlier n wires w changes last guide k inside in
          next (other_level n wires w changes last guide (at n wires w changes last guide last - at n wires w changes last guide k) some few k (omega (arith, low)) (omega (arith, up)) differs)

      -- the wires don't repeat
      pub next_none : repeats n wires (time - before) ≡ false → NoneUpto n wires w changes last guide (last - (back + 1))
      next_none no_repeat = next (sym (ap (repeats n wires) units_are) ∙ no_repeat)

      pub next_found : repeats n wires (time - before) ≡ true → Some (time - before) ≡ period n wires
      next_found is =
          ap (λ u. let o : Option ℕ = Some u in o) units_are
          ∙ a_period n wires (at n wires w changes last guide last - at n wires w changes last guide k) some few (sym (ap (repeats n wires) units_are) ∙ is)
          (λ v one below. none_below n wires w changes last guide k inside none_behind v one (omega (arith, below, few)) below)

-- what is known of a period
pub period_is : (n : Circuit) (wires : List ℕ) (units : ℕ) → period n wires ≡ Some units → (1 ≤ units) × (units ≤ longest_period n wires)
unfolding period
period_is n wires units is = let found = found_within (repeats n wires) 1 (longest_period n wires) units is in (found.0, omega (arith, found.1))
  where
    found_within : (p : ℕ → Bool) (a k u : ℕ) → find p (range_with_len a k) ≡ Some u → (a ≤ u) × (u < a + k)
    found_within p a zero u e = let no : ⊥ = cc in absurd no
    found_within p a (suc k) u e = by (p a) e (found_within p (a + 1) k u)
      where
        by : (b : Bool) → cond b (Some a) (find p (range_with_len (a + 1) k)) ≡ Some u → (find p (range_with_len (a + 1) k) ≡ Some u → (a + 1 ≤ u) × (u < a + 1 + k)) → (a ≤ u) × (u < a + suc k)
        by true same rest = let here : a ≡ u = cc in (omega (arith, here), omega (arith, here))
        by false same rest = let later = rest same in (omega (arith, later.0), omega (arith, later.1))
