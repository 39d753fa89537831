-- A number is listed for the first old change to come.
use Rattle.std.proofs.Common.{◌≡◌, ◌≢◌, ℕ, zero, suc, ◌+◌, ◌-◌, ◌<◌, ◌≤◌, Bool, true, false, List, [], ◌∷◌, length, drop, get_or, refl, sym, ap, ◌∙◌, arith, get_or-set_same, get_or-set_other, subst, inl, inr, ◌⊎◌}
use Rattle.std.specs.Prelude.{◌==◌, slice_set, nat_le, nat_lt}
use Rattle.std.proofs.Math.ListN.{length-set}
use Rattle.std.proofs.Math.Seq.{take-length}
use Rattle.std.proofs.lemmas.Bool.{cases_lt, eqb-true, eqb-false, le-leb, lt-leb, lt-ltb}
use Rattle.std.proofs.lemmas.List.{get_or-drop, length-drop}
use Rattle.std.proofs.lemmas.List.Sums.{length-filter, count_by-le-length}
use Rattle.mp_wave.specs.Waveform.{AreChanges, between, later_than, earlier_than}
use Rattle.mp_wave.specs.Faults.{pair_at}
use Rattle.mp_wave.proofs.PrefixLemmas.{later_than-drop, earlier_than-take}
use Rattle.mp_kernel.specs.events.Adding.{listed}
use Rattle.mp_kernel.specs.timers.TimerWheels.{never, time_in, time_of, IsTimerWheel}
use Rattle.mp_partition.specs.runs.Outcomes.{Outcome}
use Rattle.mp_active.specs.declared.compare.comparison.Comparison.{Comparison}
use Rattle.mp_active.specs.compare.Comparing.{place_at, changes_at, change_time, HasCursors}
use Rattle.mp_active.specs.compare.Listing.{IsCut}
use Rattle.mp_active.proofs.lemmas.compare.WaveLemmas.{rises}

-- of changes in order some come up to a time, and the others later
cut : (time before level : ℕ) (changes : List (ℕ × ℕ)) → AreChanges before level changes → (count : ℕ) × IsCut time changes count
cut time before level [] is = (0, record { within = omega arith; over = λ k less. absurd (omega arith); later = λ k more low. absurd (omega arith) })
cut time before level (change ∷ changes) is = by (cases_lt time change.0) (cut time change.0 change.1 changes is.2)
  where
    by : (time < change.0) ⊎ (change.0 ≤ time) → (count : ℕ) × IsCut time changes count → (count : ℕ) × IsCut time (change ∷ changes) count
    by (inl later) rest = (0, record { within = omega arith; over = λ k less. absurd (omega arith); later = λ k more low. all k low })
      where
        all : (k : ℕ) → k < suc (length changes) → time < (pair_at (change ∷ changes) k).0
        all zero low = later
        all (suc k) low = let after = rises change.0 change.1 changes k is.2 (omega arith) in omega arith
    by (inr early) rest = (suc rest.0, record { within = (let w = rest.1.within in omega arith); over = over; later = later })
      where
        over : (k : ℕ) → k < suc rest.0 → (pair_at (change ∷ changes) k).0 ≤ time
        over zero less = early
        over (suc k) less = rest.1.over k (omega arith)

        later : (k : ℕ) → suc rest.0 ≤ k → k < suc (length changes) → time < (pair_at (change ∷ changes) k).0
        later zero more low = absurd (omega arith)
        later (suc k) more low = rest.1.later k (omega arith) (omega arith)

same_pair : (xs : List (ℕ × ℕ)) (k : ℕ) (d e : ℕ × ℕ) → k < length xs → get_or xs k d ≡ get_or xs k e
same_pair [] k d e low = absurd (omega arith)
same_pair (x ∷ xs) zero d e low = refl
same_pair (x ∷ xs) (suc k) d e low = same_pair xs k d e (omega arith)

-- so they are counted by those that come later
pub counted : (time last level count : ℕ) (changes : List (ℕ × ℕ)) → AreChanges 0 level changes → ((k : ℕ) → k < length changes → (pair_at changes k).0 < last) →
    count ≡ length changes - length (between time last changes) → IsCut time changes count
counted time last level count changes is low e =
    let found = cut time 0 level changes is in
    subst (IsCut time changes) (at found.0 found.1) found.1
  where
    at : (n : ℕ) → IsCut time changes n → n ≡ count
    at n it =
        let later = later_than-drop time n changes it.within
        (λ k d least less. let w = it.within in ap (λ (p : ℕ × ℕ). nat_le p.0 time) (same_pair changes k d (0, 0) (omega arith)) ∙ le-leb (pair_at changes k).0 time (it.over k less))
        (λ k d least less. ap (λ (p : ℕ × ℕ). nat_le p.0 time) (same_pair changes k d (0, 0) less) ∙ lt-leb (pair_at changes k).0 time (it.later k least less)) in
        let rest = drop n changes in
        let long = length-drop n changes in
        let early = earlier_than-take last (length rest) rest (omega arith)
        (λ k d least less. ap (λ (p : ℕ × ℕ). nat_lt p.0 last) (get_or-drop n changes k d ∙ same_pair changes (n + k) d (0, 0) (omega arith)) ∙ lt-ltb (pair_at changes (n + k)).0 last (low (n + k) (omega arith)))
        (λ k d least less. absurd (omega arith)) in
        let all = ap (length {A = ℕ × ℕ}) (sym (ap (earlier_than last) later) ∙ sym early ∙ take-length rest) in
        let w = it.within in
        omega arith

-- a number that isn't listed is listed for its first change to come
pub record IsFresh (run : Outcome) (t number time place : ℕ) (was is : Comparison) : Type 0 where
  pub within : number < length was.numbers.wires.items
  pub free : time_of was.timers number ≡ never
  pub low : place < length (changes_at run was number)
  pub first : time ≡ change_time run was number place
  pub over : (k : ℕ) → k < place → change_time run was number k ≤ t
  pub later : t < time
  pub kept : is ≡ record was { timers = is.timers; places = is.places }
  pub places : is.places.items ≡ slice_set was.places.items number place
  pub times : is.timers.times.items ≡ slice_set was.timers.times.items number time
  pub timers : IsTimerWheel t [] was.timers → IsTimerWheel t [] is.timers

own_time : (run : Outcome) (t number time place : ℕ) (was is : Comparison) → HasCursors run t [] was → IsFresh run t number time place was is → time_of is.timers number ≡ time
own_time run t number time place was is has it =
    ap (λ (ts : List ℕ). time_in ts number) it.times ∙ get_or-set_same was.timers.times.items number time never (let a = has.shape.times in let b = it.within in omega arith)

other_time : (run : Outcome) (t number time place : ℕ) (was is : Comparison) → IsFresh run t number time place was is → (x : ℕ) → (number == x) ≡ false → time_of is.timers x ≡ time_of was.timers x
other_time run t number time place was is it x other =
    ap (λ (ts : List ℕ). time_in ts x) it.times ∙ get_or-set_other was.timers.times.items number x time never (λ e. eqb-false number x other (sym e))

pub fresh_cursors : (run : Outcome) (t number time place : ℕ) (was is : Comparison) → HasCursors run t [] was → IsFresh run t number time place was is → HasCursors run t [] is
fresh_cursors run t number time place was is has it = subst (HasCursors run t []) (sym it.kept) (record {
  shape = record {
    delays = has.shape.delays;
    next = has.shape.next;
    have_data = has.shape.have_data;
    asleep = has.shape.asleep;
    times = ap (length {A = ℕ}) it.times ∙ length-set was.timers.times.items number time ∙ has.shape.times;
    places = ap (length {A = ℕ}) it.places ∙ length-set was.places.items number place ∙ has.shape.places;
    seen = has.shape.seen;
    few = has.shape.few;
    wires = has.shape.wires;
    own = has.shape.own;
  };
  form = has.form;
  timers = it.timers has.timers;
  room = has.room;
  place = λ x. place_by x (number == x) refl;
  time = λ x. time_by x (number == x) refl;
  over = λ x k. over_by x k (number == x) refl;
  later = λ x. later_by x (number == x) refl;
})
  where
    now : time_of is.timers number ≡ time
    now = own_time run t number time place was is has it

    at : place_at is number ≡ place
    at = ap (λ (ps : List ℕ). get_or ps number 0) it.places ∙ get_or-set_same was.places.items number place 0 (let a = has.shape.places in let b = it.within in omega arith)

    same : (x : ℕ) → (number == x) ≡ false → time_of is.timers x ≡ time_of was.timers x
    same x other = other_time run t number time place was is it x other

    placed : (x : ℕ) → (number == x) ≡ false → place_at is x ≡ place_at was x
    placed x other = ap (λ (ps : List ℕ). get_or ps x 0) it.places ∙ get_or-set_other was.places.items number x place 0 (λ e. eqb-false number x other (sym e))

    place_by : (x : ℕ) (own : Bool) → (number == x) ≡ own → time_of is.timers x ≢ never → place_at is x < length (changes_at run was x)
    place_by x true e = subst (λ y. time_of is.timers y ≢ never → place_at is y < length (changes_at run was y)) (eqb-true number x e) (λ some. let a = at in let b = it.low in omega arith)
    place_by x false e = λ some. let before = has.place x (λ none. some (same x e ∙ none)) in let p = placed x e in omega arith

    time_by : (x : ℕ) (own : Bool) → (number == x) ≡ own → time_of is.timers x ≢ never → time_of is.timers x ≡ change_time run was x (place_at is x)
    time_by x true e = subst (λ y. time_of is.timers y ≢ never → time_of is.timers y ≡ change_time run was y (place_at is y)) (eqb-true number x e)
        (λ some. now ∙ it.first ∙ ap (λ p. change_time run was number p) (sym at))
    time_by x false e = λ some. same x e ∙ has.time x (λ none. some (same x e ∙ none)) ∙ ap (λ p. change_time run was x p) (sym (placed x e))

    over_by : (x k : ℕ) (own : Bool) → (number == x) ≡ own → time_of is.timers x ≢ never → k < place_at is x → change_time run was x k ≤ t
    over_by x k true e = subst (λ y. time_of is.timers y ≢ never → k < place_at is y → change_time run was y k ≤ t) (eqb-true number x e) (λ some less. it.over k (let a = at in omega arith))
    over_by x k false e = λ some less. has.over x k (λ none. some (same x e ∙ none)) (let p = placed x e in omega arith)

    later_by : (x : ℕ) (own : Bool) → (number == x) ≡ own → time_of is.timers x ≢ never → t < time_of is.timers x + listed x []
    later_by x true e = subst (λ y. time_of is.timers y ≢ never → t < time_of is.timers y + listed y []) (eqb-true number x e) (λ some. let a = now in let b = it.later in omega arith)
    later_by x false e = λ some. let before = has.later x (λ none. some (same x e ∙ none)) in let s = same x e in omega arith

pub between_short : (from to : ℕ) (changes : List (ℕ × ℕ)) → length (between from to changes) ≤ length changes
between_short from to changes =
    let a = length-filter (λ (change : ℕ × ℕ). nat_lt change.0 to) (later_than from changes) in
    let b = count_by-le-length (λ (change : ℕ × ℕ). nat_lt change.0 to) (later_than from changes) in
    let c = length-filter (λ (change : ℕ × ℕ). nat_lt from change.0) changes in
    let d = count_by-le-length (λ (change : ℕ × ℕ). nat_lt from change.0) changes in
    omega arith
