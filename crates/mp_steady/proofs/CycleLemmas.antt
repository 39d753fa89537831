-- Ways from cause to cause in the last period, and what comes round.
use Rattle.std.proofs.Common.{◌≡◌, ℕ, ◌+◌, ◌*◌, ◌-◌, ◌%◌, ◌<◌, ◌≤◌, ◌^◌, ◌==◌, ◌⊎◌, inl, inr, Bool, true, false, not, cond, List, [], ◌∷◌, ◌++◌, length, drop, get_or, slice_get, Option, Some, None, option_map, zero, suc, refl, ap, sym, ◌∙◌, arith}
use Rattle.std.specs.Prelude.{◌||◌, ◌&&◌, IfSome, nat_lt}
use Rattle.std.specs.List.{All, find, list_any}
use Rattle.std.specs.Option.{option_or}
use Rattle.std.specs.BTreeSet.{BTreeSet, Updates, contains}
use Rattle.std.specs.Ordering.{is_eq, nat_cmp}
use Rattle.std.proofs.lemmas.Bool.Decides.{nat_tests}
use Rattle.std.proofs.lemmas.List.Folds.{list_any-append}
use Rattle.std.proofs.lemmas.Bool.{cases_Bool, cases_lt, eqb-true, eq-eqb, ne_eqb, lt-ltb, and_parts}
use Rattle.std.proofs.lemmas.List.{at_drop_all, at_drop_more, length-map}
use Rattle.std.proofs.lemmas.List.Elements.{All-head, All-tail}
use Rattle.std.proofs.lemmas.Option.{same_Some}
use Rattle.mp_wave.specs.Waveform.{AreChanges, between, changes_after, earlier_than, later_than}
use Rattle.mp_wave.proofs.ChangesLemmas.{AreChanges-changes_after}
use Rattle.mp_wave.proofs.PrefixLemmas.{all_later, nat_lt-true, nat_lt-false}
use Rattle.mp_records.specs.declared.ids.WireId.{WireId}
use Rattle.mp_netlist.specs.Circuit.{Circuit, IsCircuit}
use Rattle.mp_model.specs.Waves.{level}
use Rattle.mp_questions.specs.declared.causes.wire_change.WireChange.{WireChange}
use Rattle.mp_questions.specs.causes.Causes.{cause_of, followed}
use Rattle.mp_questions.specs.causes.Changes.{change_at, last_change}
use Rattle.mp_questions.specs.timing.Events.{last_event, times_of}
use Rattle.mp_questions.proofs.lemmas.causes.ChainLemmas.{followed_time, last_change_is}
use Rattle.mp_questions.proofs.lemmas.causes.EventLemmas.{change_of, last_of as last_in, last_of_wave}
use Rattle.mp_steady.specs.Periods.{events, last_unit}
use Rattle.mp_steady.specs.WireSets.{has_events, numbers}
use Rattle.mp_steady.specs.Cycles.{behind, cycle, first_wire, from_place, in_last, is_moving, is_place, last_of, most_places, round_of, way_from}

-- ---- the last of some changes

some_at : (x : ℕ × ℕ) (xs : List (ℕ × ℕ)) → (y : ℕ × ℕ) × (slice_get (x ∷ xs) (length xs) ≡ Some y)
some_at x [] = (x, refl)
some_at x (y ∷ ys) = some_at y ys

last_cons : (x : ℕ × ℕ) (xs : List (ℕ × ℕ)) → last_in (x ∷ xs) ≡ slice_get (x ∷ xs) (length xs)
last_cons x xs = let e : length (x ∷ xs) - 1 ≡ length xs = omega arith in ap (slice_get (x ∷ xs)) e

-- without a last one there is none
pub none_last : (xs : List (ℕ × ℕ)) → last_in xs ≡ None → length xs ≡ 0
none_last [] none = refl
none_last (x ∷ xs) none = let found = some_at x xs in let no = sym none ∙ last_cons x xs ∙ found.1 in cc

pub some_last : (xs : List (ℕ × ℕ)) (x : ℕ × ℕ) → last_in xs ≡ Some x → 0 < length xs
some_last [] x some = let no : ⊥ = cc in absurd no
some_last (y ∷ ys) x some = omega arith

-- a change in front of others isn't the last
last_behind : (x y : ℕ × ℕ) (xs : List (ℕ × ℕ)) → last_in xs ≡ Some y → last_in (x ∷ xs) ≡ Some y
last_behind x y [] last = let no : ⊥ = cc in absurd no
last_behind x y (z ∷ zs) last = last_cons x (z ∷ zs) ∙ sym (last_cons z zs) ∙ last

-- the last change between two times is the last one before the second
pub last_between : (from to before v : ℕ) (xs : List (ℕ × ℕ)) (x : ℕ × ℕ) → AreChanges before v xs → last_in (earlier_than to (later_than from xs)) ≡ Some x → last_in (earlier_than to xs) ≡ Some x
last_between from to before v [] x are last = last
last_between from to before v (y ∷ ys) x are last = by (cases_lt from y.0) (cases_lt y.0 to) (λ here. last_between from to y.0 y.1 ys x are.2 here)
  where
    by : (from < y.0) ⊎ (y.0 ≤ from) → (y.0 < to) ⊎ (to ≤ y.0) → (last_in (earlier_than to (later_than from ys)) ≡ Some x → last_in (earlier_than to ys) ≡ Some x)
        → last_in (earlier_than to (y ∷ ys)) ≡ Some x
    by (inl past) at rest =
        let whole : later_than from (y ∷ ys) ≡ y ∷ ys =
        ap (λ b. cond b (y ∷ later_than from ys) (later_than from ys)) (nat_lt-true from y.0 past) ∙ ap (λ (zs : List (ℕ × ℕ)). y ∷ zs) (all_later from y.0 y.1 ys (omega (arith, past)) are.2) in
        sym (ap (λ zs. last_in (earlier_than to zs)) whole) ∙ last
    by (inr early) (inl sooner) rest =
        let left : later_than from (y ∷ ys) ≡ later_than from ys = ap (λ b. cond b (y ∷ later_than from ys) (later_than from ys)) (nat_lt-false from y.0 early) in
        ap (λ b. last_in (cond b (y ∷ earlier_than to ys) (earlier_than to ys))) (nat_lt-true y.0 to sooner)
        ∙ last_behind y x (earlier_than to ys) (rest (sym (ap (λ zs. last_in (earlier_than to zs)) left) ∙ last))
    by (inr early) (inr late) rest =
        let left : later_than from (y ∷ ys) ≡ later_than from ys = ap (λ b. cond b (y ∷ later_than from ys) (later_than from ys)) (nat_lt-false from y.0 early) in
        ap (λ b. last_in (cond b (y ∷ earlier_than to ys) (earlier_than to ys))) (nat_lt-false y.0 to late) ∙ rest (sym (ap (λ zs. last_in (earlier_than to zs)) left) ∙ last)

-- the last change in the last units of the wave is the last one of the wire
module _ (n : Circuit) (units : ℕ) (wire : WireId) (x : ℕ × ℕ) (low : 1 ≤ n.horizon) where
  abbrev f : ℕ → ℕ
  f = level n wire.0

  abbrev ys : List (ℕ × ℕ)
  ys = changes_after f 0 (last_unit n)

  whole : last_in (between (n.horizon - 1 - units) n.horizon ys) ≡ Some x → last_in (between 0 (last_unit n + 1) ys) ≡ Some x
  whole last =
      let end : last_unit n + 1 ≡ n.horizon = omega (arith, low) in
      ap (λ (zs : List (ℕ × ℕ)). last_in (earlier_than (last_unit n + 1) zs)) (all_later 0 0 (f 0) ys (omega arith) (AreChanges-changes_after f 0 (last_unit n)))
      ∙ ap (λ k. last_in (earlier_than k ys)) end ∙ last_between (n.horizon - 1 - units) n.horizon 0 (f 0) ys x (AreChanges-changes_after f 0 (last_unit n)) last

  pub last_moving : last_in (between (n.horizon - 1 - units) n.horizon ys) ≡ Some x → last_change n wire (last_unit n) ≡ Some (record { wire = wire; time = x.0; level = x.1 })
  last_moving last = by (last_event f (last_unit n)) (sym (last_of_wave f (last_unit n) (last_unit n) (omega arith)) ∙ whole last)
    where
      by : (o : Option ℕ) → option_map (change_of f) o ≡ Some x → option_map (change_at n wire) o ≡ Some (record { wire = wire; time = x.0; level = x.1 })
      by None e = let no : ⊥ = cc in absurd no
      by (Some u) e =
          let is : change_of f u ≡ x = same_Some (change_of f u) x e in
          ap (λ (y : ℕ × ℕ). Some (let c : WireChange = record { wire = wire; time = y.0; level = y.1 } in c)) is

-- ---- wires with events

pub count_is : (changes : List (ℕ × ℕ)) (times : List ℕ) → times_of changes ≡ times → length times ≡ length changes
count_is changes times is = ap length (sym is) ∙ length-map changes (λ (c : ℕ × ℕ). c.0)

pub not_moving : (n : Circuit) (units : ℕ) (narrow : Bool) (w : ℕ) → events n units w ≡ 0 → is_moving n units narrow w ≡ false
not_moving n units narrow w none = ap (λ k. (not narrow || has_events n w) && nat_lt 0 k) none ∙ by (not narrow || has_events n w)
  where
    by : (b : Bool) → (b && nat_lt 0 0) ≡ false
    by true = refl
    by false = refl

pub not_counted : (n : Circuit) (units : ℕ) (narrow : Bool) (w : ℕ) → (not narrow || has_events n w) ≡ false → is_moving n units narrow w ≡ false
not_counted n units narrow w out = ap (λ b. b && nat_lt 0 (events n units w)) out

pub moving : (n : Circuit) (units : ℕ) (narrow : Bool) (w : ℕ) → (not narrow || has_events n w) ≡ true → 0 < events n units w → is_moving n units narrow w ≡ true
moving n units narrow w counts some = ap (λ b. b && nat_lt 0 (events n units w)) counts ∙ lt-ltb 0 (events n units w) some

-- the last change of the first wire of width 1 with events, or else of the first one of any width
pub first_narrow : (n : Circuit) (units : ℕ) (wires : List ℕ) (c : WireChange) → last_of n (find (is_moving n units true) wires) ≡ Some c → Some c ≡ last_of n (first_wire n units wires)
first_narrow n units wires c is = by (find (is_moving n units true) wires) is
  where
    by : (o : Option ℕ) → last_of n o ≡ Some c → Some c ≡ last_of n (option_or o (find (is_moving n units false) wires))
    by None e = let no : ⊥ = cc in absurd no
    by (Some w) e = sym e

pub first_wide : (n : Circuit) (units : ℕ) (wires : List ℕ) → find (is_moving n units true) wires ≡ None → first_wire n units wires ≡ find (is_moving n units false) wires
first_wide n units wires none = ap (λ o. option_or o (find (is_moving n units false) wires)) none

-- a change in the run
pub record IsWithin (n : Circuit) (c : WireChange) : Type 0 where
  pub from : 0 < c.time
  pub within : c.time < n.horizon

pub last_within : (n : Circuit) (o : Option ℕ) (c : WireChange) → 1 ≤ n.horizon → Some c ≡ last_of n o → IsWithin n c
last_within n None c low is = let no : ⊥ = cc in absurd no
last_within n (Some w) c low is = let last = last_change_is n (record { 0 = w }) (last_unit n) c (sym is) in record { from = last.from; within = omega (arith, last.within, low) }

pub all_within : (n : Circuit) (o : Option ℕ) (next : Option WireChange) → 1 ≤ n.horizon → next ≡ last_of n o → IfSome next (IsWithin n)
all_within n o None low is = tt
all_within n o (Some c) low is = last_within n o c low is

-- ---- one change behind another

-- what a change in the run follows is in it, and sooner
pub followed_within : (n : Circuit) → IsCircuit n → (c f : WireChange) → IsWithin n c → followed (cause_of n c) ≡ Some f → IsWithin n f
followed_within n ok c f here follows = let early = followed_time n ok c here.from (Some f) follows in record { from = early.0; within = omega (arith, early.1, here.within) }

pub moved : (n : Circuit) (units time : ℕ) (c f : WireChange) → time ≡ last_unit n - (last_unit n - f.time) % units → followed (cause_of n c) ≡ Some f
    → Some (record { wire = f.wire; time = time; level = f.level }) ≡ behind n units c
moved n units time c f is follows = ap (λ t. Some (let d : WireChange = record { wire = f.wire; time = t; level = f.level } in d)) is ∙ sym (ap (option_map (in_last n units)) follows)

pub not_moved : (n : Circuit) (units : ℕ) (c : WireChange) → followed (cause_of n c) ≡ None → None ≡ behind n units c
not_moved n units c none = sym (ap (option_map (in_last n units)) none)

pub moved_within : (end units t time : ℕ) → 0 < units → 0 < t → t ≤ end → time ≡ end - (end - t) % units → (0 < time) × (time ≤ end)
moved_within end units t time some from upto is = (omega (arith, some, from, upto, is), omega (arith, is))

-- ---- the first wire with something

module _ (p : ℕ → Bool) (wires : List WireId) (i : ℕ) where
  pub found_here : (d : WireId) → i < length wires → find p (numbers (drop i wires)) ≡ find p (numbers wires) → p (get_or wires i d).0 ≡ true → find p (numbers wires) ≡ Some (get_or wires i d).0
  found_here d low so_far is =
      sym so_far ∙ at_drop_more (λ ws. find p (numbers ws)) wires i d low ∙ ap (λ b. cond b (Some (get_or wires i d).0) (find p (numbers (drop (i + 1) wires)))) is

  pub found_later : (d : WireId) → i < length wires → find p (numbers (drop i wires)) ≡ find p (numbers wires) → p (get_or wires i d).0 ≡ false
      → find p (numbers (drop (i + 1) wires)) ≡ find p (numbers wires)
  found_later d low so_far not_so =
      sym (at_drop_more (λ ws. find p (numbers ws)) wires i d low ∙ ap (λ b. cond b (Some (get_or wires i d).0) (find p (numbers (drop (i + 1) wires)))) not_so) ∙ so_far

  pub found_nowhere : length wires ≤ i → find p (numbers (drop i wires)) ≡ find p (numbers wires) → find p (numbers wires) ≡ None
  found_nowhere past so_far = sym so_far ∙ at_drop_all (λ ws. find p (numbers ws)) wires i past

-- ---- changes by their numbers

abbrev pub key : WireChange → ℕ
key c = c.time * 4294967296 + c.wire.0

abbrev pub has_key : ℕ → List WireChange → Bool
has_key k changes = list_any (λ (d : WireChange). k == key d) changes

-- the numbers of two changes are the same where they are of the same wire at the same time
pub same_key : (c d : WireChange) → c.wire.0 < 2 ^ 32 → d.wire.0 < 2 ^ 32 → (key c == key d) ≡ is_place c d
same_key c d low other = by (cases_Bool (is_place c d))
  where
    by : (is_place c d ≡ true) ⊎ (is_place c d ≡ false) → (key c == key d) ≡ is_place c d
    by (inl is) =
        let parts = and_parts (c.wire.0 == d.wire.0) (c.time == d.time) is in
        let wire = eqb-true c.wire.0 d.wire.0 parts.0 in
        let time = eqb-true c.time d.time parts.1 in
        eq-eqb (key c) (key d) (omega (arith, wire, time)) ∙ sym is
    by (inr apart) =
        ne_eqb (key c) (key d) (λ same.
        let wire : c.wire.0 ≡ d.wire.0 = omega (arith, same, low, other) in
        let time : c.time ≡ d.time = omega (arith, same, low, other) in
        let is : is_place c d ≡ true = ap (λ b. b && (c.time == d.time)) (eq-eqb c.wire.0 d.wire.0 wire) ∙ eq-eqb c.time d.time time in
        let none : true ≡ false = sym is ∙ apart in
        cc)
        ∙ sym apart

-- among changes whose wires have small numbers
pub keyed : (c : WireChange) (changes : List WireChange) → c.wire.0 < 2 ^ 32 → All (λ (d : WireChange). d.wire.0 < 2 ^ 32) changes → has_key (key c) changes ≡ list_any (is_place c) changes
keyed c [] low small = refl
keyed c (d ∷ ds) low small =
    ap (λ b. b || has_key (key c) ds) (same_key c d low (All-head (λ (e : WireChange). e.wire.0 < 2 ^ 32) d ds small))
    ∙ ap (λ b. is_place c d || b) (keyed c ds low (All-tail (λ (e : WireChange). e.wire.0 < 2 ^ 32) d ds small))

is_same : (a b : ℕ) → is_eq (nat_cmp a b) ≡ (b == a)
is_same a b = grind (arith, nat_tests)

turned : (t b : Bool) → cond t true b ≡ (b || (t || false))
turned true true = refl
turned true false = refl
turned false true = refl
turned false false = refl

-- a number more that was seen
pub keys_more : (old new : BTreeSet ℕ) (k : ℕ) (c : WireChange) (way more : List WireChange) → Updates nat_cmp old new k true → k ≡ key c → more ≡ way ++ c ∷ []
    → ((q : ℕ) → contains nat_cmp old q ≡ has_key q way) → (q : ℕ) → contains nat_cmp new q ≡ has_key q more
keys_more old new k c way more updates is grown known q =
    updates.0 q ∙ ap (λ t. cond t true (contains nat_cmp old q)) (is_same k q) ∙ ap (cond (q == k) true) (known q) ∙ turned (q == k) (has_key q way)
    ∙ ap (λ j. has_key q way || ((q == j) || false)) is ∙ sym (ap (has_key q) grown ∙ list_any-append (λ (d : WireChange). q == key d) way (c ∷ []))

-- ---- from a change on

pub from_few : (c : WireChange) (changes : List WireChange) → length (from_place c changes) ≤ length changes
from_few c [] = omega arith
from_few c (d ∷ ds) = by (is_place c d) (from_few c ds)
  where
    by : (b : Bool) → length (from_place c ds) ≤ length ds → length (cond b (d ∷ ds) (from_place c ds)) ≤ length (d ∷ ds)
    by true rest = omega arith
    by false rest = omega (arith, rest)

pub from_all : (P : WireChange → Type 0) (c : WireChange) (changes : List WireChange) → All P changes → All P (from_place c changes)
from_all P c [] all = all
from_all P c (d ∷ ds) all = by (is_place c d) (from_all P c ds (All-tail P d ds all))
  where
    by : (b : Bool) → All P (from_place c ds) → All P (cond b (d ∷ ds) (from_place c ds))
    by true rest = all
    by false rest = rest

pub from_here : (c d : WireChange) (ds : List WireChange) → is_place c d ≡ true → from_place c (d ∷ ds) ≡ d ∷ ds
from_here c d ds is = ap (λ b. cond b (d ∷ ds) (from_place c ds)) is

pub from_later : (c d : WireChange) (ds : List WireChange) → is_place c d ≡ false → from_place c (d ∷ ds) ≡ from_place c ds
from_later c d ds is = ap (λ b. cond b (d ∷ ds) (from_place c ds)) is

-- ---- round

-- what is found on the way from a change on, behind others
abbrev pub found_on : Circuit → ℕ → List WireChange → ℕ → Option WireChange → List WireChange
found_on n units before count next = round_of before (way_from n units count next)

pub found_out : (n : Circuit) (units : ℕ) (before : List WireChange) (count : ℕ) (next : Option WireChange) → count ≡ 0 → found_on n units before count next ≡ []
found_out n units before count next none = ap (λ k. found_on n units before k next) none

pub found_end : (n : Circuit) (units : ℕ) (before : List WireChange) (count : ℕ) → found_on n units before count None ≡ []
found_end n units before zero = refl
found_end n units before (suc count) = refl

pub found_round : (n : Circuit) (units : ℕ) (before : List WireChange) (count : ℕ) (c : WireChange) → 0 < count → list_any (is_place c) before ≡ true → found_on n units before count (Some c) ≡ from_place c before
found_round n units before zero c some found = absurd (omega (arith, some))
found_round n units before (suc count) c some found = ap (λ b. cond b (from_place c before) (round_of (before ++ c ∷ []) (way_from n units count (behind n units c)))) found

pub found_more : (n : Circuit) (units : ℕ) (before : List WireChange) (count rest : ℕ) (c : WireChange) → count ≡ suc rest → list_any (is_place c) before ≡ false
    → found_on n units before count (Some c) ≡ found_on n units (before ++ c ∷ []) rest (behind n units c)
found_more n units before count rest c more new =
    ap (λ k. found_on n units before k (Some c)) more ∙ ap (λ b. cond b (from_place c before) (round_of (before ++ c ∷ []) (way_from n units rest (behind n units c)))) new

pub cycle_is : (n : Circuit) (wires : List ℕ) (units : ℕ) (next : Option WireChange) → next ≡ last_of n (first_wire n units wires) → found_on n units [] (most_places - 0) next ≡ cycle n wires units
unfolding cycle
cycle_is n wires units next is = let e : most_places - 0 ≡ most_places = omega arith in ap (λ k. found_on n units [] k next) e ∙ ap (found_on n units [] most_places) is

pub most_are : most_places ≡ 4294967295
unfolding most_places
most_are = refl
