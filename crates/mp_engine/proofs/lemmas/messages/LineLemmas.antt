-- Which parts have lines to another.
use Rattle.std.proofs.Common.{◌≡◌, ◌≢◌, ◌⊎◌, ℕ, ◌+◌, ◌<◌, ◌≤◌, Bool, true, false, cond, nat_lt, List, [], ◌∷◌, ◌++◌, None, is_some, length, map, take, drop, set, slice_index_or, refl, sym, ap, ◌∙◌, arith, inl, inr}
use Rattle.std.specs.Prelude.{◌==◌, ◌&&◌}
use Rattle.std.proofs.lemmas.Bool.{cases_eq, cases_lt, lt-ltb, le-ltb, eq-eqb, ne_eqb}
use Rattle.std.proofs.lemmas.List.{get_or_past, get_or_push, get_or_append_left, length_push, take_all, take-append-le, map-set, set-get_or, length-map}
use Rattle.std.proofs.lemmas.List.Sums.{sum_by-cons}
use Rattle.mp_netlist.specs.Circuit.{Circuit, wire_at}
use Rattle.mp_modules.specs.automata.Codes.{bit}
use Rattle.mp_kernel.specs.events.Adding.{listed}
use Rattle.mp_simulation.proofs.lemmas.bits.ListedLemmas.{listed_append}
use Rattle.mp_partition.specs.runs.Marks.{is_marked}
use Rattle.mp_partition.specs.regions.Regions.{partition_of}
use Rattle.mp_partition.specs.regions.Divisions.{heard_by, IsDivision}
use Rattle.mp_engine.specs.declared.messages.message.Subject.{Ghosts}
use Rattle.mp_engine.specs.declared.messages.channels.Channels.{Channels}
use Rattle.mp_engine.specs.messages.Messages.{IsToldOnce}
use Rattle.mp_engine.specs.messages.Mails.{AreNumbered}

one_listed : (k by : ℕ) → listed k (by ∷ []) ≡ cond (by == k) 1 0 + 0
one_listed k by = sum_by-cons (λ d. cond (d == k) 1 0) by []

plain : (mark : Bool) → bit (true && mark) + (cond false 1 0 + 0) ≡ bit (true && mark)
plain true = refl
plain false = refl

-- one more is marked, and has a line
pub line_added : (marks : List Bool) (by k : ℕ) (bys : List ℕ) → listed k bys ≡ bit (nat_lt k by && is_marked marks k) → is_marked marks by ≡ true
    → listed k (bys ++ by ∷ []) ≡ bit (nat_lt k (by + 1) && is_marked marks k)
line_added marks by k bys before marked =
    listed_append k bys (by ∷ [])
    ∙ ap (λ j. j + listed k (by ∷ [])) before
    ∙ ap (λ j. bit (nat_lt k by && is_marked marks k) + j) (one_listed k by)
    ∙ at (cases_lt k by) (cases_eq by k)
  where
    at : (k < by) ⊎ (by ≤ k) → (by ≡ k) ⊎ (by ≢ k) → bit (nat_lt k by && is_marked marks k) + (cond (by == k) 1 0 + 0) ≡ bit (nat_lt k (by + 1) && is_marked marks k)
    at (inl low) same = rw (lt-ltb k by low, lt-ltb k (by + 1) (omega (arith, low)), ne_eqb by k (λ e. omega (arith, low, e))) (plain (is_marked marks k))
    at (inr past) (inl same) = rw (le-ltb k by past, lt-ltb k (by + 1) (omega (arith, same)), eq-eqb by k same, ap (is_marked marks) (sym same) ∙ marked) refl
    at (inr past) (inr apart) = rw (le-ltb k by past, le-ltb k (by + 1) (omega (arith, past, apart)), ne_eqb by k apart) refl

-- the next isn't marked
pub line_left_out : (marks : List Bool) (by k : ℕ) (bys : List ℕ) → listed k bys ≡ bit (nat_lt k by && is_marked marks k) → is_marked marks by ≡ false
    → listed k bys ≡ bit (nat_lt k (by + 1) && is_marked marks k)
line_left_out marks by k bys before unmarked = before ∙ at (cases_lt k by) (cases_eq by k)
  where
    at : (k < by) ⊎ (by ≤ k) → (by ≡ k) ⊎ (by ≢ k) → bit (nat_lt k by && is_marked marks k) ≡ bit (nat_lt k (by + 1) && is_marked marks k)
    at (inl low) same = rw (lt-ltb k by low, lt-ltb k (by + 1) (omega (arith, low))) refl
    at (inr past) (inl same) = rw (le-ltb k by past, lt-ltb k (by + 1) (omega (arith, same)), ap (is_marked marks) (sym same) ∙ unmarked) refl
    at (inr past) (inr apart) = rw (le-ltb k by past, le-ltb k (by + 1) (omega (arith, past, apart))) refl

-- where the homes of all that is heard are marked, just one line tells of each wire that is driven
pub told_once : (n : Circuit) (homes wires : List ℕ) (heards : List (List Bool)) (parts part : ℕ) (marks : List Bool) (bys : List ℕ) → IsDivision n homes wires heards parts
    → ((w : ℕ) → w < length n.wires → is_marked (heard_by heards part) w ≡ true → partition_of wires w < parts → is_marked marks (partition_of wires w) ≡ true)
    → ((k : ℕ) → listed k bys ≡ bit (is_marked marks k)) → IsToldOnce n wires (heard_by heards part) bys
told_once n homes wires heards parts part marks bys is marked lines m p w drives heard =
    let home = (is.at_home m).driven p w drives in
    let few = is.few m in
    lines (partition_of wires w) ∙ ap bit (marked w (within (cases_lt w (length n.wires)) (is.heard part w heard).stands) heard (omega (arith, home, few)))
  where
    within : (w < length n.wires) ⊎ (length n.wires ≤ w) → is_some (wire_at n w) ≡ true → w < length n.wires
    within (inl low) some = low
    within (inr past) some = absurd (let none = get_or_past n.wires w None past in let no : ⊥ = cc in no)

-- the mail of the next part comes behind those before
module _ {J : Type 0} {subject : Ghosts J} where
  pub numbered_more : (mails more : List (Channels J subject)) (channels : Channels J subject) → more ≡ mails ++ channels ∷ [] → channels.part ≡ length mails → AreNumbered mails → AreNumbered more
  numbered_more mails more channels is part before k d within = elim (cases_lt k (length mails)) as (λ _. (slice_index_or more k d).part ≡ k) [
    | inl low ↦ ap (λ (xs : List (Channels J subject)). (slice_index_or xs k d).part) is ∙ ap (λ (x : Channels J subject). x.part) (get_or_append_left mails (channels ∷ []) d k low) ∙ before k d low
    | inr past ↦
        let long = ap (length {A = Channels J subject}) is ∙ length_push mails channels in
        let last : length mails ≡ k = omega (arith, past, within, long) in
        ap (λ (xs : List (Channels J subject)). (slice_index_or xs k d).part) is ∙ ap (λ (x : Channels J subject). x.part) (get_or_push mails channels d k last) ∙ part ∙ last
  ]

module _ {A : Type 0} where
  -- an item is written over by one of which the same is said
  pub map_same : {B : Type 0} (f : A → B) (xs : List A) (i : ℕ) (y d : A) → f y ≡ f (slice_index_or xs i d) → map f (set xs i y) ≡ map f xs
  map_same f xs i y d same = map-set f xs i y ∙ ap (set (map f xs) i) same ∙ sym (map-set f xs i (slice_index_or xs i d)) ∙ ap (map f) (set-get_or xs i d)

  -- what is written back in the place of items of which the same is said
  pub written : {B : Type 0} (f : A → B) (n : ℕ) (xs ys : List A) → map f xs ≡ map f ys → n ≡ length ys → take n (xs ++ drop (length xs) ys) ≡ xs
  written f n xs ys same long =
      let as_long : length xs ≡ n = sym (length-map xs f) ∙ ap (length) same ∙ length-map ys f ∙ sym long in
      take-append-le n xs (drop (length xs) ys) (omega arith) ∙ take_all n xs (omega arith)

  -- so the same is said of what is written back
  pub written_same : {B : Type 0} (f : A → B) (n : ℕ) (xs ys : List A) → map f xs ≡ map f ys → n ≡ length ys → map f (take n (xs ++ drop (length xs) ys)) ≡ map f ys
  written_same f n xs ys same long = ap (map f) (written f n xs ys same long) ∙ same
