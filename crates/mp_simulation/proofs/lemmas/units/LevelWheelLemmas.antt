-- Changes of level are scheduled: how often a number is in a slot, and what holds of each change.
use Rattle.std.proofs.Common.{◌≡◌, ◌≢◌, ℕ, ◌+◌, ◌<◌, ◌≤◌, Bool, true, false, cond, nat_lt, List, [], ◌∷◌, ◌++◌, All, length, refl, sym, ap, ◌∙◌, arith, get_or-set_same, get_or-set_other, subst}
use Rattle.std.specs.Prelude.{◌==◌, ◌&&◌, slice_index_or}
use Rattle.std.specs.List.{count_by, sum_by, flat_map}
use Rattle.std.proofs.lemmas.Bool.{eqb-true, eqb-false}
use Rattle.std.proofs.lemmas.Bool.Decides.{nat_tests}
use Rattle.std.proofs.lemmas.List.{length-set, set_past}
use Rattle.std.proofs.lemmas.List.Elements.{All-head, All-tail, All-push}
use Rattle.std.proofs.lemmas.List.Sums.{sum_by-append, sum_by-cons}
use Rattle.mp_modules.specs.automata.Codes.{bit}
use Rattle.mp_kernel.specs.declared.datapath.level_change.LevelChange.{LevelChange}
use Rattle.mp_kernel.specs.datapath.LevelWheels.{with_entry, scheduled}
use Rattle.mp_simulation.specs.units.DataLevels.{changes_of}
use Rattle.mp_simulation.specs.units.DataWheels.{data_slot}

-- the entry is of this number, so many units after the next
abbrev pub is_change : ℕ → ℕ → ℕ × LevelChange → Bool
is_change k x entry = entry.0 == k && entry.1.number == x

one_change : (x : ℕ) (c : LevelChange) → changes_of x (c ∷ []) ≡ bit (c.number == x)
one_change x c = omega arith

pub changes_append : (x : ℕ) (cs ds : List LevelChange) → changes_of x (cs ++ ds) ≡ changes_of x cs + changes_of x ds
changes_append x cs ds = sum_by-append (λ (d : LevelChange). cond (d.number == x) 1 0) cs ds

change_push : (x : ℕ) (c : LevelChange) (cs : List LevelChange) → changes_of x (cs ++ c ∷ []) ≡ changes_of x cs + bit (c.number == x)
change_push x c cs = changes_append x cs (c ∷ []) ∙ ap (λ n. changes_of x cs + n) (one_change x c)

push_at : (slots : List (List LevelChange)) (j : ℕ) (c : LevelChange) (k x : ℕ) (t : Bool) → k < length slots → (j == k) ≡ t →
    changes_of x (slice_index_or (with_entry slots j c) k []) ≡ changes_of x (slice_index_or slots k []) + bit (t && (c.number == x))
push_at slots j c k x true low is =
    let same : j ≡ k = eqb-true j k is in
    let here = slice_index_or slots k [] in
    subst (λ i. changes_of x (slice_index_or (with_entry slots i c) k []) ≡ changes_of x here + bit (c.number == x)) (sym same)
    (ap (λ (cs : List LevelChange). changes_of x cs) (get_or-set_same slots k (here ++ c ∷ []) [] low) ∙ change_push x c here)
push_at slots j c k x false low is =
    let other : k ≢ j = λ e. eqb-false j k is (sym e) in
    ap (λ (cs : List LevelChange). changes_of x cs) (get_or-set_other slots j k (slice_index_or slots j [] ++ c ∷ []) [] other) ∙ omega arith

one_counted : (k x : ℕ) (entry : ℕ × LevelChange) → count_by (is_change k x) (entry ∷ []) ≡ bit (is_change k x entry)
one_counted k x entry = omega arith

counted : (k x : ℕ) (entry : ℕ × LevelChange) (entries : List (ℕ × LevelChange)) →
    count_by (is_change k x) (entry ∷ entries) ≡ bit (is_change k x entry) + count_by (is_change k x) entries
counted k x entry entries =
    sum_by-append (λ e. cond (is_change k x e) 1 0) (entry ∷ []) entries ∙ ap (λ n. n + count_by (is_change k x) entries) (one_counted k x entry)

-- a number is in a slot as often as before, and once for each of its entries there
pub changes_each : (slots : List (List LevelChange)) (entries : List (ℕ × LevelChange)) (k x : ℕ) → k < length slots →
    changes_of x (data_slot (scheduled slots entries) k) ≡ changes_of x (data_slot slots k) + count_by (is_change k x) entries
changes_each slots [] k x low = omega arith
changes_each slots (entry ∷ entries) k x low =
    let long = length-set slots entry.0 (slice_index_or slots entry.0 [] ++ entry.1 ∷ []) in
    let rest = changes_each (with_entry slots entry.0 entry.1) entries k x (omega arith) in
    let here = push_at slots entry.0 entry.1 k x (entry.0 == k) low refl in
    let more = counted k x entry entries in
    omega arith

pub counted_both : (k x : ℕ) (one other : List (ℕ × LevelChange)) → count_by (is_change k x) (one ++ other) ≡ count_by (is_change k x) one + count_by (is_change k x) other
counted_both k x one other = sum_by-append (λ e. cond (is_change k x e) 1 0) one other

pub counted_flat : {A : Type 0} (k x : ℕ) (f : A → List (ℕ × LevelChange)) (due : List A) → count_by (is_change k x) (flat_map f due) ≡ sum_by (λ y. count_by (is_change k x) (f y)) due
counted_flat k x f [] = refl
counted_flat k x f (y ∷ due) =
    counted_both k x (f y) (flat_map f due)
    ∙ ap (λ s. count_by (is_change k x) (f y) + s) (counted_flat k x f due)
    ∙ sym (sum_by-cons (λ z. count_by (is_change k x) (f z)) y due)

-- what holds of each change in the slots, by the slot
abbrev pub HoldsIn : (ℕ → LevelChange → Type 0) → List (List LevelChange) → Type 0
HoldsIn P slots = (k : ℕ) → All (P k) (data_slot slots k)

push_holds : (P : ℕ → LevelChange → Type 0) (slots : List (List LevelChange)) (c : LevelChange) (k : ℕ) (low : Bool) → nat_lt k (length slots) ≡ low →
    All (P k) (data_slot slots k) → P k c → All (P k) (data_slot (with_entry slots k c) k)
push_holds P slots c k true low was holds =
    let within : k < length slots = grind (arith, nat_tests) in
    subst (λ (cs : List LevelChange). All (P k) cs) (sym (get_or-set_same slots k (data_slot slots k ++ c ∷ []) [] within)) (All-push (P k) (data_slot slots k) c was holds)
push_holds P slots c k false low was holds =
    let beyond : length slots ≤ k = grind (arith, nat_tests) in
    subst (λ (s : List (List LevelChange)). All (P k) (data_slot s k)) (sym (set_past slots k (data_slot slots k ++ c ∷ []) beyond)) was

entry_holds : (P : ℕ → LevelChange → Type 0) (slots : List (List LevelChange)) (j : ℕ) (c : LevelChange) (k : ℕ) (same : Bool) → (j == k) ≡ same → HoldsIn P slots → P j c →
    All (P k) (data_slot (with_entry slots j c) k)
entry_holds P slots j c k true is was holds =
    let e : k ≡ j = sym (eqb-true j k is) in
    subst (λ i. All (P i) (data_slot (with_entry slots j c) i)) (sym e) (push_holds P slots c j (nat_lt j (length slots)) refl (was j) holds)
entry_holds P slots j c k false is was holds =
    let other : k ≢ j = λ e. eqb-false j k is (sym e) in
    subst (λ (cs : List LevelChange). All (P k) cs) (sym (get_or-set_other slots j k (data_slot slots j ++ c ∷ []) [] other)) (was k)

abbrev pub HoldsOf : (ℕ → LevelChange → Type 0) → ℕ × LevelChange → Type 0
HoldsOf P entry = P entry.0 entry.1

pub holds_scheduled : (P : ℕ → LevelChange → Type 0) (slots : List (List LevelChange)) (entries : List (ℕ × LevelChange)) → HoldsIn P slots → All (HoldsOf P) entries →
    HoldsIn P (scheduled slots entries)
holds_scheduled P slots [] was each = was
holds_scheduled P slots (entry ∷ entries) was each =
    holds_scheduled P (with_entry slots entry.0 entry.1) entries
    (λ k. entry_holds P slots entry.0 entry.1 k (entry.0 == k) refl was (All-head (HoldsOf P) entry entries each))
    (All-tail (HoldsOf P) entry entries each)
