-- What is known of the wires that modules are at, when one of them changes.
use Rattle.std.proofs.Common.{◌≡◌, ℕ, ◌+◌, ◌<◌, ◌≤◌, suc, Bool, true, false, ◌==◌, ◌||◌, List, [], ◌∷◌, length, get_or, take, cond, Bor, IfSome, Option, None, Some, ◌⊎◌, inl, inr, refl, sym, ap, subst, ◌∙◌, arith, true≢false}
use Rattle.std.proofs.lemmas.List.Folds.{list_any_more, list_any_at}
use Rattle.std.specs.List.{list_any, slice_get}
use Rattle.std.specs.Option.{option_copied}
use Rattle.std.proofs.lemmas.Option.{slice_get_within, get_or_from_slice_get}
use Rattle.std.proofs.lemmas.Bool.{cases_lt, cases_Bool, or_cases, or_parts, or_left, or_right, eqb-true}
use Rattle.std.proofs.lemmas.List.{get_or_past}
use Rattle.mp_records.specs.declared.module_record.ModuleRecord.{ModuleRecord}
use Rattle.mp_records.specs.declared.ports.Input.{Input}
use Rattle.mp_records.specs.declared.ports.Output.{Output}
use Rattle.mp_records.specs.NamedWires.{is_wire, module_names}
use Rattle.mp_netlist.specs.declared.wire_knowledge.WireKnowledge.{WireKnowledge}
use Rattle.mp_netlist.specs.declared.wire_knowledge.WireKnowledge.TheVariants.{At}
use Rattle.mp_netlist.specs.Slots.{has_name, stands_and}
use Rattle.mp_netlist.specs.Tables.{KeepsNames}
use Rattle.mp_netlist.specs.Drivers.{port_from, port_of}
use Rattle.mp_netlist.specs.Around.{is_in, row_at, HasGrown}
use Rattle.mp_netlist.specs.Knowledge.{Knows, AreKnown}
use Rattle.mp_netlist.proofs.TableLemmas.{equal_name}

-- what is noted of the wires so far, and of one more, is noted of one more
pub noted_more : {X : Type 0} (q : ℕ → X → Bool) (old mid new : List (List ℕ)) (m : ℕ) (xs : List X) (p : ℕ) (d : X) → p < length xs → HasGrown old mid → HasGrown mid new
    → ((w : ℕ) → w < length old → list_any (q w) (take p xs) ≡ true → is_in m (row_at mid w) ≡ true)
    → ((w : ℕ) → w < length mid → q w (get_or xs p d) ≡ true → is_in m (row_at new w) ≡ true)
    → (w : ℕ) → w < length old → list_any (q w) (take (p + 1) xs) ≡ true → is_in m (row_at new w) ≡ true
noted_more q old mid new m xs p d within one other before now w low any =
    by (or_cases (list_any (q w) (take p xs)) (q w (get_or xs p d)) (sym (list_any_more (q w) xs p d within) ∙ any))
  where
    by : (list_any (q w) (take p xs) ≡ true) ⊎ (q w (get_or xs p d) ≡ true) → is_in m (row_at new w) ≡ true
    by (inl had) = other.kept w m (before w low had)
    by (inr here) = now w (omega (arith, low, one.places)) here

-- what holds of the modules so far, and of one more, holds of one more
pub in_more : (P : ℕ → Type 0) (row : List ℕ) (i d : ℕ) → i < length row → ((k : ℕ) → is_in k (take i row) ≡ true → P k) → P (get_or row i d) → (k : ℕ) → is_in k (take (i + 1) row) ≡ true → P k
in_more P row i d within before here k is = by (or_cases (is_in k (take i row)) (get_or row i d == k) (sym (list_any_more (λ x. x == k) row i d within) ∙ is))
  where
    by : (is_in k (take i row) ≡ true) ⊎ ((get_or row i d == k) ≡ true) → P k
    by (inl had) = before k had
    by (inr same) = subst P (eqb-true (get_or row i d) k same) here

in_either_place : (x y : Bool) → {P : Type 0} → (x ≡ true → P) → (y ≡ true → P) → (x || y) ≡ true → P
in_either_place x y {P = P} one other any = by (or_cases x y any)
  where
    by : (x ≡ true) ⊎ (y ≡ true) → P
    by (inl here) = one here
    by (inr there) = other there

any_in : (test : ℕ → Bool) (row : List ℕ) (m : ℕ) → is_in m row ≡ true → test m ≡ true → list_any test row ≡ true
any_in test [] m is passes = cc
any_in test (k ∷ row) m is passes =
    in_either_place (k == m) (is_in m row)
    (λ same. or_left (test k) (list_any test row) (ap test (eqb-true k m same) ∙ passes))
    (λ there. or_right (test k) (list_any test row) (any_in test row m there passes)) is

any_of : {P : Type 0} (test : ℕ → Bool) (row : List ℕ) → ((k : ℕ) → test k ≡ true → P) → list_any test row ≡ true → P
any_of test [] found any = cc
any_of test (k ∷ row) found any = in_either_place (test k) (list_any test row) (found k) (any_of test row found) any

any_slot : {P : Type 0} {X : Type 0} (test : X → Bool) (xs : List X) (d : X) → ((k : ℕ) → test (get_or xs k d) ≡ true → P) → list_any test xs ≡ true → P
any_slot test [] d found any = cc
any_slot test (x ∷ xs) d found any = in_either_place (test x) (list_any test xs) (found 0) (any_slot test xs d (λ k. found (suc k))) any

both_same : (a b : Bool) → (a ≡ true → b ≡ true) → (b ≡ true → a ≡ true) → a ≡ b
both_same true true one other = refl
both_same true false one other = sym (one refl)
both_same false true one other = other refl
both_same false false one other = refl

-- what passes a test is among the modules of a row, so these decide
pub row_decides : (test : Option ModuleRecord → Bool) → test None ≡ false → (slots : List (Option ModuleRecord)) (row : List ℕ)
    → ((m : ℕ) → test (get_or slots m None) ≡ true → is_in m row ≡ true) → list_any (λ m. test (get_or slots m None)) row ≡ list_any test slots
row_decides test none slots row noted = both_same _ _ (any_of (λ m. test (get_or slots m None)) row found) (any_slot test slots None back)
  where
    found : (k : ℕ) → test (get_or slots k None) ≡ true → list_any test slots ≡ true
    found k is = by (cases_lt k (length slots))
      where
        by : (k < length slots) ⊎ (length slots ≤ k) → list_any test slots ≡ true
        by (inl within) = list_any_at test slots k None within is
        by (inr past) = let other = sym is ∙ ap test (get_or_past slots k None past) ∙ none in cc

    back : (k : ℕ) → test (get_or slots k None) ≡ true → list_any (λ m. test (get_or slots m None)) row ≡ true
    back k is = any_in (λ m. test (get_or slots m None)) row k (noted k is) is

-- a known module whose record passes a test is among those that are known to
pub known_row : (known : WireKnowledge) (slots : List (Option ModuleRecord)) (test : ModuleRecord → Bool) (row : List ℕ) → AreKnown known slots
    → ((m : ℕ) (r : ModuleRecord) → Knows known m r → test r ≡ true → is_in m row ≡ true)
    → (m : ℕ) → stands_and test (get_or slots m None) ≡ true → is_in m row ≡ true
known_row known slots test row are noted m is = by (get_or slots m None) refl is
  where
    by : (slot : Option ModuleRecord) → get_or slots m None ≡ slot → stands_and test slot ≡ true → is_in m row ≡ true
    by None at passes = absurd (true≢false (sym passes))
    by (Some r) at passes = noted m r (are m r at) passes

-- so it is of each row that may be had
pub known_rows : (known : WireKnowledge) (slots : List (Option ModuleRecord)) (test : ModuleRecord → Bool) → AreKnown known slots → (found : Option (Bor (List ℕ)))
    → IfSome found (λ row. (m : ℕ) (r : ModuleRecord) → Knows known m r → test r ≡ true → is_in m row.now ≡ true)
    → IfSome found (λ row. (m : ℕ) → stands_and test (get_or slots m None) ≡ true → is_in m row.now ≡ true)
known_rows known slots test are None noted = tt
known_rows known slots test are (Some row) noted = known_row known slots test row.now are noted

none_drives : (k : ℕ) (os : List Output) (w : ℕ) → list_any (λ (o : Output). is_wire o.wire w) os ≡ false → port_from k os w ≡ None
none_drives k [] w none = refl
none_drives k (o ∷ os) w none =
    let parts = or_parts (is_wire o.wire w) (list_any (λ (o : Output). is_wire o.wire w) os) none in
    ap (λ b. cond b (Some k) (port_from (k + 1) os w)) parts.0 ∙ none_drives (k + 1) os w parts.1

-- a module that isn't at a wire doesn't drive it
pub unnamed_undriven : (w : ℕ) (r : ModuleRecord) → module_names w r ≡ false → port_from 0 r.outputs w ≡ None
unnamed_undriven w r none =
    none_drives 0 r.outputs w (or_parts (list_any (λ (i : Input). i.wire.0 == w) r.inputs) (list_any (λ (o : Output). is_wire o.wire w) r.outputs) none).1

-- nor does one that is not in the wire's row
pub unrowed_undriven : (rows : List (List ℕ)) (w m : ℕ) (r : ModuleRecord) → w < length rows → (w < length rows → module_names w r ≡ true → is_in m (row_at rows w) ≡ true)
    → is_in m (row_at rows w) ≡ false → port_from 0 r.outputs w ≡ None
unrowed_undriven rows w m r within noted out = by (cases_Bool (module_names w r))
  where
    by : (module_names w r ≡ true) ⊎ (module_names w r ≡ false) → port_from 0 r.outputs w ≡ None
    by (inl names) = absurd (true≢false (sym (noted within names) ∙ out))
    by (inr none) = unnamed_undriven w r none

-- what is got of a row has the modules that may drive its wire
pub got_drivers : (rows : List (List ℕ)) (w : ℕ) (found : Option (Bor (List ℕ))) → option_copied found ≡ slice_get rows w
    → IfSome found (λ row. (m : ℕ) (r : ModuleRecord) → Knows (At rows) m r → is_in m row.now ≡ false → port_from 0 r.outputs w ≡ None)
got_drivers rows w None got = tt
got_drivers rows w (Some row) got = λ m r knows out.
    let is : row_at rows w ≡ row.now = get_or_from_slice_get rows w row.now [] (sym got) in
    unrowed_undriven rows w m r (slice_get_within rows w row.now (sym got)) (knows w) (ap (is_in m) is ∙ out)

-- a wire without a mark is a new one that the module isn't at, or has none of its ports as its driver
pub unmarked_undriven : (w v : ℕ) (r : ModuleRecord) → module_names v r ≡ false → (w ≡ v) ⊎ (port_from 0 r.outputs w ≡ None) → port_from 0 r.outputs w ≡ None
unmarked_undriven w v r none (inl same) = subst (λ u. port_from 0 r.outputs u ≡ None) (sym same) (unnamed_undriven v r none)
unmarked_undriven w v r none (inr undriven) = undriven

-- a wire that no known module of a row drives, and no other may drive, has no driver
pub row_drives_none : (known : WireKnowledge) (slots : List (Option ModuleRecord)) (w : ℕ) (row : List ℕ) → AreKnown known slots
    → ((m : ℕ) (r : ModuleRecord) → Knows known m r → is_in m row ≡ false → port_from 0 r.outputs w ≡ None)
    → ((m : ℕ) → is_in m row ≡ true → port_of (get_or slots m None) w ≡ None)
    → (m : ℕ) → port_of (get_or slots m None) w ≡ None
row_drives_none known slots w row are others none m = by (cases_Bool (is_in m row))
  where
    at_slot : is_in m row ≡ false → (slot : Option ModuleRecord) → get_or slots m None ≡ slot → port_of slot w ≡ None
    at_slot out None at = refl
    at_slot out (Some r) at = others m r (are m r at) out

    by : (is_in m row ≡ true) ⊎ (is_in m row ≡ false) → port_of (get_or slots m None) w ≡ None
    by (inl is) = none m is
    by (inr out) = at_slot out (get_or slots m None) refl

-- what keeps the names of a slot is within the slots, or nothing
pub kept_within : (name_of : ModuleRecord → List ℕ) (slots : List (Option ModuleRecord)) (i : ℕ) (slot : Option ModuleRecord) → KeepsNames name_of (get_or slots i None) slot
    → (i < length slots) ⊎ (slot ≡ None)
kept_within name_of slots i None keeps = inr refl
kept_within name_of slots i (Some r) keeps = by (cases_lt i (length slots))
  where
    by : (i < length slots) ⊎ (length slots ≤ i) → (i < length slots) ⊎ (Some r ≡ None)
    by (inl within) = inl within
    by (inr past) =
        let has = keeps (name_of r) (equal_name (name_of r) (name_of r) refl) in
        absurd (true≢false (sym has ∙ ap (has_name name_of (name_of r)) (get_or_past slots i None past)))
