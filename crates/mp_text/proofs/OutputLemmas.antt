-- The outputs of modules by name.
use Rattle.mp_text.proofs.Names.{◌≡◌, ◌<◌, ◌∷◌, ℕ, suc, Bool, true, false, not, List, [], length, map, get_or, All, Option, Some, None, option_map, is_some, refl, sym, ap, subst, ◌∙◌, arith, inl, inr, flat_map, list_all, list_any, enumerate_from, bytes_eq, All-cons, All-nil, All-head, All-get_or, All-from_get_or, WireId, ModuleRecord, Output, OutputName, SingleEdit, AddModule, added_module, output_in, Circuit, Drives, wire_at, stimulus_at, driver, is_nothing, is_port, stimulus_driver, driven_names, are_distinct, slot_within, no_name, name_in, wire_name, output_by_name, module_edits, list_all-from_AllPass, and_from, list_any_none, nat_tests}
use Rattle.std.proofs.Math.ListN.{get_or-map}
use Rattle.std.proofs.lemmas.List.FromFn.{get_or-enumerate_from, length-enumerate_from}
use Rattle.mp_netlist.proofs.DriverLemmas.{driven_by}
use Rattle.mp_text.proofs.SlotLemmas.{All-flat_map, All-from_flat_map, unequal_name}

-- an output of a list by name has the name of the output's wire
pub output_named : (n : Circuit) (outputs : List Output) (p : ℕ) → (get_or (map (output_by_name n) outputs) p no_name).wire ≡ option_map (wire_name n) (output_in outputs p).wire
output_named n outputs p = ap (λ (o : OutputName). o.wire) (get_or-map (output_by_name n) outputs p (record { wire = None; delay = 1 }))

-- the wire of an output that has a name
pub record IsOutput (n : Circuit) (outputs : List Output) (p : ℕ) (q : List ℕ) : Type 0 where
  pub wire : WireId
  pub drives : (output_in outputs p).wire ≡ Some wire
  pub name : wire_name n wire ≡ q

pub is_output : (n : Circuit) (outputs : List Output) (p : ℕ) (q : List ℕ) → (get_or (map (output_by_name n) outputs) p no_name).wire ≡ Some q → IsOutput n outputs p q
is_output n outputs p q is = grind (arith, output_named)

-- the edit adds no output of this name
abbrev pub DrivesNone : List ℕ → SingleEdit → Type 0
DrivesNone q (AddModule new) = (p : ℕ) → (get_or new.outputs p no_name).wire ≡ Some q → ⊥
DrivesNone q _ = Unit {0}

-- no port drives a wire whose name no output has
pub undriven_by_name : (c : Circuit) (w : ℕ) (q : List ℕ) → name_in (wire_at c w) ≡ q → All (DrivesNone q) (flat_map (module_edits c) c.modules) → (m p : ℕ) → Drives c m p w → ⊥
undriven_by_name c w q name all m p drives =
    let within = slot_within c.modules m (ap is_some drives.stands) in
    let here = All-get_or (λ slot. All (DrivesNone q) (module_edits c slot)) c.modules m None within (All-from_flat_map (DrivesNone q) (module_edits c) c.modules all) in
    let there = subst (λ slot. All (DrivesNone q) (module_edits c slot)) drives.stands here in
    All-head (DrivesNone q) (added_module c drives.part) [] there p (output_named c drives.part.outputs p ∙ ap (option_map (wire_name c)) drives.output ∙ ap Some name)

-- where no module has an output of the name, no edit has
pub drives_none : (n : Circuit) (q : List ℕ) (slots : List (Option ModuleRecord))
    → ((k p : ℕ) (s : ModuleRecord) (w : WireId) → k < length slots → get_or slots k None ≡ Some s → (output_in s.outputs p).wire ≡ Some w → wire_name n w ≡ q → ⊥)
    → All (DrivesNone q) (flat_map (module_edits n) slots)
drives_none n q slots nobody =
    All-flat_map (DrivesNone q) (module_edits n) slots (All-from_get_or (λ slot. All (DrivesNone q) (module_edits n slot)) slots None (λ k within. by k within (get_or slots k None) refl))
  where
    by : (k : ℕ) → k < length slots → (slot : Option ModuleRecord) → get_or slots k None ≡ slot → All (DrivesNone q) (module_edits n slot)
    by k within None at = All-nil (DrivesNone q)
    by k within (Some s) at =
        All-cons (DrivesNone q) (added_module n s) [] (λ p is. let o = is_output n s.outputs p q is in nobody k p s o.wire within at o.drives o.name) (All-nil (DrivesNone q))

-- a wire that no port drives
no_port_driver : (c : Circuit) (w : ℕ) → ((m p : ℕ) → Drives c m p w → ⊥) → driver c w ≡ stimulus_driver (stimulus_at c w)
no_port_driver c w none = elim (driven_by c w) [
  | inl found ↦ absurd (none found.0 found.1 found.2)
  | inr same ↦ same
]

-- nothing drives it where nothing is set on it
pub is_nothing_driven : (c : Circuit) (w : ℕ) → ((m p : ℕ) → Drives c m p w → ⊥) → stimulus_at c w ≡ None → is_nothing (driver c w) ≡ true
is_nothing_driven c w none unset = ap is_nothing (no_port_driver c w none ∙ ap stimulus_driver unset)

pub is_no_port : (c : Circuit) (w : ℕ) → ((m p : ℕ) → Drives c m p w → ⊥) → is_port (driver c w) ≡ false
is_no_port c w none = ap is_port (no_port_driver c w none) ∙ grind (arith, nat_tests)

abbrev name_first : Option (List ℕ) → List (List ℕ) → List (List ℕ)
name_first None names = names
name_first (Some name) names = name ∷ names

-- what holds of each output's name holds of all names
driven_each : (P : List ℕ → Type 0) (outputs : List OutputName) → ((p : ℕ) (q : List ℕ) → (get_or outputs p no_name).wire ≡ Some q → P q) → All P (driven_names outputs)
driven_each P [] each = All-nil P
driven_each P (o ∷ os) each = grind (arith, nat_tests, All-cons, (each 0), (driven_each P os (λ p q at. each (suc p) q at)))

pub driven_all : (test : List ℕ → Bool) (outputs : List OutputName) → ((p : ℕ) (q : List ℕ) → (get_or outputs p no_name).wire ≡ Some q → test q ≡ true) → list_all test (driven_names outputs) ≡ true
driven_all test outputs each = list_all-from_AllPass test (driven_names outputs) (driven_each (λ q. test q ≡ true) outputs each)

-- outputs no two of which have one name have distinct names
pub driven_distinct : (outputs : List OutputName) → ((p q : ℕ) (name : List ℕ) → (get_or outputs p no_name).wire ≡ Some name → (get_or outputs q no_name).wire ≡ Some name → p ≡ q)
    → are_distinct (driven_names outputs) ≡ true
driven_distinct [] each = refl
driven_distinct (o ∷ os) each =
    by o.wire refl (driven_distinct os (λ p q name a b. let same : suc p ≡ suc q = each (suc p) (suc q) name a b in omega arith))
  where
    other : (name : List ℕ) → o.wire ≡ Some name → (p : ℕ) (q : List ℕ) → (get_or os p no_name).wire ≡ Some q → bytes_eq name q ≡ false
    other name at p q is = unequal_name name q (λ e. let same : 0 ≡ suc p = each 0 (suc p) name at (is ∙ ap Some (sym e)) in omega arith)

    by : (wire : Option (List ℕ)) → o.wire ≡ wire → are_distinct (driven_names os) ≡ true → are_distinct (name_first wire (driven_names os)) ≡ true
    by None at rest = rest
    by (Some name) at rest = and_from (not (list_any (bytes_eq name) (driven_names os))) (are_distinct (driven_names os)) (ap not (list_any_none (bytes_eq name) (driven_names os) (driven_each (λ q. bytes_eq name q ≡ false) os (other name at)))) rest

-- a test that each place of a list passes, counted
pub counted_all : {X : Type 0} (test : ℕ × X → Bool) (xs : List X) (d : X) → ((k : ℕ) → k < length xs → test (k, get_or xs k d) ≡ true) → list_all test (enumerate_from 0 xs) ≡ true
counted_all {X = X} test xs d each =
    list_all-from_AllPass test (enumerate_from 0 xs) (All-from_get_or (λ pair. test pair ≡ true) (enumerate_from 0 xs) (0, d) (λ k long.
    grind (arith, (each k), (length-enumerate_from 0 xs), (get_or-enumerate_from 0 xs k (0, d)))))
