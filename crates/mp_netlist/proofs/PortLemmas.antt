-- What the checks of a new module's ports tell of each port.
use Rattle.std.proofs.Common.{◌≡◌, ◌≢◌, ℕ, zero, suc, Bool, true, not, List, [], ◌∷◌, get_or, Option, Some, None, refl, sym, ap, subst, ◌∙◌}
use Rattle.std.specs.List.{list_all, list_any}
use Rattle.std.specs.Str.{bytes_eq}
use Rattle.std.proofs.lemmas.Bool.{and_parts, or_right, or_left, not-true, both_ways}
use Rattle.mp_records.specs.declared.port_names.OutputName.{OutputName}
use Rattle.mp_netlist.specs.Edits.{driven_names, are_distinct}
use Rattle.mp_netlist.proofs.TableLemmas.{equal_name}

-- no port
abbrev pub no_name : OutputName
no_name = record { wire = None; delay = 1 }

abbrev pub name_first : Option (List ℕ) → List (List ℕ) → List (List ℕ)
name_first None names = names
name_first (Some name) names = name ∷ names

-- a test that all named wires pass is passed by the wire of each port
pub driven_pass : (test : List ℕ → Bool) (outputs : List OutputName) (p : ℕ) (name : List ℕ) → list_all test (driven_names outputs) ≡ true
    → (get_or outputs p no_name).wire ≡ Some name → test name ≡ true
driven_pass test [] p name all at = cc
driven_pass test (o ∷ os) zero name all at = by o.wire at all
  where
    by : (wire : Option (List ℕ)) → wire ≡ Some name → list_all test (name_first wire (driven_names os)) ≡ true → test name ≡ true
    by None at all = cc
    by (Some other) at all = let same : other ≡ name = cc in subst (λ q. test q ≡ true) same (and_parts (test other) _ all).0
driven_pass test (o ∷ os) (suc p) name all at = by o.wire all (λ rest. driven_pass test os p name rest at)
  where
    by : (wire : Option (List ℕ)) → list_all test (name_first wire (driven_names os)) ≡ true
        → (list_all test (driven_names os) ≡ true → test name ≡ true) → test name ≡ true
    by None all later = later all
    by (Some other) all later = later (and_parts (test other) _ all).1

-- a wire that a port names is among the named wires
named_among : (outputs : List OutputName) (p : ℕ) (name : List ℕ) → (get_or outputs p no_name).wire ≡ Some name → list_any (bytes_eq name) (driven_names outputs) ≡ true
named_among [] p name at = cc
named_among (o ∷ os) zero name at = by o.wire at
  where
    by : (wire : Option (List ℕ)) → wire ≡ Some name → list_any (bytes_eq name) (name_first wire (driven_names os)) ≡ true
    by None at = cc
    by (Some other) at = let same : name ≡ other = cc in or_left (bytes_eq name other) _ (equal_name name other same)
named_among (o ∷ os) (suc p) name at = by o.wire (named_among os p name at)
  where
    by : (wire : Option (List ℕ)) → list_any (bytes_eq name) (driven_names os) ≡ true → list_any (bytes_eq name) (name_first wire (driven_names os)) ≡ true
    by None later = later
    by (Some other) later = or_right (bytes_eq name other) _ later

distinct_rest : (o : OutputName) (os : List OutputName) → are_distinct (driven_names (o ∷ os)) ≡ true → are_distinct (driven_names os) ≡ true
distinct_rest o os distinct = by o.wire distinct
  where
    by : (wire : Option (List ℕ)) → are_distinct (name_first wire (driven_names os)) ≡ true → are_distinct (driven_names os) ≡ true
    by None distinct = distinct
    by (Some name) distinct = (and_parts (not (list_any (bytes_eq name) (driven_names os))) _ distinct).1

distinct_first : (o : OutputName) (os : List OutputName) (p : ℕ) (name : List ℕ) → are_distinct (driven_names (o ∷ os)) ≡ true → o.wire ≡ Some name → (get_or os p no_name).wire ≢ Some name
distinct_first o os p name distinct here there = by o.wire here distinct
  where
    by : (wire : Option (List ℕ)) → wire ≡ Some name → are_distinct (name_first wire (driven_names os)) ≡ true → ⊥
    by None here distinct = cc
    by (Some other) here distinct =
        let same : other ≡ name = cc in
        let none = not-true _ (and_parts (not (list_any (bytes_eq other) (driven_names os))) _ distinct).0 in
        both_ways _ none (named_among os p other (there ∙ ap Some (sym same)))

-- two ports of one wire are one port
pub distinct_ports : (outputs : List OutputName) (p q : ℕ) (name : List ℕ) → are_distinct (driven_names outputs) ≡ true
    → (get_or outputs p no_name).wire ≡ Some name → (get_or outputs q no_name).wire ≡ Some name → p ≡ q
distinct_ports [] p q name distinct a b = cc
distinct_ports (o ∷ os) zero zero name distinct a b = refl
distinct_ports (o ∷ os) zero (suc q) name distinct a b = absurd (distinct_first o os q name distinct a b)
distinct_ports (o ∷ os) (suc p) zero name distinct a b = absurd (distinct_first o os p name distinct b a)
distinct_ports (o ∷ os) (suc p) (suc q) name distinct a b = ap suc (distinct_ports os p q name (distinct_rest o os distinct) a b)
