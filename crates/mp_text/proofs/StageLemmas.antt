-- Edits, slot by slot, that no check refuses.
use Rattle.mp_text.proofs.Names.{◌≡◌, ◌≤◌, ◌∷◌, ◌++◌, ℕ, Bool, true, false, List, [], append_assoc, All, Option, None, Some, Ok, length, refl, sym, ap, subst, arith, flat_map, flat_map-append, append-nil, length_push, bytes_eq, All-cons, All-nil, All-head, All-weaker, SingleEdit, AddModule, AddBundle, EditError, Circuit, go_on, after_single, unless, refusal, edited, first_failing, replay_singles, edit_for, nat_tests}
use Rattle.mp_text.proofs.SlotLemmas.{All-flat_map, All-from_flat_map, Unnamed}

-- each check passes
abbrev pub AllPass : List (Bool × EditError) → Type 0
AllPass [] = Unit {0}
AllPass (check ∷ checks) = (check.0 ≡ true) × AllPass checks

-- where each check passes none fails
pub none_failing : (checks : List (Bool × EditError)) → AllPass checks → first_failing checks ≡ None
none_failing [] all = refl
none_failing (check ∷ checks) all = grind (arith, (none_failing checks all.1))

-- an edit that no check refuses is done
pub is_done : (c : Circuit) (edit : SingleEdit) → refusal c edit ≡ None → after_single c edit ≡ Ok (edited c edit)
is_done c edit none = ap (λ e. unless e (edited c edit)) none

-- the edits lead to a netlist of which something holds
pub record Reaches (P : Circuit → Type 0) (c : Circuit) (edits : List SingleEdit) : Type 0 where
  pub goal : Circuit
  pub holds : P goal
  pub leads : (rest : List SingleEdit) → replay_singles c (edits ++ rest) ≡ replay_singles goal rest

pub Reaches-none : (P : Circuit → Type 0) (c : Circuit) → P c → Reaches P c []
Reaches-none P c holds = record { goal = c; holds = holds; leads = λ rest. refl }

pub Reaches-one : (P : Circuit → Type 0) (c d : Circuit) (edit : SingleEdit) → after_single c edit ≡ Ok d → P d → Reaches P c (edit ∷ [])
Reaches-one P c d edit done holds = record { goal = d; holds = holds; leads = λ rest. ap (go_on (λ next. replay_singles next rest)) done }

-- from each netlist for what is in front the edits of a slot lead to one for what is in front with it
abbrev pub Steps : {R : Type 0} → List (Option R) → (Option R → List SingleEdit) → (List (Option R) → List (Option R) → Circuit → Type 0) → Type 0
Steps {R} slots edits At =
    (front back : List (Option R)) (slot : Option R) → slots ≡ front ++ slot ∷ back → (c : Circuit) → At front (slot ∷ back) c → Reaches (At (front ++ slot ∷ []) back) c (edits slot)

pub stage : {R : Type 0} (slots : List (Option R)) (edits : Option R → List SingleEdit) (At : List (Option R) → List (Option R) → Circuit → Type 0) → Steps slots edits At
    → (back front : List (Option R)) → slots ≡ front ++ back → (c : Circuit) → At front back c → Reaches (At slots []) c (flat_map edits back)
stage slots edits At step [] front same c holds = grind (arith, Reaches-none, append-nil)
stage slots edits At step (slot ∷ back) front same c holds = grind (arith, nat_tests, append_assoc, (stage slots edits At step back (front ++ slot ∷ [])))

-- the edit adds no module and no bundle of this name
abbrev AddsNone : List ℕ → SingleEdit → Type 0
AddsNone q (AddModule new) = bytes_eq q new.name ≡ false
AddsNone q (AddBundle new) = bytes_eq q new.name ≡ false
AddsNone q _ = Unit {0}

-- the edits that add the things of the slots, and those that add again what they built
module _ {R : Type 0} (slots : List (Option R)) (add again : R → SingleEdit) (build : List (Option R) → Circuit) where
  -- the things of the front are added
  pub record Added (front back : List (Option R)) (c : Circuit) : Type 0 where
    pub things : List (Option R)
    pub is : c ≡ build things
    pub same : flat_map (edit_for again) things ≡ flat_map (edit_for add) front
    pub few : length things ≤ length front

  -- a thing is added behind others
  pub record AddsOne (r : R) (things : List (Option R)) : Type 0 where
    pub new : R
    pub done : after_single (build things) (add r) ≡ Ok (build (things ++ Some new ∷ []))
    pub same : again new ≡ add r

  abbrev pub AddsEach : Type 0
  AddsEach = (front back : List (Option R)) (r : R) → slots ≡ front ++ Some r ∷ back
      → (things : List (Option R)) → flat_map (edit_for again) things ≡ flat_map (edit_for add) front → length things ≤ length front → AddsOne r things

  add_step : AddsEach → Steps slots (edit_for add) Added
  add_step adds front back None split c at = grind (arith, nat_tests, Reaches-none, flat_map-append, append-nil, length_push)
  add_step adds front back (Some r) split c at =
      let one = adds front back r split at.things at.same at.few in
      let things = at.things ++ Some one.new ∷ [] in
      let same : flat_map (edit_for again) things ≡ flat_map (edit_for add) (front ++ Some r ∷ []) = grind (arith, flat_map-append, at.same, one.same) in
      subst (λ d. Reaches (Added (front ++ Some r ∷ []) back) d (add r ∷ [])) (sym at.is)
      (Reaches-one (Added (front ++ Some r ∷ []) back) (build at.things) (build things) (add r) one.done
      (record { things = things; is = refl; same = same; few = omega (arith, at.few, length_push at.things (Some one.new), length_push front (Some r)) }))

  pub added_reached : AddsEach → Reaches (Added slots []) (build []) (flat_map (edit_for add) slots)
  added_reached adds = stage slots (edit_for add) Added (add_step adds) slots [] refl (build []) (record { things = []; is = refl; same = refl; few = omega arith })

  -- things that the edits add again have no name that those in front don't have
  module _ (name_of : R → List ℕ) (q : List ℕ) (adds : (r : R) → bytes_eq q (name_of r) ≡ false → AddsNone q (add r)) (named : (r : R) → AddsNone q (again r) → bytes_eq q (name_of r) ≡ false) where
    pub unnamed_again : (front things : List (Option R)) → flat_map (edit_for again) things ≡ flat_map (edit_for add) front → All (Unnamed name_of q) front → All (Unnamed name_of q) things
    unnamed_again front things same old =
        let before = All-flat_map (AddsNone q) (edit_for add) front (All-weaker (Unnamed name_of q) (λ slot. All (AddsNone q) (edit_for add slot)) (λ slot none. grind (arith, nat_tests, All-nil, All-cons)) front old) in
        All-weaker (λ slot. All (AddsNone q) (edit_for again slot)) (Unnamed name_of q) (λ slot none. grind (arith, nat_tests, All-head)) things
        (All-from_flat_map (AddsNone q) (edit_for again) things (subst (All (AddsNone q)) (sym same) before))
