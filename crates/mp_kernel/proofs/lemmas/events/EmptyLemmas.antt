-- Wheels in which nothing is.
use Rattle.std.proofs.Common.{◌≡◌, ℕ, zero, suc, ◌<◌, true, List, [], ◌∷◌, ◌++◌, length, take, drop, sym, ap, ◌∙◌, arith, subst, refl}
use Rattle.std.specs.Prelude.{◌&&◌, slice_index_or}
use Rattle.std.specs.List.{list_all}
use Rattle.std.proofs.lemmas.Bool.{eqb-true, and_parts}
use Rattle.std.proofs.lemmas.List.{append-nil}
use Rattle.std.proofs.lemmas.List.Elements.{All-nil, All-cons, All-head, All-tail, All-append, All-take, All-drop}
use Rattle.mp_kernel.specs.events.EventWheels.{is_empty, AreEmpty}

-- the first slot goes, and another one comes behind the last
pub empty_next : {A : Type 0} (slots : List (List A)) → AreEmpty slots → slice_index_or slots 0 [] ≡ []
empty_next [] empty = refl
empty_next (slot ∷ slots) empty = All-head (λ s. s ≡ []) slot slots empty

one_more : {A : Type 0} (slots : List (List A)) → AreEmpty slots → slots ++ [] ∷ [] ≡ [] ∷ slots
one_more [] empty = refl
one_more {A} (slot ∷ slots) empty =
    ap (λ (rest : List (List A)). slot ∷ rest) (one_more slots (All-tail (λ s. s ≡ []) slot slots empty))
    ∙ ap (λ (s : List A). s ∷ [] ∷ slots) (All-head (λ s. s ≡ []) slot slots empty)
    ∙ sym (ap (λ (s : List A). [] ∷ s ∷ slots) (All-head (λ s. s ≡ []) slot slots empty))

pub empty_turned : {A : Type 0} (slots : List (List A)) → 0 < length slots → AreEmpty slots → drop 1 slots ++ [] ∷ [] ≡ slots
empty_turned [] some empty = absurd (omega arith)
empty_turned {A} (slot ∷ slots) some empty =
    one_more slots (All-tail (λ s. s ≡ []) slot slots empty)
    ∙ ap (λ (s : List A). s ∷ slots) (sym (All-head (λ s. s ≡ []) slot slots empty))

-- from any place on
pub empty_from : {A : Type 0} (next : ℕ) (slots : List (List A)) → AreEmpty slots → AreEmpty (drop next slots ++ take next slots)
empty_from next slots empty = All-append (λ s. s ≡ []) (drop next slots) (take next slots) (All-drop (λ s. s ≡ []) next slots empty) (All-take (λ s. s ≡ []) next slots empty)

without : {A : Type 0} (front : List (List A)) (slot : List A) (slots : List (List A)) → AreEmpty (front ++ slot ∷ slots) → (slot ≡ []) × AreEmpty (front ++ slots)
without [] slot slots empty = (All-head (λ s. s ≡ []) slot slots empty, All-tail (λ s. s ≡ []) slot slots empty)
without (first ∷ front) slot slots empty =
    let rest = without front slot slots (All-tail (λ s. s ≡ []) first (front ++ slot ∷ slots) empty) in
    (rest.0, All-cons (λ s. s ≡ []) first (front ++ slots) (All-head (λ s. s ≡ []) first (front ++ slot ∷ slots) empty) rest.1)

pub empty_whole : {A : Type 0} (next : ℕ) (slots : List (List A)) → AreEmpty (drop next slots ++ take next slots) → AreEmpty slots
empty_whole zero slots empty = subst AreEmpty (append-nil slots) empty
empty_whole (suc next) [] empty = All-nil (λ s. s ≡ [])
empty_whole (suc next) (slot ∷ slots) empty =
    let rest = without (drop next slots) slot (take next slots) empty in
    All-cons (λ s. s ≡ []) slot slots rest.0 (empty_whole next slots rest.1)

nothing : {A : Type 0} (slot : List A) → is_empty slot ≡ true → slot ≡ []
nothing [] is = refl
nothing (x ∷ xs) is =
    let long : length (x ∷ xs) ≡ 0 = eqb-true (length (x ∷ xs)) 0 is in
    absurd (omega arith)

-- what is seen slot by slot
pub seen_empty : {A : Type 0} (slots : List (List A)) → list_all is_empty slots ≡ true → AreEmpty slots
seen_empty [] all = All-nil (λ s. s ≡ [])
seen_empty (slot ∷ slots) all =
    let parts = and_parts (is_empty slot) (list_all is_empty slots) all in
    All-cons (λ s. s ≡ []) slot slots (nothing slot parts.0) (seen_empty slots parts.1)

pub empty_seen : {A : Type 0} (slots : List (List A)) → AreEmpty slots → list_all is_empty slots ≡ true
empty_seen [] empty = refl
empty_seen {A} (slot ∷ slots) empty =
    ap (λ (s : List A). is_empty s && list_all is_empty slots) (All-head (λ s. s ≡ []) slot slots empty) ∙ empty_seen slots (All-tail (λ s. s ≡ []) slot slots empty)
