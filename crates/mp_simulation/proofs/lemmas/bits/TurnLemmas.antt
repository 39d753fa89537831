-- The first slot of a wheel goes, and an empty one comes behind the last.
use Rattle.std.proofs.Common.{◌≡◌, ℕ, suc, ◌+◌, ◌<◌, ◌≤◌, Bool, true, false, nat_lt, drop, List, [], ◌∷◌, ◌++◌, length, refl, sym, ap, ◌∙◌, arith}
use Rattle.std.specs.Prelude.{◌==◌, slice_index_or}
use Rattle.std.proofs.lemmas.Bool.{eqb-true, eqb-false}
use Rattle.std.proofs.lemmas.Bool.Decides.{nat_tests}
use Rattle.std.proofs.lemmas.List.{length-append, length-drop, get_or-drop, get_or_append_left}
use Rattle.std.proofs.Math.ListN.{get_or-eq_default}
use Rattle.std.proofs.Math.Seq.{get_or-append_seam}

pub turned_length : {A : Type 0} (slots : List (List A)) → 0 < length slots → length (drop 1 slots ++ [] ∷ []) ≡ length slots
turned_length slots some = length-append (drop 1 slots) ([] ∷ []) ∙ ap (λ k. k + 1) (length-drop 1 slots) ∙ omega arith

last_when : {A : Type 0} (rest : List (List A)) (k : ℕ) → length rest ≤ k → (last : Bool) → (k == length rest) ≡ last → slice_index_or (rest ++ [] ∷ []) k [] ≡ []
last_when rest k beyond true is =
    let same : k ≡ length rest = eqb-true k (length rest) is in
    ap (λ i. slice_index_or (rest ++ [] ∷ []) i []) same ∙ get_or-append_seam rest [] [] []
last_when rest k beyond false is =
    let differs = eqb-false k (length rest) is in
    let long = length-append rest ([] ∷ []) in
    get_or-eq_default (rest ++ [] ∷ []) [] (omega arith)

turned_when : {A : Type 0} (rest : List (List A)) (k : ℕ) (low : Bool) → nat_lt k (length rest) ≡ low → slice_index_or (rest ++ [] ∷ []) k [] ≡ slice_index_or rest k []
turned_when rest k true is =
    let within : k < length rest = grind (arith, nat_tests) in
    get_or_append_left rest ([] ∷ []) [] k within
turned_when rest k false is =
    let beyond : length rest ≤ k = grind (arith, nat_tests) in
    last_when rest k beyond (k == length rest) refl ∙ sym (get_or-eq_default rest [] beyond)

pub turned_at : {A : Type 0} (slots : List (List A)) (k : ℕ) → slice_index_or (drop 1 slots ++ [] ∷ []) k [] ≡ slice_index_or slots (suc k) []
turned_at slots k =
    let next : 1 + k ≡ suc k = omega arith in
    turned_when (drop 1 slots) k (nat_lt k (length (drop 1 slots))) refl ∙ get_or-drop 1 slots k [] ∙ ap (λ i. slice_index_or slots i []) next
