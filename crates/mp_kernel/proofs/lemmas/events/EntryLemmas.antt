-- Entries, counted.
use Rattle.std.proofs.Common.{◌≡◌, ◌≢◌, ℕ, ◌+◌, ◌<◌, Bool, true, false, cond, List, [], ◌∷◌, ◌++◌, length, refl, sym, ap, ◌∙◌, arith, get_or-set_same, get_or-set_other, subst}
use Rattle.std.specs.Prelude.{◌==◌, ◌&&◌, slice_index_or}
use Rattle.std.specs.List.{count_by}
use Rattle.std.proofs.lemmas.Bool.{eqb-true, eqb-false}
use Rattle.std.proofs.lemmas.List.{length-set}
use Rattle.std.proofs.lemmas.List.Sums.{sum_by-append}
use Rattle.mp_modules.specs.automata.Codes.{bit}
use Rattle.mp_kernel.specs.events.EventWheels.{with_entry}
use Rattle.mp_kernel.specs.events.Adding.{listed}
use Rattle.mp_kernel.specs.events.Firing.{is_entry, SchedulesEach}

slot : List (List ℕ) → ℕ → List ℕ
slot slots k = slice_index_or slots k []

one_listed : (w v : ℕ) → listed w (v ∷ []) ≡ bit (v == w)
one_listed w v = omega arith

listed_push : (w v : ℕ) (xs : List ℕ) → listed w (xs ++ v ∷ []) ≡ listed w xs + bit (v == w)
listed_push w v xs = sum_by-append (λ d. cond (d == w) 1 0) xs (v ∷ []) ∙ ap (λ n. listed w xs + n) (one_listed w v)

push_at : (slots : List (List ℕ)) (j v k w : ℕ) (t : Bool) → k < length slots → (j == k) ≡ t →
    listed w (slice_index_or (with_entry slots j v) k []) ≡ listed w (slice_index_or slots k []) + bit (t && (v == w))
push_at slots j v k w true low is =
    let same : j ≡ k = eqb-true j k is in
    let here = slice_index_or slots k [] in
    subst (λ i. listed w (slice_index_or (with_entry slots i v) k []) ≡ listed w here + bit (v == w)) (sym same)
    (ap (λ xs. listed w xs) (get_or-set_same slots k (here ++ v ∷ []) [] low) ∙ listed_push w v here)
push_at slots j v k w false low is =
    let other : k ≢ j = λ e. eqb-false j k is (sym e) in
    ap (λ xs. listed w xs) (get_or-set_other slots j k (slice_index_or slots j [] ++ v ∷ []) [] other) ∙ omega arith

one_counted : (k w : ℕ) (entry : ℕ × ℕ) → count_by (is_entry k w) (entry ∷ []) ≡ bit (is_entry k w entry)
one_counted k w entry = omega arith

counted : (k w : ℕ) (entry : ℕ × ℕ) (entries : List (ℕ × ℕ)) →
    count_by (is_entry k w) (entry ∷ entries) ≡ bit (is_entry k w entry) + count_by (is_entry k w) entries
counted k w entry entries =
    sum_by-append (λ e. cond (is_entry k w e) 1 0) (entry ∷ []) entries ∙ ap (λ n. n + count_by (is_entry k w) entries) (one_counted k w entry)

pub schedules_each : SchedulesEach
schedules_each slots [] k w low = omega arith
schedules_each slots (entry ∷ entries) k w low =
    let long = length-set slots entry.0 (slice_index_or slots entry.0 [] ++ entry.1 ∷ []) in
    let rest = schedules_each (with_entry slots entry.0 entry.1) entries k w (omega arith) in
    let here = push_at slots entry.0 entry.1 k w (entry.0 == k) low refl in
    let more = counted k w entry entries in
    omega arith
