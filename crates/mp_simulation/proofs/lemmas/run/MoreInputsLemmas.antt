-- Inputs are added one after the other, and listed by port.
use Rattle.std.proofs.Common.{◌≡◌, ◌≢◌, ℕ, zero, suc, ◌+◌, ◌<◌, ◌≤◌, Bool, true, false, cond, List, [], ◌∷◌, ◌++◌, Option, Some, None, length, refl, sym, ap, ◌∙◌, arith, inl, inr}
use Rattle.std.specs.Prelude.{◌==◌, slice_index_or, slice_set}
use Rattle.std.proofs.lemmas.Bool.{cases_eq, eq-eqb, eqb-true}
use Rattle.std.proofs.lemmas.List.{get_or-set_same, get_or-set_other, append-nil, append_assoc, length-append}
use Rattle.mp_records.specs.declared.ports.Input.{Input}
use Rattle.mp_simulation.specs.declared.run.wiring.Wiring.{Wiring}
use Rattle.mp_simulation.specs.units.DataSeats.{number_at}
use Rattle.mp_simulation.specs.run.Wirings.{with_inputs, with_numbers, AddsInputs, AreByPort}
use Rattle.mp_simulation.proofs.lemmas.run.InputLemmas.{all_front, all_back, wired_as}

-- ---- further inputs

abbrev put : {A : Type 0} → (ℕ → List A) → ℕ → List A → ℕ → List A
put f place xs q = cond (q == place) xs (f q)

none_put : {A : Type 0} (f : ℕ → List A) (place q : ℕ) (b : Bool) → (q == place) ≡ b → f q ≡ put f place (f place ++ []) q
none_put f place q true is =
    let same : q ≡ place = eqb-true q place is in
    ap f same ∙ sym (append-nil (f place)) ∙ ap (λ t. cond t (f place ++ []) (f q)) (sym is)
none_put f place q false is = ap (λ t. cond t (f place ++ []) (f q)) (sym is)

pub adds_none : (old : Wiring) (place port : ℕ) → AddsInputs old old place port [] []
adds_none old place port = record {
  longer = omega arith;
  few = omega arith;
  count = refl;
  rows = λ is. is;
  links = λ longest low are. are;
  wired = λ wires places reading reads low placed long few are.
      wired_as wires places reading (with_inputs reading place (reading place ++ [])) reads (with_numbers reads place (reads place ++ [])) old (λ q. none_put reading place q (q == place) refl)
      (λ q. none_put reads place q (q == place) refl) are;
}

same_by : {A : Type 0} (f : ℕ → List A) (place q : ℕ) (xs ys : List A) (b : Bool) → (q == place) ≡ b →
    put (put f place (f place ++ xs)) place (put f place (f place ++ xs) place ++ ys) q ≡ put f place (f place ++ (xs ++ ys)) q
same_by f place q xs ys true is =
    ap (λ t. cond t (put f place (f place ++ xs) place ++ ys) (put f place (f place ++ xs) q)) is
    ∙ ap (λ t. cond t (f place ++ xs) (f place) ++ ys) (eq-eqb place place refl)
    ∙ append_assoc (f place) xs ys
    ∙ ap (λ t. cond t (f place ++ (xs ++ ys)) (f q)) (sym is)
same_by f place q xs ys false is =
    ap (λ t. cond t (put f place (f place ++ xs) place ++ ys) (put f place (f place ++ xs) q)) is
    ∙ ap (λ t. cond t (f place ++ xs) (f q)) is
    ∙ ap (λ t. cond t (f place ++ (xs ++ ys)) (f q)) (sym is)

pub adds_more : (a b c : Wiring) (place port : ℕ) (xs ys : List Input) (ks ls : List ℕ) → AddsInputs a b place port xs ks → AddsInputs b c place (port + length xs) ys ls →
    AddsInputs a c place port (xs ++ ys) (ks ++ ls)
adds_more a b c place port xs ys ks ls first second = record {
  longer = let k = first.longer in let l = second.longer in omega arith;
  few = let k = first.few in let l = second.few in let s = length-append xs ys in omega arith;
  count = let k = first.count in let l = second.count in let s = length-append xs ys in let t = length-append ks ls in omega arith;
  rows = λ is. second.rows (first.rows is);
  links = λ longest low are.
      second.links longest (all_back (λ (i : Input). i.delay ≤ longest) xs ys low) (first.links longest (all_front (λ (i : Input). i.delay ≤ longest) xs ys low) are);
  wired = λ wires places reading reads low placed long few are.
      let s = length-append xs ys in
      let one = first.wired wires places reading reads (all_front (λ (i : Input). i.wire.0 < wires) xs ys low) placed long (omega arith) are in
      let own : with_inputs reading place (reading place ++ xs) place ≡ reading place ++ xs =
      ap (λ t. cond t (reading place ++ xs) (reading place)) (eq-eqb place place refl) in
      let more : length (with_inputs reading place (reading place ++ xs) place) ≡ port + length xs =
      ap (length {A = Input}) own ∙ length-append (reading place) xs ∙ ap (λ k. k + length xs) long in
      wired_as wires places (with_inputs (with_inputs reading place (reading place ++ xs)) place (with_inputs reading place (reading place ++ xs) place ++ ys))
      (with_inputs reading place (reading place ++ (xs ++ ys)))
      (with_numbers (with_numbers reads place (reads place ++ ks)) place (with_numbers reads place (reads place ++ ks) place ++ ls)) (with_numbers reads place (reads place ++ (ks ++ ls))) c
      (λ q. same_by reading place q xs ys (q == place) refl) (λ q. same_by reads place q ks ls (q == place) refl)
      (second.wired wires places (with_inputs reading place (reading place ++ xs)) (with_numbers reads place (reads place ++ ks))
      (all_back (λ (i : Input). i.wire.0 < wires) xs ys low) placed more (omega arith) one);
}

-- ---- by port

pub number_push : (xs : List ℕ) (x p : ℕ) → p ≡ length xs → number_at (xs ++ x ∷ []) p ≡ Some x
number_push [] x p is = ap (number_at (x ∷ [])) is
number_push (y ∷ xs) x zero is = absurd (omega arith)
number_push (y ∷ xs) x (suc p) is = number_push xs x p (omega arith)

number_kept : (xs : List ℕ) (x p : ℕ) → p ≢ length xs → number_at (xs ++ x ∷ []) p ≡ number_at xs p
number_kept [] x zero other = absurd (other refl)
number_kept [] x (suc p) other = refl
number_kept (y ∷ xs) x zero other = refl
number_kept (y ∷ xs) x (suc p) other = number_kept xs x p (λ e. other (omega arith))

abbrev pub no_numbers : List (Option ℕ)
no_numbers = None ∷ None ∷ None ∷ None ∷ []

pub none_by_port : (p : ℕ) → slice_index_or no_numbers p None ≡ None
none_by_port zero = refl
none_by_port (suc zero) = refl
none_by_port (suc (suc zero)) = refl
none_by_port (suc (suc (suc zero))) = refl
none_by_port (suc (suc (suc (suc p)))) = refl

pub port_more : (xs : List ℕ) (x port : ℕ) (ports new : List (Option ℕ)) → AreByPort xs ports → port ≡ length xs → port < length ports → new ≡ slice_set ports port (Some x) → AreByPort (xs ++ x ∷ []) new
port_more xs x port ports new are long within is p = elim (cases_eq p port) as (λ _. slice_index_or new p None ≡ number_at (xs ++ x ∷ []) p) [
  | inl own ↦
      ap (λ (l : List (Option ℕ)). slice_index_or l p None) is
      ∙ ap (λ k. slice_index_or (slice_set ports port (Some x)) k None) own
      ∙ get_or-set_same ports port (Some x) None within
      ∙ sym (number_push xs x p (own ∙ long))
  | inr other ↦
      ap (λ (l : List (Option ℕ)). slice_index_or l p None) is
      ∙ get_or-set_other ports port p (Some x) None other
      ∙ are p
      ∙ sym (number_kept xs x p (λ e. other (e ∙ sym long)))
]
