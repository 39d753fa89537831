-- What is counted in a list, and what holds of all of it.
use Rattle.std.proofs.Common.{◌≡◌, ℕ, zero, suc, ◌+◌, ◌<◌, Bool, true, false, cond, List, [], ◌∷◌, All, refl, ap, arith}
use Rattle.std.specs.List.{count_by}
use Rattle.std.proofs.lemmas.List.Sums.{sum_by-cons}
use Rattle.mp_modules.specs.automata.Codes.{bit}

pub some_bit : (b : Bool) → 0 < bit b → b ≡ true
some_bit true some = refl
some_bit false some = absurd (omega arith)

all_one : {A : Type 0} (P : A → Type 0) (x : A) → P x → All P (x ∷ [])
all_one P x p zero d within = p
all_one P x p (suc k) d within = absurd (omega arith)

pub all_where : {A : Type 0} (P : A → Type 0) (x : A) (is : Bool) → (is ≡ true → P x) → All P (cond is (x ∷ []) [])
all_where P x true p = all_one P x (p refl)
all_where P x false p = λ k d within. absurd (omega arith)

pub all_rest : {A : Type 0} (P : A → Type 0) (x : A) (xs : List A) → All P (x ∷ xs) → All P xs
all_rest P x xs all k d within = all (suc k) d (omega arith)

pub none_counted : {A : Type 0} (is_it : A → Bool) (xs : List A) → All (λ (x : A). is_it x ≡ false) xs → count_by is_it xs ≡ 0
none_counted is_it [] none = refl
none_counted is_it (x ∷ xs) none =
    let more : count_by is_it (x ∷ xs) ≡ cond (is_it x) 1 0 + count_by is_it xs = sum_by-cons (λ y. cond (is_it y) 1 0) x xs in
    let first : cond {A = ℕ} (is_it x) 1 0 ≡ 0 = ap (λ b. cond b 1 0) (none zero x (omega arith)) in
    let rest = none_counted is_it xs (all_rest (λ y. is_it y ≡ false) x xs none) in
    omega (arith, more, first, rest)
