-- What the ports of a module read.
use Rattle.std.proofs.Common.{◌≡◌, ℕ, suc, ◌+◌, List, [], ◌∷◌, refl, ap, arith}
use Rattle.std.specs.Prelude.{◌==◌, Option}
use Rattle.std.proofs.lemmas.List.Sums.{sum_by-cons}
use Rattle.std.proofs.lemmas.Option.{none-some}
use Rattle.mp_modules.specs.automata.Codes.{bit}
use Rattle.mp_kernel.specs.events.Adding.{listed}
use Rattle.mp_active.specs.compare.Reading.{is_at, reads, ReadsAreListed}

-- one port and the others
reads_more : (port : Option ℕ) (ports : List (Option ℕ)) (x : ℕ) → reads (port ∷ ports) x ≡ bit (is_at x port) + reads ports x
reads_more port ports x = sum_by-cons (λ p. bit (is_at x p)) port ports

listed_more : (y : ℕ) (ys : List ℕ) (x : ℕ) → listed x (y ∷ ys) ≡ bit (y == x) + listed x ys
listed_more y ys x = sum_by-cons (λ d. bit (d == x)) y ys

pub reads_are_listed : ReadsAreListed
reads_are_listed [] [] are x = refl
reads_are_listed (y ∷ ys) [] are x = absurd (none-some y (are 0))
reads_are_listed [] (port ∷ ports) are x =
    let rest = reads_are_listed [] ports (λ p. are (suc p)) x in
    let none : listed x [] ≡ 0 = refl in
    let here : bit (is_at x port) ≡ 0 = ap (λ o. bit (is_at x o)) (are 0) in
    let more = reads_more port ports x in
    omega arith
reads_are_listed (y ∷ ys) (port ∷ ports) are x =
    let rest = reads_are_listed ys ports (λ p. are (suc p)) x in
    let here : bit (is_at x port) ≡ bit (y == x) = ap (λ o. bit (is_at x o)) (are 0) in
    let more = reads_more port ports x in
    let all = listed_more y ys x in
    omega arith
