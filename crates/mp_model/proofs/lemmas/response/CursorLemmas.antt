-- Lemmas on lists of input levels.
use Rattle.std.proofs.Common.{◌≡◌, ℕ, ◌<◌, ◌≤◌, List, [], ◌∷◌, length, take, slice_index, suc, refl, ap, sym, ◌∙◌, arith}
use Rattle.mp_model.specs.response.Pieces.{levels_at}
use Rattle.mp_model.specs.declared.response.in_piece.InPiece.{InPiece}

-- lists of the same length with the same numbers are the same
pub same_numbers : (xs ys : List ℕ) → length xs ≡ length ys → ((k : ℕ) → k < length xs → slice_index xs k ≡ slice_index ys k) → xs ≡ ys
same_numbers [] [] count each = refl
same_numbers [] (y ∷ ys) count each = absurd (omega arith)
same_numbers (x ∷ xs) [] count each = absurd (omega arith)
same_numbers (x ∷ xs) (y ∷ ys) count each =
    let first : x ≡ y = each 0 (omega arith) in
    let rest : xs ≡ ys = same_numbers xs ys (omega arith) (λ k lt. each (suc k) (omega arith)) in
    cc

pub length-levels_at : (pieces : List InPiece) (t : ℕ) → length (levels_at pieces t) ≡ length pieces
length-levels_at [] t = refl
length-levels_at (piece ∷ pieces) t = ap suc (length-levels_at pieces t)

-- a list of at most four numbers, from its numbers
pub from_numbers : (xs : List ℕ) → length xs ≤ 4 → take (length xs) (slice_index xs 0 ∷ slice_index xs 1 ∷ slice_index xs 2 ∷ slice_index xs 3 ∷ []) ≡ xs
from_numbers [] few = refl
from_numbers (a ∷ []) few = refl
from_numbers (a ∷ b ∷ []) few = refl
from_numbers (a ∷ b ∷ c ∷ []) few = refl
from_numbers (a ∷ b ∷ c ∷ d ∷ []) few = refl
from_numbers (a ∷ b ∷ c ∷ d ∷ e ∷ rest) few = absurd (omega arith)

-- the present levels are those at the time
pub present_levels : (pieces : List InPiece) (t : ℕ) (levels : List ℕ) → length pieces ≤ 4 → (let x = levels_at pieces in levels ≡ slice_index (x t) 0 ∷ slice_index (x t) 1 ∷ slice_index (x t) 2 ∷ slice_index (x t) 3 ∷ []) → take (length pieces) levels ≡ levels_at pieces t
present_levels pieces t levels few are =
    let x = levels_at pieces t in
    let count : length x ≡ length pieces = length-levels_at pieces t in
    let all : List ℕ = slice_index x 0 ∷ slice_index x 1 ∷ slice_index x 2 ∷ slice_index x 3 ∷ [] in
    ap (take (length pieces)) are ∙ ap (λ (n : ℕ). take n all) (sym count) ∙ from_numbers x (omega arith)

-- levels that are the same at each port are the same
pub steady_levels : (pieces : List InPiece) (u t : ℕ) → length pieces ≤ 4 → ((port : ℕ) → port < 4 → slice_index (levels_at pieces u) port ≡ slice_index (levels_at pieces t) port) → levels_at pieces u ≡ levels_at pieces t
steady_levels pieces u t few each =
    let now : length (levels_at pieces u) ≡ length pieces = length-levels_at pieces u in
    let then : length (levels_at pieces t) ≡ length pieces = length-levels_at pieces t in
    same_numbers (levels_at pieces u) (levels_at pieces t) (now ∙ sym then) (λ port lt. each port (omega arith))
