-- Words with spaces between them.
use Rattle.std.proofs.Common.{◌≡◌, ℕ, List, [], ◌∷◌, ◌++◌, sym, ap}
use Rattle.std.proofs.lemmas.List.{append-nil}
use Rattle.mp_text.specs.Written.{spaced}
use Rattle.mp_text.specs.edit_lines.EditLines.{joined}

-- the first word, and the others each behind a space
pub joined-spaced : (word : List ℕ) (words : List (List ℕ)) → joined (word ∷ words) ≡ word ++ spaced words
joined-spaced word [] = sym (append-nil word)
joined-spaced word (next ∷ words) = ap (λ l. word ++ (32 ∷ l)) (joined-spaced next words)
