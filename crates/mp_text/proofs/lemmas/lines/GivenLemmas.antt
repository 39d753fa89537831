-- What is given of lines.
use Rattle.std.proofs.Common.{◌≡◌, ℕ, ◌+◌, ◌<◌, ◌≤◌, Bool, true, false, cond, List, [], ◌∷◌, ◌++◌, length, Some, None, nat_le, refl, arith}
use Rattle.std.proofs.lemmas.Bool.Decides.{nat_tests}
use Rattle.std.proofs.lemmas.List.{length-append}
use Rattle.mp_text.specs.lines.Given.{max_line, given, with_more}

pub given_long : (line bytes : List ℕ) → max_line < length line + length bytes → given (line ++ bytes) ≡ None
given_long line bytes more =
    let long = length-append line bytes in
    let over : nat_le (length (line ++ bytes)) max_line ≡ false = grind (arith, nat_tests) in
    rw over refl

pub given_short : (line bytes : List ℕ) → length line + length bytes ≤ max_line → given (line ++ bytes) ≡ Some (line ++ bytes)
given_short line bytes fits =
    let long = length-append line bytes in
    let within : nat_le (length (line ++ bytes)) max_line ≡ true = grind (arith, nat_tests) in
    rw within refl

-- what is given of bytes and of more bytes behind them
more_at : (line bytes : List ℕ) (t : Bool) → nat_le (length line) max_line ≡ t → with_more (cond t (Some line) None) bytes ≡ given (line ++ bytes)
more_at line bytes true e = refl
more_at line bytes false e =
    let long = length-append line bytes in
    let over : nat_le (length (line ++ bytes)) max_line ≡ false = grind (arith, nat_tests) in
    rw over refl

pub given_more : (line bytes : List ℕ) → with_more (given line) bytes ≡ given (line ++ bytes)
given_more line bytes = more_at line bytes (nat_le (length line) max_line) refl

-- an empty line is given of no bytes alone
pub given_none : (line : List ℕ) → given line ≡ Some [] → line ≡ []
given_none [] same = refl
given_none (b ∷ line) same = by (nat_le (length (b ∷ line)) max_line) same
  where
    by : (t : Bool) → cond t (Some (b ∷ line)) None ≡ Some [] → b ∷ line ≡ []
    by true same = let no : ⊥ = cc in absurd no
    by false same = let no : ⊥ = cc in absurd no
