-- Known bytes over several calls.
use Rattle.std.proofs.Common.{◌≡◌, ℕ, ◌+◌, ◌-◌, ◌<◌, ◌≤◌, ◌⊎◌, inl, inr, IfSome, List, ◌++◌, length, take, drop, Option, None, Some, Result, Ok, Err, OnErr, sym, ap, ◌∙◌, arith, rules}
use Rattle.std.specs.Io.KnownBytes.{Consumes, IsAtEnd}
use Rattle.std.proofs.KnownBytes.{Consumes-trans}
use Rattle.mp_streams.specs.StreamBytes.{ConsumesUpTo}
use Rattle.std.proofs.lemmas.Bool.{cases_lt}
use Rattle.std.proofs.lemmas.List.{append-nil, take_all, length-append, length-take-le}
use Rattle.std.proofs.Math.Seq.{take-append_seam}
use Rattle.std.proofs.lemmas.Grind.{common_steps}

pub take-drop-all : (d : ℕ) (bs : List ℕ) → take (length bs - d) (drop d bs) ≡ drop d bs
take-drop-all d bs = search (rules, common_steps)

-- what was taken up to the end or to the limit is the front of what was left
pub taken_front : (old new : Option (List ℕ)) (text : List ℕ) (limit : ℕ) → Consumes old new text → length text ≤ limit → (length text < limit → IsAtEnd new) → IfSome old (λ bytes. text ≡ take limit bytes)
taken_front None new text limit took short end = tt
taken_front (Some xs) None text limit took short end = absurd took
taken_front (Some xs) (Some ys) text limit took short end = by (cases_lt (length text) limit)
  where
    by : (length text < limit) ⊎ (limit ≤ length text) → text ≡ take limit xs
    by (inl less) = sym (ap (take limit) (took ∙ ap (λ l. text ++ l) (end less) ∙ append-nil text) ∙ take_all limit text short)
    by (inr more) = let same : limit ≡ length text = omega arith in sym (rw (took, same) (take-append_seam text ys))

-- some bytes are within the limit with the front of a room that is as large as what is left below the limit
pub within_after : (text room : List ℕ) (count limit : ℕ) → count ≤ length room → length room ≤ limit - length text → length text ≤ limit → length (text ++ take count room) ≤ limit
within_after text room count limit some most within = rw (length-append text (take count room), length-take-le count room some) (omega arith)

-- what holds anyway holds after an error
pub on_err : {T E P : Type 0} (r : Result T E) → P → OnErr r P
on_err (Ok value) holds = tt
on_err (Err error) holds = holds

-- some bytes were taken, and so many more may be
pub record IsTaken (most left : ℕ) (old new : Option (List ℕ)) (before after : List ℕ) : Type 0 where
  pub bytes : List ℕ
  pub text : after ≡ before ++ bytes
  pub taken : Consumes old new bytes
  pub rest : length bytes + left ≡ most

-- then so are some bytes more
pub taken_within : (most left : ℕ) (old mid new : Option (List ℕ)) (before after room : List ℕ) (count : ℕ) → IsTaken most left old mid before after → count ≤ length room → length room ≤ left
    → Consumes mid new (take count room) → ConsumesUpTo most old new
taken_within most left old mid new before after room count so_far some low more =
    let rest = so_far.rest in
    (so_far.bytes ++ take count room, within_after so_far.bytes room count most some (omega (arith, rest, low)) (omega (arith, rest)), Consumes-trans old mid new so_far.bytes (take count room) so_far.taken more)
