-- What calls do to the known bytes of a sink or a source, beside std's words for all of some bytes.
use Rattle.std.specs.Prelude.{◌≡◌, ℕ, ◌<◌, ◌≤◌, List, ◌++◌, length, take, Option}
use Rattle.std.specs.Io.KnownBytes.{Appends, Consumes, IsAtEnd}

-- known bytes grew by a part of these from their front, and not by all of them
abbrev pub AppendsPrefix : Option (List ℕ) → Option (List ℕ) → List ℕ → Type 0
AppendsPrefix old new bytes = (n : ℕ) × (n < length bytes) × Appends old new (take n bytes)

-- known bytes lost some bytes from their front, at most so many
abbrev pub ConsumesUpTo : ℕ → Option (List ℕ) → Option (List ℕ) → Type 0
ConsumesUpTo most old new = (bytes : List ℕ) × (length bytes ≤ most) × Consumes old new bytes

-- a text grew by bytes that were taken: all that were left, or so many
pub record TakesMore (most : ℕ) (old new : Option (List ℕ)) (before after : List ℕ) : Type 0 where
  pub bytes : List ℕ
  pub text : after ≡ before ++ bytes
  pub taken : Consumes old new bytes
  pub within : length bytes ≤ most
  pub end : length bytes < most → IsAtEnd new
