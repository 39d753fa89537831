-- Bytes that a source gave at once.
use Rattle.std.specs.Prelude.{ℕ, Bool, List}

-- the bytes, and whether the source told its end
pub record SourceChunk : Type 0 where
  pub bytes : List ℕ
  pub is_last : Bool
