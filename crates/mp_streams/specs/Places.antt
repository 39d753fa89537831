-- Bytes at places of a room.
use Rattle.std.specs.Prelude.{◌≡◌, ℕ, ◌+◌, ◌≤◌, List, ◌++◌, length, take}

-- a room has this text from a place on, up to its end, and before that place what it had
pub record IsPlaced (old new : List ℕ) (at : ℕ) (text : List ℕ) (end : ℕ) : Type 0 where
  pub front : take end new ≡ take at old ++ text
  pub moved : end ≡ at + length text
  pub within : end ≤ length new
