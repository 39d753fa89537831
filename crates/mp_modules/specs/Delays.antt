-- The least of delays.
use Rattle.std.specs.Prelude.{ℕ, Option, Some, None, min}

-- the lesser of a delay and of the least so far, if any
abbrev pub lesser : Option ℕ → ℕ → Option ℕ
lesser None delay = Some delay
lesser (Some least) delay = Some (min least delay)
