-- The limits of a session.
use Rattle.std.specs.Prelude.{ℕ}

-- how many edits a session may accept
abbrev pub max_edits : ℕ
max_edits = 4096
