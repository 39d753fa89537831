-- How long a line is as the journal writes it.
use Rattle.std.specs.Prelude.{ℕ, ◌+◌, ◌==◌, Bool, false, List, [], ◌∷◌, if◌then◌else◌}

-- the byte is a `-` that no `/` follows
abbrev pub is_bare : ℕ → List ℕ → Bool
is_bare byte [] = byte == 45
is_bare byte (next ∷ rest) = if next == 47 then false else byte == 45

-- how many bytes a byte takes before these
abbrev pub bytes_of : ℕ → List ℕ → ℕ
bytes_of byte rest = if is_bare byte rest then 3 else 1

-- the bytes of a line once each `-` in it is written `-/1`
abbrev pub written_length : List ℕ → ℕ
written_length [] = 0
written_length (byte ∷ rest) = bytes_of byte rest + written_length rest
