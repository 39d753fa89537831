-- The lines of a text.
use Rattle.std.specs.Prelude.{◌||◌, ◌&&◌, ◌==◌, ◌∷◌, if◌then◌else◌}
use Rattle.mp_text.specs.lexing.Names.{Bool, List, [], ℕ, Result, Ok, Err, nat_le, onto_first, list_all, LineError, NotAscii}
use Rattle.mp_text.specs.lexing.Words.{words_of}

abbrev pub is_line_feed : ℕ → Bool
is_line_feed byte = byte == 10

-- a line ends at a line feed, and the last one may end without
unfoldable pub lines_of : List ℕ → List (List ℕ)
lines_of [] = []
lines_of (byte ∷ bytes) = if is_line_feed byte then [] ∷ lines_of bytes else onto_first byte (lines_of bytes)

-- a byte of a line: a tab, a carriage return, or what is printed
abbrev pub is_allowed : ℕ → Bool
is_allowed byte = byte == 9 || (byte == 13 || (nat_le 32 byte && nat_le byte 126))

-- the words of a line, whose bytes are all allowed, also in a comment
abbrev pub line_words : List ℕ → Result (List (List ℕ)) LineError
line_words line = if list_all is_allowed line then Ok (words_of line) else Err NotAscii
