-- The line of a number, and the text before it.
use Rattle.std.specs.Prelude.{ℕ, zero, suc, ◌+◌, ◌-◌, ◌==◌, Bool, List, [], ◌∷◌, length, take, drop, if◌then◌else◌, Option, None}
use Rattle.std.specs.List.{before_first, list_all}
use Rattle.std.specs.Result.{result_ok}
use Rattle.mp_netlist.specs.Circuit.{Circuit}
use Rattle.mp_text.specs.Names.{is_line_feed, lines_of, words_of}
use Rattle.mp_text.specs.declared.text_code.TextCode.{TextCode}
use Rattle.mp_text.specs.declared.text_code.TextCode.TheVariants.{Refused}
use Rattle.mp_text.specs.Texts.{text_at}

-- how many bytes so many lines have, with their line feeds, or all of them where there are fewer
unfoldable pub bytes_of_lines : ℕ → List ℕ → ℕ
bytes_of_lines zero text = 0
bytes_of_lines (suc count) [] = 0
bytes_of_lines (suc count) (byte ∷ text) = bytes_of_lines (if is_line_feed byte then count else suc count) text + 1

-- the text before the line of this number, counted from 1
abbrev pub text_before : List ℕ → ℕ → List ℕ
text_before text number = take (bytes_of_lines (number - 1) text) text

-- the line of this number, and none where the text ends before it
abbrev pub line_numbered : List ℕ → ℕ → List ℕ
line_numbered text number = before_first is_line_feed (drop (bytes_of_lines (number - 1) text) text)

-- no line of the text has words
abbrev pub is_blank : List ℕ → Bool
is_blank text = list_all (λ line. length (words_of line) == 0) (lines_of text)

-- the netlist before the line whose edit is refused
abbrev pub netlist_before : List ℕ → ℕ → TextCode → Option Circuit
netlist_before text number (Refused error) = result_ok (text_at (text_before text number))
netlist_before text number code = None
