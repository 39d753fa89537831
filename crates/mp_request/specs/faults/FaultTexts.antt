-- What is shown of a line that isn't read.
use Rattle.std.specs.Prelude.{ℕ, ◌+◌, ◌-◌, ◌==◌, List, [], ◌++◌, length, map, take, drop, min, nat_le, replicate, if◌then◌else◌, codes, Option, Some, None}
use Rattle.std.specs.Str.{byte, bytes_eq}
use Rattle.std.specs.Fmt.{decimal}
use Rattle.mp_text.specs.Names.{is_gap, is_allowed}
use Rattle.mp_text.specs.declared.text_error.TextError.{TextError}
use Rattle.mp_request.specs.faults.TextLines.{line_numbered}
use Rattle.mp_request.specs.faults.Faults.{fault_span, fault_near}

-- how many bytes of a line are shown, and how many of these at most before the word
abbrev pub width : ℕ
width = 68

abbrev pub lead : ℕ
lead = 32

-- a gap as a space, and another byte that isn't printed as `?`
abbrev pub shown_byte : ℕ → ℕ
shown_byte b = if is_gap b then 32 else (if is_allowed b then b else byte "?")

-- two dots where something is left out
abbrev pub dots_before : ℕ → List ℕ
dots_before from = if nat_le from lead then [] else codes ".."

abbrev pub dots_behind : ℕ → ℕ → List ℕ
dots_behind from count = if nat_le (count - (from - lead)) width then [] else codes ".."

-- the part of a line around a word
abbrev pub shown_part : List ℕ → ℕ → List ℕ
shown_part line from = dots_before from ++ (map shown_byte (take width (drop (from - lead) line)) ++ dots_behind from (length line))

-- the marks below that part
abbrev pub marks : ℕ × ℕ → List ℕ
marks span = replicate (length (dots_before span.0) + min span.0 lead) 32 ++ replicate (min (span.1 - span.0) (width - lead)) (byte "^")

-- the margin of a line, and of one without a number
abbrev pub margin : List ℕ → List ℕ
margin number = replicate (4 - length number) 32 ++ (number ++ codes " | ")

abbrev pub located : List ℕ → ℕ → ℕ × ℕ → List ℕ
located line number span =
    margin (decimal number) ++ (shown_part line span.0 ++ (codes "\n" ++ (margin (replicate (length (decimal number)) 32) ++ (marks span ++ codes "\n"))))

-- that this name may have been meant
abbrev pub meant : List ℕ → List ℕ
meant name = codes "; did you mean `" ++ (name ++ codes "`?")

abbrev pub elsewhere : List ℕ → List ℕ
elsewhere name = codes "; " ++ (name ++ codes " needs format 4")

-- a name that is the word itself is that of a kind that another format has
abbrev pub suggestion : List ℕ → Option (List ℕ) → List ℕ
suggestion word None = []
suggestion word (Some name) = if bytes_eq word name then elsewhere name else meant name

-- the word at a place of a line
abbrev pub word_at : List ℕ → ℕ × ℕ → List ℕ
word_at line span = take (span.1 - span.0) (drop span.0 line)

-- the line of the error, if there is one, with marks below a word
abbrev pub fault_line : List ℕ → TextError → ℕ × ℕ → List ℕ
fault_line text error span = if error.line == 0 then [] else located (line_numbered text error.line) error.line span

-- the line, with marks below the word at fault; then what the fault means, and the name nearest to the word
abbrev pub fault_text : List ℕ → TextError → List ℕ → List ℕ
fault_text text error meaning =
    fault_line text error (fault_span text error)
    ++ (codes "     " ++ (meaning ++ suggestion (word_at (line_numbered text error.line) (fault_span text error)) (fault_near text error)))
