-- The accepted edits of a live desk as lines, with who made them.
use Rattle.std.specs.Prelude.{ℕ, ◌+◌, ◌-◌, ◌==◌, List, [], ◌∷◌, ◌++◌, drop, Option, Some, None, slice_get, codes, if◌then◌else◌}
use Rattle.std.specs.Fmt.{decimal}
use Rattle.mp_records.specs.declared.edit.Edit.{Edit}
use Rattle.mp_text.specs.declared.lexing.line_error.LineError.TheVariants.{BadNumber}
use Rattle.mp_text.specs.edit_lines.EditLines.{edit_text}
use Rattle.mp_commands.specs.answers.Answers.{is_edit_number}
use Rattle.mp_commands.specs.answers.NumberedLines.{lines_from}
use Rattle.mp_commands.specs.answers.ShortReplies.{unread_text}

-- a comment with the seat of the designer of this number; nothing for 0, where nobody at the desk made the edit
abbrev pub author_text : ℕ → List ℕ
author_text author = if author == 0 then [] else codes " # designer-" ++ decimal author

-- that of the author in a place, if there is one
abbrev pub author_at : Option ℕ → List ℕ
author_at None = []
author_at (Some author) = author_text author

-- `N EDIT # designer-J`: the number of an edit, the line of a script that makes it, and who made it
abbrev pub signed_line : List ℕ → ℕ → Edit → List ℕ
signed_line authors number edit = decimal number ++ (codes " " ++ ((edit_text edit ++ author_at (slice_get authors (number - 1))) ++ (10 ∷ [])))

-- the line of an edit, if there is one
abbrev pub signed_at : List ℕ → ℕ → Option Edit → List ℕ
signed_at authors number None = []
signed_at authors number (Some edit) = signed_line authors number edit

-- a line for each edit from a place on; the numbers count from 1
abbrev pub signed_from : List ℕ → List Edit → ℕ → List ℕ
signed_from authors edits first = lines_from (signed_line authors) (first + 1) (drop first edits)

-- the accepted edits from a number on, each with who made it
abbrev pub signed_text : List ℕ → List Edit → ℕ → List ℕ
signed_text authors edits from = if is_edit_number edits from then signed_from authors edits (from - 1) else unread_text BadNumber
