-- The accepted edits as lines.
use Rattle.std.specs.Prelude.{◌+◌, ◌∷◌, ◌++◌}
use Rattle.mp_commands.specs.answers.Names.{decimal, Edit, ℕ, List, [], drop, Option, Some, None, codes, edit_text}
use Rattle.mp_commands.specs.answers.NumberedLines.{lines_from}

-- `N EDIT`: the number of an edit, and the line of a script that makes it
abbrev pub numbered_line : ℕ → Edit → List ℕ
numbered_line number edit = decimal number ++ (codes " " ++ (edit_text edit ++ (10 ∷ [])))

-- the line of an edit, if there is one
abbrev pub numbered_at : ℕ → Option Edit → List ℕ
numbered_at number None = []
numbered_at number (Some edit) = numbered_line number edit

-- a line for each edit from a place on; the numbers count from 1
abbrev pub edits_from : List Edit → ℕ → List ℕ
edits_from edits first = lines_from numbered_line (first + 1) (drop first edits)
