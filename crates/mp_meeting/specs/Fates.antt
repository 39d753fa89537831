-- What became of the lines of a designer's block.
use Rattle.std.specs.Prelude.{◌≡◌, ℕ, ◌+◌, ◌<◌, ◌≤◌, List, [], ◌∷◌, Some, Result, Ok, Err, slice_get}
use Rattle.mp_records.specs.declared.edit_error.EditError.{EditError}
use Rattle.mp_text.specs.declared.lexing.line_error.LineError.{LineError}
use Rattle.mp_text.specs.declared.script_line.Line.{Line}
use Rattle.mp_text.specs.declared.script_line.Line.TheVariants.{Empty, Change}
use Rattle.mp_text.specs.ScriptLines.{line_at}
use Rattle.mp_version.specs.Stories.{Story, judged}
use Rattle.mp_version.specs.Extending.{up_to}

-- an edit was accepted after so many others, or a line was refused after so many edits
pub data Fate : Type 0 where
  Accepted : ℕ → Fate
  Refused : ℕ → Fate

abbrev pub unless_empty : Result Line LineError → List (Result Line LineError) → List (Result Line LineError)
unless_empty (Ok Empty) others = others
unless_empty read others = read ∷ others

-- what the lines say, but for those without words
abbrev pub said : List (List ℕ) → List (Result Line LineError)
said [] = []
said (line ∷ lines) = unless_empty (line_at line) (said lines)

-- an accepted line is an edit, which stands at its place in the story; a refused one is an edit that is refused there, or none
abbrev pub IsFate : Story → Result Line LineError → Fate → Type 0
IsFate now (Ok (Change edit)) (Accepted k) = slice_get now.edits k ≡ Some edit
IsFate now (Ok (Change edit)) (Refused k) = (error : EditError) × (judged (up_to now k) edit ≡ Err error)
IsFate now read (Accepted k) = ⊥
IsFate now read (Refused k) = Unit {0}

-- a fate for each line
abbrev pub AreFates : Story → List (Result Line LineError) → List Fate → Type 0
AreFates now [] [] = Unit {0}
AreFates now (read ∷ reads) (fate ∷ fates) = IsFate now read fate × AreFates now reads fates
AreFates now reads fates = ⊥

-- each comes after as many edits as the one before had seen, an accepted one included, and after no more than there are at last
abbrev pub Rise : ℕ → ℕ → List Fate → Type 0
Rise seen last [] = seen ≤ last
Rise seen last (Accepted k ∷ fates) = (seen ≤ k) × Rise (k + 1) last fates
Rise seen last (Refused k ∷ fates) = (seen ≤ k) × Rise k last fates

-- the accepted ones are among the first edits
abbrev pub AreAmong : ℕ → List Fate → Type 0
AreAmong n [] = Unit {0}
AreAmong n (Accepted k ∷ fates) = (k < n) × AreAmong n fates
AreAmong n (Refused k ∷ fates) = AreAmong n fates

abbrev pub accepted_of : List Fate → ℕ
accepted_of [] = 0
accepted_of (Accepted k ∷ fates) = accepted_of fates + 1
accepted_of (Refused k ∷ fates) = accepted_of fates

abbrev pub refused_of : List Fate → ℕ
refused_of [] = 0
refused_of (Accepted k ∷ fates) = refused_of fates
refused_of (Refused k ∷ fates) = refused_of fates + 1
