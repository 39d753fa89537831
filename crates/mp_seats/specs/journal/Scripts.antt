-- What the lines of a journal say.
use Rattle.std.specs.Prelude.{◌≡◌, ℕ, List, [], ◌∷◌, ◌++◌, map, Option, Some, None, option_map, Result, Ok}
use Rattle.mp_records.specs.declared.edit.Edit.{Edit}
use Rattle.mp_netlist.specs.Circuit.{Circuit, IsCircuit}
use Rattle.mp_netlist.specs.Replays.{replay}
use Rattle.mp_text.specs.ScriptLines.{line_at}
use Rattle.mp_text.specs.lexing.Lines.{lines_of}
use Rattle.mp_text.specs.edit_lines.EditLines.{edit_lines}
use Rattle.mp_text.specs.declared.lexing.line_error.LineError.{LineError}
use Rattle.mp_text.specs.declared.script_line.Line.{Line}
use Rattle.mp_text.specs.declared.script_line.Line.TheVariants.{Empty, Change}
use Rattle.mp_version.specs.Stories.{Story, one_more}

-- the edits that lines say, where each says one or has no words
abbrev pub edits_said : List (Result Line LineError) → Option (List Edit)
edits_said [] = Some []
edits_said (Ok Empty ∷ reads) = edits_said reads
edits_said (Ok (Change edit) ∷ reads) = option_map (λ edits. edit ∷ edits) (edits_said reads)
edits_said (read ∷ reads) = None

-- the edits of a script without questions
abbrev pub script_edits : List ℕ → Option (List Edit)
script_edits text = edits_said (map line_at (lines_of text))

-- the session's story goes on with the edits of this script
abbrev pub GoesOn : Story → Story → List ℕ → Type 0
GoesOn before after text = (edits : List Edit) × (script_edits text ≡ Some edits) × (after ≡ record { base = before.base; edits = before.edits ++ edits })

-- the edit of a line that was read so was made, and nothing where it has no words
abbrev pub IsMadeLine : Story → Story → Result Line LineError → Type 0
IsMadeLine before after (Ok Empty) = after ≡ before
IsMadeLine before after (Ok (Change edit)) = after ≡ one_more before edit
IsMadeLine before after read = ⊥

-- the lines of edits that are accepted one after the other are a script of just these edits
abbrev pub JournalsAreScripts : Type 0
JournalsAreScripts = (n m : Circuit) → IsCircuit n → (edits : List Edit) → replay n edits ≡ Ok m → script_edits (edit_lines edits) ≡ Some edits
