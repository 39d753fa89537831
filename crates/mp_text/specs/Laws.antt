-- What the netlist of a text is made of.
use Rattle.std.specs.Prelude.{◌≡◌, ◌==◌, ◌∷◌, if◌then◌else◌}
use Rattle.mp_text.specs.Names.{filter_map, SingleEdit, Circuit, empty_circuit, replay, lines_of, words_of, Standard, Large, ℕ, List, [], Option, Some, None, Result, Ok, Err, LineError, map}
use Rattle.mp_records.specs.declared.edit.Edit.TheVariants.{Single}
use Rattle.mp_netlist.specs.declared.format.Format.{Format as NetlistFormat}
use Rattle.mp_text.specs.Statements.{Statement, Blank, Format, Start, Change, stated_edit, statement_of}
use Rattle.mp_text.specs.Texts.{text_at}

abbrev pub horizon_of : Statement → Option ℕ
horizon_of (Start (Ok horizon)) = Some horizon
horizon_of statement = None

abbrev pub edit_read : Result SingleEdit LineError → Option SingleEdit
edit_read (Ok edit) = Some edit
edit_read (Err error) = None

-- the edit that a statement states in a text of that format
abbrev pub edit_of : NetlistFormat → Statement → Option SingleEdit
edit_of format (Change word words) = edit_read (stated_edit format word words)
edit_of format statement = None

-- the statement of each line
abbrev pub statements : List (List ℕ) → List Statement
statements lines = map (λ line. statement_of (words_of line)) lines

-- the format that the first line with words states, if it states one
abbrev pub format_by : List Statement → NetlistFormat
format_by [] = Standard
format_by (Blank ∷ later) = format_by later
format_by (Format (Ok number) ∷ later) = if number == 4 then Large else Standard
format_by (other ∷ later) = Standard

-- the lines state one horizon, and the netlist is the replay of their edits on the empty netlist of this horizon and of their format
abbrev pub IsReplayed : List (List ℕ) → Circuit → Type 0
IsReplayed lines n =
    (h : ℕ) × ((filter_map horizon_of (statements lines) ≡ h ∷ [])
    × (replay (empty_circuit (format_by (statements lines)) h) (map Single (filter_map (edit_of (format_by (statements lines))) (statements lines))) ≡ Ok n))

-- each text that is read is replayed
abbrev pub IsReplay : Type 0
IsReplay = (text : List ℕ) (n : Circuit) → text_at text ≡ Ok n → IsReplayed (lines_of text) n
