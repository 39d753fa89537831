-- The lines of edits that netlists accept.
use Rattle.std.proofs.Common.{◌≡◌, ℕ, Bool, true, false, List, [], ◌∷◌, append_assoc, map, Result, Ok, Err, refl, ap, ◌∙◌}
use Rattle.std.specs.List.{list_all}
use Rattle.std.specs.Prelude.{if◌then◌else◌}
use Rattle.mp_records.specs.declared.edit_error.EditError.{EditError}
use Rattle.mp_netlist.specs.Circuit.{Circuit, IsCircuit}
use Rattle.mp_netlist.specs.Edits.{after, go_on}
use Rattle.mp_netlist.specs.Replays.{replay}
use Rattle.mp_netlist.specs.Laws.{EditsKeepNetlists}
use Rattle.mp_text.specs.declared.lexing.line_error.LineError.TheVariants.{NotAscii}
use Rattle.mp_text.specs.lexing.Lines.{lines_of, is_allowed}
use Rattle.mp_text.specs.lexing.Words.{words_of}
use Rattle.mp_text.specs.lexing.Reads.{◌>>=◌}
use Rattle.mp_text.specs.declared.script_line.Line.{Line}
use Rattle.mp_text.specs.declared.script_line.Line.TheVariants.{Change}
use Rattle.mp_text.specs.ScriptLines.{line_of, line_at}
use Rattle.mp_text.proofs.WrittenLineLemmas.{lines_of-line}
use Rattle.mp_text.specs.edit_lines.EditLines.{edit_text, edit_lines}
use Rattle.mp_text.specs.edit_lines.ReadBack.{AcceptedAreRead, AreLinesOfEdits}
use Rattle.mp_text.proofs.lemmas.edit_lines.BatchLemmas.{edits_as_written}
use Rattle.mp_text.proofs.lemmas.edit_lines.SaidLemmas.{accepted_said}

pub accepted_read : EditsKeepNetlists → AcceptedAreRead
accepted_read keeps n m ok edit made = edits_as_written edit (accepted_said keeps n m ok edit made)

-- the bytes of a line that is read are allowed
allowed_read : (line : List ℕ) (read : Line) → line_at line ≡ Ok read → list_all is_allowed line ≡ true
unfolding line_at
allowed_read line read is = by (list_all is_allowed line) refl is
  where
    by : (b : Bool) → list_all is_allowed line ≡ b → ((if b then Ok (words_of line) else Err NotAscii) >>= λ words. line_of words) ≡ Ok read → list_all is_allowed line ≡ true
    by true all is = all
    by false all is = let no : ⊥ = cc in absurd no

no_lines : lines_of [] ≡ []
unfolding lines_of
no_lines = refl

pub lines_of_edits : EditsKeepNetlists → AreLinesOfEdits
lines_of_edits keeps n m ok [] made = ap (map line_at) no_lines
lines_of_edits keeps n m ok (edit ∷ edits) made = by (λ next whole later. lines_of_edits keeps next m whole edits later) (after n edit) refl made
  where
    by : ((next : Circuit) → IsCircuit next → replay next edits ≡ Ok m → map line_at (lines_of (edit_lines edits)) ≡ map (λ edit. Ok (Change edit)) edits)
        → (first : Result Circuit EditError) → after n edit ≡ first → go_on (λ next. replay next edits) first ≡ Ok m
        → map line_at (lines_of (edit_lines (edit ∷ edits))) ≡ map (λ edit. Ok (Change edit)) (edit ∷ edits)
    by others (Err error) is later = cc
    by others (Ok next) is later =
        let read = accepted_read keeps n next ok edit is in
        let line = lines_of-line (edit_text edit) (edit_lines edits) (allowed_read (edit_text edit) (Change edit) read) in
        let rest = others next (keeps n next ok edit is) later in
        ap (λ l. map line_at (lines_of l)) (append_assoc (edit_text edit) (10 ∷ []) (edit_lines edits)) ∙ ap (map line_at) line
        ∙ ap (λ l. l ∷ map line_at (lines_of (edit_lines edits))) read ∙ ap (λ l. Ok (Change edit) ∷ l) rest
