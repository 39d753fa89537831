-- The word at fault, and the name nearest to it.
use Rattle.std.specs.Prelude.{ℕ, List, [], if◌then◌else◌, codes, Option, Some, None, unwrap_or, slice_get}
use Rattle.std.specs.List.{list_all}
use Rattle.mp_records.specs.declared.edit_error.EditError.TheVariants as edits
use Rattle.mp_netlist.specs.Circuit.{Circuit}
use Rattle.mp_text.specs.Names.{is_allowed, statement_part, words_of}
use Rattle.mp_text.specs.declared.lexing.line_error.LineError.TheVariants.{UnknownStatement}
use Rattle.mp_text.specs.declared.text_code.TextCode.{TextCode}
use Rattle.mp_text.specs.declared.text_code.TextCode.TheVariants.{Line, Refused}
use Rattle.mp_text.specs.declared.text_error.TextError.{TextError}
use Rattle.mp_request.specs.declared.faults.word_place.WordPlace.{WordPlace}
use Rattle.mp_request.specs.faults.Places.{index}
use Rattle.mp_request.specs.faults.TextLines.{line_numbered, text_before, is_blank, netlist_before}
use Rattle.mp_request.specs.faults.Spans.{span_from, bad_span}
use Rattle.mp_request.specs.faults.WordPlaces.{begins_with, word_place}
use Rattle.mp_request.specs.faults.EditPlaces.{edit_at, refusal_place}
use Rattle.mp_request.specs.faults.Nearest.{nearest, wire_names, statement_words, kind_words, name_part}

abbrev pub place_in : List ℕ → ℕ → Option Circuit → List ℕ → TextCode → WordPlace
place_in text number net line (Refused error) = refusal_place net (edit_at line) error
place_in text number net line code = word_place (is_blank (text_before text number)) (words_of line) code

-- how many words stand before the word at fault, in a line before which this netlist stands if its edit is refused
abbrev pub word_in : List ℕ → TextError → Option Circuit → ℕ
word_in text error net =
    index (words_of (line_numbered text error.line)) (place_in text error.line net (line_numbered text error.line) error.code)

-- where the word at fault stands, in a line whose bytes are all allowed
abbrev pub plain_span : List ℕ → TextError → Option Circuit → ℕ × ℕ
plain_span text error net = span_from (word_in text error net) 0 (statement_part (line_numbered text error.line))

-- where the word at fault stands in its line. A byte that isn't allowed is at fault before all else.
abbrev pub fault_span : List ℕ → TextError → ℕ × ℕ
fault_span text error =
    if list_all is_allowed (line_numbered text error.line) then plain_span text error (netlist_before text error.line error.code)
    else bad_span (line_numbered text error.line)

-- what a wire could have been called
abbrev pub near_wire : Option Circuit → List ℕ → Option (List ℕ)
near_wire None word = None
near_wire (Some n) word = nearest word (wire_names n.wires)

-- what stands in place of a word that is no statement, or no kind of a module
abbrev pub near_in : Option Circuit → List (List ℕ) → List ℕ → TextCode → Option (List ℕ)
near_in net words word (Line UnknownStatement) = nearest word (if begins_with (codes "module") words then kind_words else statement_words)
near_in net words word (Refused edits.NoSuchWire) = near_wire net word
near_in net words word code = None

-- what could have been meant by the word at fault, in a line whose bytes are all allowed
abbrev pub plain_near : List ℕ → TextError → Option Circuit → Option (List ℕ)
plain_near text error net =
    near_in net (words_of (line_numbered text error.line)) (name_part (unwrap_or (slice_get (words_of (line_numbered text error.line)) (word_in text error net)) [])) error.code

-- the name nearest to the word at fault, of the wires that stand, the statements or the kinds
abbrev pub fault_near : List ℕ → TextError → Option (List ℕ)
fault_near text error =
    if list_all is_allowed (line_numbered text error.line) then plain_near text error (netlist_before text error.line error.code) else None
