-- How a fault of a run is told.
use Rattle.std.specs.Prelude.{◌∷◌, ◌++◌}
use Rattle.mp_commands.specs.command_runs.Names.{ℕ, List, [], Result, Err, codes, unwrap_or, slice_index_or, decimal, TakeError, WriteError, one_more, TextCode, TextError, number_of, name_of, RunFault, Text, BadCount, ReadFailed, WriteFailed, OutOfMemory, NoPlace, NoSuchWire, NoSuchPlace}
use Rattle.mp_records.specs.EditErrors as edits
use Rattle.mp_streams.specs.declared.take_error.TakeError.TheVariants as takes
use Rattle.mp_streams.specs.declared.write_error.WriteError.TheVariants as writes
use Rattle.mp_text.specs.declared.lexing.line_error.LineError.TheVariants as lines
use Rattle.mp_text.specs.declared.text_code.TextCode.TheVariants as texts

-- want of memory in a text is that of the run
abbrev pub fault_at : TextError → TextCode → RunFault
fault_at error (texts.Line lines.OutOfMemory) = OutOfMemory
fault_at error code = Text error

abbrev pub fault_of_text : TextError → RunFault
fault_of_text error = fault_at error error.code

abbrev pub fault_of_take : TakeError → RunFault
fault_of_take takes.Failed = ReadFailed
fault_of_take takes.OutOfMemory = OutOfMemory

abbrev pub fault_of_write : WriteError → RunFault
fault_of_write writes.WriteFailed = WriteFailed
fault_of_write writes.OutOfMemory = OutOfMemory

-- 1 for what was asked of the program, 3 for a device, 4 for want of memory or of a place
abbrev pub status_of : RunFault → ℕ
status_of (Text error) = 1
status_of BadCount = 1
status_of ReadFailed = 3
status_of WriteFailed = 3
status_of OutOfMemory = 4
status_of NoPlace = 4
status_of (NoSuchWire place) = 1
status_of (NoSuchPlace place) = 1

-- a number, a space and a name
abbrev pub numbered : ℕ → List ℕ → List ℕ
numbered number name = decimal number ++ (32 ∷ name)

-- what stands behind a code's name: why an edit is refused
abbrev pub cause_text : TextCode → List ℕ
cause_text (texts.Refused cause) = codes ": " ++ numbered (edits.number_of cause) (unwrap_or (edits.name_of (edits.number_of cause)) [])
cause_text code = []

abbrev pub text_line : ℕ → TextCode → List ℕ
text_line line code = codes "mpwb: line " ++ (decimal line ++ (codes ": " ++ (numbered (number_of code) (name_of code) ++ cause_text code)))

abbrev pub wire_fault_line : List ℕ → List ℕ
wire_fault_line wire = codes "mpwb: no such wire: " ++ wire

abbrev pub place_fault_line : List ℕ → List ℕ
place_fault_line name = codes "mpwb: no such module or bundle: " ++ name

-- the line that tells of a fault, without its line feed, where these names were asked for
abbrev pub line_of : RunFault → List (List ℕ) → List ℕ
line_of (Text error) names = text_line error.line error.code
line_of BadCount names = codes "mpwb: bad count"
line_of ReadFailed names = codes "mpwb: read failed"
line_of WriteFailed names = codes "mpwb: write failed"
line_of OutOfMemory names = codes "mpwb: out of memory"
line_of NoPlace names = codes "mpwb: no place"
line_of (NoSuchWire place) names = wire_fault_line (slice_index_or names place [])
line_of (NoSuchPlace place) names = place_fault_line (slice_index_or names place [])

-- the number of a source's faults after a run
abbrev pub counted_reads : {T : Type 0} → Result T RunFault → ℕ → ℕ
counted_reads (Err ReadFailed) faults = one_more faults
counted_reads result faults = faults
