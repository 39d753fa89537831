-- What a line's words say.
use Rattle.std.specs.Prelude.{◌||◌, ◌==◌, ◌∷◌, if◌then◌else◌}
use Rattle.mp_netlist.specs.declared.format.Format.{Format as NetlistFormat}
use Rattle.mp_text.specs.Formats.{has_kind}
use Rattle.mp_text.specs.Names.{byte, bytes_eq, before_first, after_first, Kind, kind_named, SingleEdit, AddWire, AddModule, AddBundle, SetStimulus, LineError, UnknownStatement, WordCount, number_word, change_word, input_word, output_word, each_word, ◌>>=◌, ℕ, Bool, List, [], length, Option, Some, None, Result, Ok, Err, codes, EditWord, Wire, Module, Stimulus, Bundle}

abbrev pub kind_in : NetlistFormat → Option Kind → Result Kind LineError
kind_in format None = Err UnknownStatement
kind_in format (Some kind) = if has_kind format kind then Ok kind else Err UnknownStatement

-- the kind that the word names, where a text of that format may have it
abbrev pub kind_word : NetlistFormat → List ℕ → Result Kind LineError
kind_word format word = kind_in format (kind_named word)

-- the number that the words are, where they are one
abbrev pub stated_number : List (List ℕ) → Result ℕ LineError
stated_number (word ∷ []) = number_word word
stated_number _ = Err WordCount

-- the edit that adds the module of this name and kind and of these numbers, with the ports that the words state
abbrev pub ports_edit : List ℕ → Kind → List ℕ → List (List ℕ) → List (List ℕ) → Result SingleEdit LineError
ports_edit name kind params inputs outputs = do
  reads ← each_word input_word inputs
  drives ← each_word output_word outputs
  Ok (AddModule (record { name = name; kind = kind; params = params; inputs = reads; outputs = drives }))

-- the edit that adds the module of this name and kind, of the numbers and with the ports that the words state
abbrev pub params_edit : List ℕ → Kind → List (List ℕ) → List (List ℕ) → List (List ℕ) → Result SingleEdit LineError
params_edit name kind params inputs outputs = do
  numbers ← each_word number_word params
  ports_edit name kind numbers inputs outputs

-- the edit of the parts of the words behind `module`, where there is an input and an output
abbrev pub parts_edit : NetlistFormat → List ℕ → List ℕ → List (List ℕ) → List (List ℕ) → List (List ℕ) → Result SingleEdit LineError
parts_edit format name kind params inputs outputs =
    if length inputs == 0 || length outputs == 0 then Err WordCount
    else (do
      k ← kind_word format kind
      params_edit name k params inputs outputs)

-- a word of one byte alone
abbrev pub is_mark : ℕ → List ℕ → Bool
is_mark mark word = bytes_eq word (mark ∷ [])

-- the edit of the words behind `module`: the first `:` behind the kind and the first `>` behind it divide them
-- (where one of these is missing there are no outputs)
abbrev pub module_edit : NetlistFormat → List (List ℕ) → Result SingleEdit LineError
module_edit format (name ∷ kind ∷ words) =
    let ports = after_first (is_mark (byte ":")) words in
    parts_edit format name kind (before_first (is_mark (byte ":")) words) (before_first (is_mark (byte ">")) ports) (after_first (is_mark (byte ">")) ports)
module_edit format _ = Err WordCount

-- the first word of an edit that texts and scripts have
abbrev pub edit_word : List ℕ → Option EditWord
edit_word word =
    if bytes_eq word (codes "wire") then Some Wire
    else (if bytes_eq word (codes "module") then Some Module
    else (if bytes_eq word (codes "stim") then Some Stimulus
    else (if bytes_eq word (codes "bundle") then Some Bundle
    else None)))

-- the edit of the words behind `wire`
abbrev pub wire_edit : List (List ℕ) → Result SingleEdit LineError
wire_edit (name ∷ width ∷ level ∷ []) = do
  w ← number_word width
  l ← number_word level
  Ok (AddWire name w l)
wire_edit _ = Err WordCount

-- the edit of the words behind `stim`
abbrev pub stimulus_edit : List (List ℕ) → Result SingleEdit LineError
stimulus_edit (wire ∷ words) = do
  changes ← each_word change_word words
  Ok (SetStimulus wire changes)
stimulus_edit _ = Err WordCount

-- the edit of the words behind `bundle`
abbrev pub bundle_edit : List (List ℕ) → Result SingleEdit LineError
bundle_edit (name ∷ request ∷ acknowledge ∷ payload ∷ setup ∷ []) = do
  s ← number_word setup
  Ok (AddBundle (record { name = name; request = request; acknowledge = acknowledge; payload = payload; setup = s }))
bundle_edit _ = Err WordCount

-- the edit of the words behind that word, in a text of that format
abbrev pub stated_edit : NetlistFormat → EditWord → List (List ℕ) → Result SingleEdit LineError
stated_edit format Wire words = wire_edit words
stated_edit format Module words = module_edit format words
stated_edit format Stimulus words = stimulus_edit words
stated_edit format Bundle words = bundle_edit words

-- a line without words, one that begins with another word, the form or the horizon of a text, or the word of an edit with what is behind it
pub data Statement : Type 0 where
  Blank : Statement
  Unknown : Statement
  Format : Result ℕ LineError → Statement
  Start : Result ℕ LineError → Statement
  Change : EditWord → List (List ℕ) → Statement

abbrev pub change_of : List (List ℕ) → Option EditWord → Statement
change_of words None = Unknown
change_of words (Some word) = Change word words

-- the statement of a text's line by its words
unfoldable pub statement_of : List (List ℕ) → Statement
statement_of [] = Blank
statement_of (word ∷ words) =
    if bytes_eq word (codes "format") then Format (stated_number words)
    else (if bytes_eq word (codes "horizon") then Start (stated_number words)
    else change_of words (edit_word word))
