-- What a script's edit of one thing says.
use Rattle.std.specs.Prelude.{◌∷◌, if◌then◌else◌}
use Rattle.mp_text.specs.Names.{Large, bytes_eq, SingleEdit, RemoveWire, RemoveModule, RemoveBundle, RewireInput, RewireOutput, SetInputDelay, SetDelay, ClearStimulus, LineError, UnknownStatement, WordCount, number_word, wire_or_none, ◌>>=◌, ℕ, List, [], Option, Some, Result, Ok, Err, codes, option_map, SingleWord}
use Rattle.mp_text.specs.declared.single_word.SingleWord.TheVariants.{Stated, Remove, Input, Output, InputDelay, Delay, Clear}
use Rattle.mp_text.specs.Statements.{edit_word, stated_edit}

-- the edit that takes away the thing of this sort and name
abbrev pub removal : List ℕ → List ℕ → Result SingleEdit LineError
removal thing name =
    if bytes_eq thing (codes "wire") then Ok (RemoveWire name)
    else (if bytes_eq thing (codes "module") then Ok (RemoveModule name)
    else (if bytes_eq thing (codes "bundle") then Ok (RemoveBundle name)
    else Err UnknownStatement))

-- what changes at a port of a module: the wire that it hears, the wire that it drives, where `-` is none, or a delay
abbrev pub port_change : SingleWord → List ℕ → ℕ → List ℕ → Result SingleEdit LineError
port_change Input part port wire = Ok (RewireInput part port wire)
port_change Output part port wire = Ok (RewireOutput part port (wire_or_none wire))
port_change InputDelay part port delay = do
  d ← number_word delay
  Ok (SetInputDelay part port d)
port_change word part port delay = do
  d ← number_word delay
  Ok (SetDelay part port d)

-- the first word of an edit of one thing
abbrev pub single_word : List ℕ → Option SingleWord
single_word word =
    if bytes_eq word (codes "remove") then Some Remove
    else (if bytes_eq word (codes "input") then Some Input
    else (if bytes_eq word (codes "output") then Some Output
    else (if bytes_eq word (codes "indelay") then Some InputDelay
    else (if bytes_eq word (codes "delay") then Some Delay
    else (if bytes_eq word (codes "clear") then Some Clear
    else option_map Stated (edit_word word))))))

-- the edit of that word and the words behind it; a line may have each kind of module
abbrev pub single_edit : SingleWord → List (List ℕ) → Result SingleEdit LineError
single_edit (Stated word) words = stated_edit Large word words
single_edit Remove (thing ∷ name ∷ []) = removal thing name
single_edit Remove words = Err WordCount
single_edit Clear (wire ∷ []) = Ok (ClearStimulus wire)
single_edit Clear words = Err WordCount
single_edit word (part ∷ port ∷ new ∷ []) = do
  p ← number_word port
  port_change word part p new
single_edit word words = Err WordCount
