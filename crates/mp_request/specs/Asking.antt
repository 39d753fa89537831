-- What the words of the command line ask for.
use Rattle.std.specs.Prelude.{ℕ, List, Option, Some, None}
use Rattle.std.specs.Borrow.{Bor}
use Rattle.mp_request.specs.declared.command_line.CommandLine.{CommandLine}
use Rattle.mp_request.specs.declared.command_line.CommandLine.TheVariants.{Explain, Run}
use Rattle.mp_request.specs.declared.request.Command.{Command}
use Rattle.mp_request.specs.declared.request.Command.TheVariants.{Show}

-- the file that is read, where one is named
abbrev pub file_of : CommandLine → Option (Bor (List ℕ))
file_of (Explain word) = None
file_of (Run request) = request.file

-- the label of the times of a picture, where one is asked for
abbrev pub label_in : Command → Option (Bor (List ℕ))
label_in (Show words) = Some words.unit
label_in command = None

abbrev pub label_of : CommandLine → Option (Bor (List ℕ))
label_of (Explain word) = None
label_of (Run request) = label_in request.command
