-- How it is told why a file can't be read.
use Rattle.std.specs.Prelude.{ℕ, List, ◌++◌, codes}
use Rattle.mpwb.specs.declared.input_file.FileCause.{FileCause}
use Rattle.mpwb.specs.declared.input_file.FileCause.TheVariants.{NoSuchFile, IsDirectory, NotAllowed}

abbrev pub words_of : FileCause → List ℕ
words_of NoSuchFile = codes "no such file"
words_of IsDirectory = codes "is a directory"
words_of NotAllowed = codes "permission denied"

-- the line that tells it of the file of a name, without its line feed
abbrev pub unread_line : List ℕ → FileCause → List ℕ
unread_line name cause = codes "mpwb: can't read " ++ (name ++ (codes ": " ++ words_of cause))
