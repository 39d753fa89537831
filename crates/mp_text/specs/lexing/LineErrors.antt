-- The number and the name of each fault of a line.
use Rattle.mp_text.specs.lexing.Names.{ℕ, List, codes, LineError, NotAscii, UnknownStatement, WordCount, BadNumber, OutOfMemory}

abbrev pub line_number_of : LineError → ℕ
line_number_of NotAscii = 1
line_number_of UnknownStatement = 2
line_number_of WordCount = 3
line_number_of BadNumber = 4
line_number_of OutOfMemory = 9

abbrev pub line_name_of : LineError → List ℕ
line_name_of NotAscii = codes "NotAscii"
line_name_of UnknownStatement = codes "UnknownStatement"
line_name_of WordCount = codes "WordCount"
line_name_of BadNumber = codes "BadNumber"
line_name_of OutOfMemory = codes "OutOfMemory"
