-- The number and the name of each fault of a text.
use Rattle.mp_text.specs.Names.{ℕ, List, codes, line_number_of, line_name_of, TextCode, Line, NoHorizon, SecondHorizon, Refused, TooLong, BadFormat}

abbrev pub number_of : TextCode → ℕ
number_of (Line error) = line_number_of error
number_of NoHorizon = 5
number_of SecondHorizon = 6
number_of (Refused error) = 7
number_of TooLong = 8
number_of BadFormat = 10

abbrev pub name_of : TextCode → List ℕ
name_of (Line error) = line_name_of error
name_of NoHorizon = codes "NoHorizon"
name_of SecondHorizon = codes "SecondHorizon"
name_of (Refused error) = codes "Refused"
name_of TooLong = codes "TooLong"
name_of BadFormat = codes "BadFormat"
