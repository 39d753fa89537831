-- The number and the name of each refusal.
use Rattle.std.specs.Prelude.{ℕ, ◌-◌, ◌==◌, if◌then◌else◌, None, List, ◌∷◌, [], Option, codes, slice_get}
use Rattle.mp_records.specs.declared.edit_error.EditError.{EditError}
use Rattle.mp_records.specs.declared.edit_error.EditError.TheVariants.{NameTaken, BadName, NoSuchWire, NoSuchModule, NoSuchBundle, BadWidth, BadLevel, BadDelay, BadPort, WrongPorts, BadParam, WidthMismatch, AlreadyDriven, StillUsed, BadStimulus, NoStimulus, TableFull, HistoryFull, OutOfMemory, BadBatch, InBatch}

abbrev pub number_of : EditError → ℕ
number_of NameTaken = 1
number_of BadName = 2
number_of NoSuchWire = 3
number_of NoSuchModule = 4
number_of NoSuchBundle = 5
number_of BadWidth = 6
number_of BadLevel = 7
number_of BadDelay = 8
number_of BadPort = 9
number_of WrongPorts = 10
number_of BadParam = 11
number_of WidthMismatch = 12
number_of AlreadyDriven = 13
number_of StillUsed = 14
number_of BadStimulus = 15
number_of NoStimulus = 16
number_of TableFull = 17
number_of HistoryFull = 18
number_of OutOfMemory = 19
number_of BadBatch = 20
number_of (InBatch place number) = 21

-- the names, the first being that of number 1
abbrev pub names : List (List ℕ)
names =
    codes "NameTaken"
    ∷ codes "BadName"
    ∷ codes "NoSuchWire"
    ∷ codes "NoSuchModule"
    ∷ codes "NoSuchBundle"
    ∷ codes "BadWidth"
    ∷ codes "BadLevel"
    ∷ codes "BadDelay"
    ∷ codes "BadPort"
    ∷ codes "WrongPorts"
    ∷ codes "BadParam"
    ∷ codes "WidthMismatch"
    ∷ codes "AlreadyDriven"
    ∷ codes "StillUsed"
    ∷ codes "BadStimulus"
    ∷ codes "NoStimulus"
    ∷ codes "TableFull"
    ∷ codes "HistoryFull"
    ∷ codes "OutOfMemory"
    ∷ codes "BadBatch"
    ∷ codes "InBatch"
    ∷ []

-- the name of a number's refusal, where there is one
abbrev pub name_of : ℕ → Option (List ℕ)
name_of number = if number == 0 then None else slice_get names (number - 1)
