-- What a run takes of its source, and what it makes of its output.
use Rattle.std.specs.Prelude.{◌≡◌, ◌⊎◌, ◌+◌, ◌<◌, ◌≤◌}
use Rattle.mp_commands.specs.command_runs.Names.{ℕ, length, IfSome, Some, None, Bool, true, List, [], Option, Result, Ok, Err, IsOk, IsOkAnd, Outgoing, ConsumesUpTo, Writes, WriteError, Circuit, text_limit, RunFault, Text, BadCount, ReadFailed, WriteFailed, OutOfMemory, NoPlace, NoSuchWire, NoSuchPlace}
use Rattle.mp_streams.specs.declared.write_error.WriteError.TheVariants as writes
use Rattle.mp_commands.specs.command_runs.Openings.{too_long}

-- the input of a run: all bytes of its source, where it tells them, and else no more than an input may have, and one
abbrev pub IsInput : Option (List ℕ) → List ℕ → Type 0
IsInput (Some bytes) input = input ≡ bytes
IsInput None input = length input ≤ text_limit input + 1

-- a run takes no more bytes of its source than the input may have, and one, by which it is known to be too long
abbrev pub TakesInput : Option (List ℕ) → Option (List ℕ) → Type 0
TakesInput left new = IfSome left (λ bytes. ConsumesUpTo (text_limit bytes + 1) left new)

-- a source has an input of which this holds
abbrev pub HasInput : Option (List ℕ) → (List ℕ → Type 0) → Type 0
HasInput left Holds = (input : List ℕ) × IsInput left input × Holds input

-- why the input of a source is not read: it is too long, where neither the device failed nor memory was wanting
abbrev pub StaysUnread : Option (List ℕ) → RunFault → Type 0
StaysUnread left ReadFailed = Unit {0}
StaysUnread left OutOfMemory = Unit {0}
StaysUnread left fault = (fault ≡ too_long) × HasInput left (λ input. text_limit input < length input)

-- why nothing is written of an input that opens so, or doesn't: a place may be wanting only where some sit down
abbrev pub Refuses : Bool → Result Circuit RunFault → RunFault → Type 0
Refuses seats opening (Text error) = opening ≡ Err (Text error)
Refuses seats opening BadCount = opening ≡ Err BadCount
Refuses seats opening (NoSuchWire place) = opening ≡ Err (NoSuchWire place)
Refuses seats opening (NoSuchPlace place) = opening ≡ Err (NoSuchPlace place)
Refuses seats opening NoPlace = (seats ≡ true) × IsOk opening
Refuses seats opening OutOfMemory = Unit {0}
Refuses seats opening ReadFailed = ⊥
Refuses seats opening WriteFailed = ⊥

-- a text of the netlist was written, or a part of it
abbrev pub WritesOne : {S T : Type 0} → Result T WriteError → Result Circuit RunFault → (Circuit → List ℕ → Type 0) → Outgoing S → Outgoing S → Type 0
WritesOne result opening IsText old new = IsOkAnd opening (λ n. (text : List ℕ) × IsText n text × Writes result old new text)

-- what a run that ended in this way wrote, of an input that opens so: a text, or a part of one, or nothing
abbrev pub Ran : {S : Type 0} → Bool → Result (Unit {0}) RunFault → Result Circuit RunFault → (Circuit → List ℕ → Type 0) → Outgoing S → Outgoing S → Type 0
Ran seats (Ok done) opening IsText old new = WritesOne (Ok done) opening IsText old new
Ran seats (Err WriteFailed) opening IsText old new = WritesOne {T = Unit {0}} (Err writes.WriteFailed) opening IsText old new
Ran seats (Err OutOfMemory) opening IsText old new = Writes {T = Unit {0}} (Err writes.OutOfMemory) old new [] ⊎ WritesOne {T = Unit {0}} (Err writes.OutOfMemory) opening IsText old new
Ran seats (Err fault) opening IsText old new = Refuses seats opening fault × (new ≡ old)

-- of a source with an input of which this holds; where the source failed nothing was written
abbrev pub RanFrom : {S : Type 0} → Result (Unit {0}) RunFault → Option (List ℕ) → (List ℕ → Type 0) → Outgoing S → Outgoing S → Type 0
RanFrom (Err ReadFailed) left Holds old new = new ≡ old
RanFrom result left Holds old new = HasInput left Holds
