-- How a run ends that checks a netlist.
use Rattle.std.specs.Prelude.{◌≡◌}
use Rattle.mp_commands.specs.command_runs.Names.{ℕ, Bool, List, [], Option, Result, Ok, Err, IsOkAnd, Outgoing, Writes, Circuit, RunFault, WriteFailed, OutOfMemory}
use Rattle.mp_streams.specs.declared.write_error.WriteError.TheVariants as writes
use Rattle.mp_check.specs.CheckTexts.{is_wrong}
use Rattle.mp_check.specs.Selections.{selected}
use Rattle.mp_check.specs.declared.check_asked.CheckAsked.{CheckAsked}
use Rattle.mp_commands.specs.views.Checks.{check_of}
use Rattle.mp_commands.specs.command_runs.OpenedInputs.{StaysShutBy, opening_at}
use Rattle.mp_commands.specs.command_runs.Runs.{HasInput}

-- what is asked for of the check of a netlist was written, and it is told whether anything of that is wrong
abbrev pub ChecksNetlist : {S : Type 0} → CheckAsked → Outgoing S → Outgoing S → Circuit → Bool → Type 0
ChecksNetlist asked old new n wrong = (wrong ≡ is_wrong n (selected asked.selection)) × Writes {T = Unit {0}} (Ok tt) old new (check_of asked n)

-- a part of it was written where the sink failed, and nothing where memory was wanting
abbrev pub StopsNetlist : {S : Type 0} → CheckAsked → Outgoing S → Outgoing S → Circuit → RunFault → Type 0
StopsNetlist asked old new n WriteFailed = Writes {T = Unit {0}} (Err writes.WriteFailed) old new (check_of asked n)
StopsNetlist asked old new n OutOfMemory = new ≡ old
StopsNetlist asked old new n fault = ⊥

-- how an input opens of which this is asked, with options that are valid or not
abbrev pub check_opening : CheckAsked → Bool → List ℕ → Result Circuit RunFault
check_opening asked valid = opening_at asked.selection.names.now valid

-- an input opened, the check of its netlist was written, nothing of it is held, and it is told whether anything is wrong
abbrev pub ChecksInput : {S : Type 0} → CheckAsked → Option (List ℕ) → Bool → Outgoing S → Outgoing S → Bool → Type 0
ChecksInput asked left valid old new wrong =
    HasInput left (λ input. IsOkAnd (check_opening asked valid input) (λ n. ChecksNetlist asked old new n wrong)) × (new.held ≡ [])

-- a part of the check was written where the sink failed, and else nothing, since the input didn't open or memory was wanting
abbrev pub StopsInput : {S : Type 0} → CheckAsked → Option (List ℕ) → Bool → Outgoing S → Outgoing S → RunFault → Type 0
StopsInput asked left valid old new WriteFailed = HasInput left (λ input. IsOkAnd (check_opening asked valid input) (λ n. StopsNetlist asked old new n WriteFailed))
StopsInput asked left valid old new fault = (new ≡ old) × StaysShutBy left (check_opening asked valid) fault
