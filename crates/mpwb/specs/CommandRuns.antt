-- How commands are run.
use Rattle.std.specs.Prelude.{◌≡◌, ◌&&◌, ℕ, List, Option, Result, length, true, false}
use Rattle.mp_netlist.specs.Circuit.{Circuit}
use Rattle.mp_streams.specs.Outgoing.{Outgoing}
use Rattle.mp_commands.specs.Desks.{IsDeskText, blocks_of, has_valid_desk}
use Rattle.mp_commands.specs.Names.{first_part, later_parts}
use Rattle.mp_commands.specs.Plays.{AreReplies}
use Rattle.mp_commands.specs.ScriptSessions.{opened}
use Rattle.mp_commands.specs.command_runs.Clauses.{Ran, RanFrom, has_valid_crew, lines_of, opening_of, with_places, with_wires, within_size}
use Rattle.mp_commands.specs.declared.command_runs.options.Options.{Options}
use Rattle.mp_commands.specs.declared.command_runs.run_fault.RunFault.{RunFault}
use Rattle.mp_request.specs.declared.request.Command.{Command}
use Rattle.mp_request.specs.declared.request.Command.TheVariants.{Play, Desk}
use Rattle.mpwb.specs.CommandTexts.{has_valid_numbers, places_in, wires_in}

-- how its input opens: a fault of the text is told first, then one of a number, then a name that nothing has
abbrev pub command_opening : Command → Options → List ℕ → Result Circuit RunFault
command_opening command options =
    within_size (λ input. with_places (places_in command) (with_wires (wires_in command) (opening_of (lines_of input) (has_valid_crew options && has_valid_numbers command))))

-- what it wrote of its source's input, and how it ended
abbrev pub RunsCommand : {S : Type 0} → Command → (Circuit → List ℕ) → Options → Result (Unit {0}) RunFault → Option (List ℕ) → Outgoing S → Outgoing S → Type 0
RunsCommand command text options result left old new =
    RanFrom result left (λ input. Ran false result (command_opening command options input) (λ n written. written ≡ text n) old new) old new

-- what a command that edits the netlist of its source's input wrote, and how it ended: the replies to a script, or what becomes of the blocks of a desk
abbrev pub RunsEdits : {S : Type 0} → Command → Options → Result (Unit {0}) RunFault → Option (List ℕ) → Outgoing S → Outgoing S → Type 0
RunsEdits Play options result left old new =
    RanFrom result left
    (λ input. Ran false result (within_size (λ i. opening_of (first_part (lines_of i)) (has_valid_crew options)) input) (λ n text. AreReplies (opened n) (later_parts (lines_of input)) text) old new) old new
RunsEdits Desk options result left old new =
    RanFrom result left
    (λ input. Ran true result (within_size (λ i. opening_of (first_part (lines_of i)) (has_valid_desk (length (blocks_of i)) options)) input) (λ n text. IsDeskText n (blocks_of input) options.viewers text)
    old new) old new
RunsEdits command options result left old new = Unit {0}
