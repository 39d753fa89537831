-- How the input of a netlist opens that a script edits.
use Rattle.std.specs.Prelude.{◌≡◌}
use Rattle.mp_commands.specs.Names.{Circuit, Kept, has_valid_crew, Options, ℕ, List, Option, Result, Ok, opening_with, StaysShutWith, HasInput, RunFault}
use Rattle.mp_commands.specs.ScriptSessions.{opened}

abbrev pub opening : Options → List ℕ → Result Circuit RunFault
opening options = opening_with (has_valid_crew options)

-- the input of a source opens so
abbrev pub OpensAs : Option (List ℕ) → Options → Kept → Type 0
OpensAs left options kept = HasInput left (λ input. (n : Circuit) × (opening options input ≡ Ok n) × (kept ≡ opened n))

-- why the input of a source doesn't open
abbrev pub StaysShut : Option (List ℕ) → Options → RunFault → Type 0
StaysShut left options fault = StaysShutWith left (has_valid_crew options) fault
