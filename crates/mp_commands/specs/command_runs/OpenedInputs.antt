-- How the input of a netlist alone opens.
use Rattle.mp_commands.specs.command_runs.Names.{ℕ, Bool, false, List, Option, Result, Circuit, lines_of, RunFault, ReadFailed}
use Rattle.mp_commands.specs.command_runs.Openings.{opening_of, with_places, within_size}
use Rattle.mp_commands.specs.command_runs.Runs.{HasInput, Refuses}

-- the netlist of an input, which is not too long, with options that are valid or not
abbrev pub opening_with : Bool → List ℕ → Result Circuit RunFault
opening_with valid = within_size (λ input. opening_of (lines_of input) valid)

-- the same, where modules or bundles with these names are asked for
abbrev pub opening_at : List (List ℕ) → Bool → List ℕ → Result Circuit RunFault
opening_at names valid input = with_places names (opening_with valid input)

-- why the input of a source doesn't open
abbrev pub StaysShutBy : Option (List ℕ) → (List ℕ → Result Circuit RunFault) → RunFault → Type 0
StaysShutBy left opening ReadFailed = Unit {0}
StaysShutBy left opening fault = HasInput left (λ input. Refuses false (opening input) fault)

-- with options that are valid or not
abbrev pub StaysShutWith : Option (List ℕ) → Bool → RunFault → Type 0
StaysShutWith left valid fault = StaysShutBy left (opening_with valid) fault
