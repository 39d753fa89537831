-- How an input opens.
use Rattle.std.specs.Prelude.{◌+◌, if◌then◌else◌}
use Rattle.mp_commands.specs.command_runs.Names.{ℕ, Bool, List, length, take, Option, Some, None, Result, Ok, Err, nat_le, Circuit, TooLong, TextError, Fresh, after_lines, RunFault, Text, BadCount, NoSuchWire, NoSuchPlace, missing_at, missing_place, text_limit}
use Rattle.mp_commands.specs.declared.views.view.View.{View}
use Rattle.mp_commands.specs.views.Views.{view_places, view_wires}

-- a fault of the text is told before one of the options
abbrev pub counted_netlist : Result Circuit TextError → Bool → Result Circuit RunFault
counted_netlist (Err error) valid = Err (Text error)
counted_netlist (Ok n) valid = if valid then Ok n else Err BadCount

-- the netlist of a text's lines, with options that are valid or not
abbrev pub opening_of : List (List ℕ) → Bool → Result Circuit RunFault
opening_of lines valid = counted_netlist (after_lines 0 Fresh lines) valid

-- a netlist, where no wire that is asked for is missing
abbrev pub with_all : Option ℕ → Circuit → Result Circuit RunFault
with_all None n = Ok n
with_all (Some place) n = Err (NoSuchWire place)

-- a netlist in which the wires of these names stand; one that doesn't is told last
abbrev pub with_wires : List (List ℕ) → Result Circuit RunFault → Result Circuit RunFault
with_wires names (Ok n) = with_all (missing_at n names) n
with_wires names (Err fault) = Err fault

-- a netlist, where each of the names that are asked for is that of a module or a bundle
abbrev pub with_each : Option ℕ → Circuit → Result Circuit RunFault
with_each None n = Ok n
with_each (Some place) n = Err (NoSuchPlace place)

-- a netlist in which modules or bundles have these names; one that none has is told last
abbrev pub with_places : List (List ℕ) → Result Circuit RunFault → Result Circuit RunFault
with_places names (Ok n) = with_each (missing_place n names) n
with_places names (Err fault) = Err fault

-- a netlist in which the wires, the modules and the bundles of a view stand
abbrev pub viewed_opening : Option View → Result Circuit RunFault → Result Circuit RunFault
viewed_opening None opening = opening
viewed_opening (Some view) opening = with_places (view_places view) (with_wires (view_wires view) opening)

-- the fault of an input that is too long
abbrev pub too_long : RunFault
too_long = Text (record { line = 0; code = TooLong })

-- what is taken of an input: as many bytes as it may have, and one more
abbrev pub taken_of : List ℕ → List ℕ
taken_of input = take (text_limit input + 1) input

-- an input that is too long doesn't open
abbrev pub within_size : (List ℕ → Result Circuit RunFault) → List ℕ → Result Circuit RunFault
within_size opening input = if nat_le (length input) (text_limit input) then opening input else Err too_long
