-- How a run ends that writes a view.
use Rattle.std.specs.Prelude.{◌≡◌, ◌&&◌, false, is_some, IsSomeAnd}
use Rattle.mp_commands.specs.command_runs.Names.{ℕ, Bool, List, Option, Result, Outgoing, Circuit, lines_of, RunFault}
use Rattle.mp_commands.specs.command_runs.Openings.{opening_of, viewed_opening, within_size}
use Rattle.mp_commands.specs.command_runs.Runs.{Ran, RanFrom}
use Rattle.mp_commands.specs.declared.views.view.View.{View}
use Rattle.mp_commands.specs.views.Views.{view_text}

-- how an input opens of whose netlist a view is asked, with a crew that is valid or not
abbrev pub view_opening : Option View → Bool → List ℕ → Result Circuit RunFault
view_opening view valid = within_size (λ input. viewed_opening view (opening_of (lines_of input) (valid && is_some view)))

-- what a run that was asked for a view wrote of its source's input, and how it ended
abbrev pub RunsView : {S : Type 0} → Option View → Bool → Result (Unit {0}) RunFault → Option (List ℕ) → Outgoing S → Outgoing S → Type 0
RunsView view valid result left old new =
    RanFrom result left (λ input. Ran false result (view_opening view valid input) (λ n text. IsSomeAnd view (λ v. text ≡ view_text v n)) old new) old new
