-- The names that commands speak of.
use Rattle.std.specs.Prelude.{ℕ, List, [], ◌∷◌}
use Rattle.std.specs.Borrow.{Bor}
use Rattle.mp_request.specs.declared.request.Command.{Command}
use Rattle.mp_request.specs.declared.request.Command.TheVariants.{Report, Check, Show, Why, Path, Measure}

-- the names that a command speaks of, as they were given: of modules and bundles for a report and a check, and else of wires
abbrev pub asked_names : Command → List (Bor (List ℕ))
asked_names (Report words) = words.names.items
asked_names (Check words is_brief) = words.names.items
asked_names (Show words) = words.wires.items
asked_names (Why wire time steps) = wire ∷ []
asked_names (Path wire time from) = wire ∷ []
asked_names (Measure words) = words.names.items
asked_names command = []
