-- The least and the greatest of some numbers.
use Rattle.std.specs.Prelude.{ℕ, List, [], ◌∷◌, Option, Some, None, min, max}
use Rattle.std.specs.List.{fold}
use Rattle.mp_questions.specs.declared.timing.extremes.Extremes.{Extremes}

abbrev pub extremes : List ℕ → Option Extremes
extremes [] = None
extremes (number ∷ numbers) = Some (record { least = fold min number numbers; most = fold max number numbers })

-- of those that had these extremes and a further number
abbrev pub widened : Option Extremes → ℕ → Option Extremes
widened None number = Some (record { least = number; most = number })
widened (Some e) number = Some (record { least = min e.least number; most = max e.most number })

-- of those that had these extremes, and of a further number if there is one
abbrev pub widened_by : Option Extremes → Option ℕ → Option Extremes
widened_by found None = found
widened_by found (Some number) = widened found number
