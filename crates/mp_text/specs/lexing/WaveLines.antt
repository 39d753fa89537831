-- How a wave is written.
use Rattle.std.specs.Prelude.{◌∷◌, ◌++◌}
use Rattle.mp_text.specs.lexing.Names.{ℕ, List, [], flat_map, decimal}

-- a time and a value, as `5=1`
abbrev pub pair_text : ℕ × ℕ → List ℕ
pair_text change = decimal change.0 ++ (61 ∷ decimal change.1)

-- a pair behind a space
abbrev pub change_text : ℕ × ℕ → List ℕ
change_text change = 32 ∷ pair_text change

abbrev pub changes_text : List (ℕ × ℕ) → List ℕ
changes_text changes = flat_map change_text changes

-- the name, the first level, the changes and a line feed
abbrev pub wave_line : List ℕ → ℕ → List (ℕ × ℕ) → List ℕ
wave_line name initial changes = name ++ (32 ∷ decimal initial ++ (changes_text changes ++ (10 ∷ [])))
