-- Sets of inputs.
use Rattle.std.specs.Prelude.{ℕ, List, [], ◌∷◌, ◌++◌}
use Rattle.mp_holding.specs.declared.input_set.InputSet.{InputSet}
use Rattle.mp_holding.specs.declared.input_set.InputSet.TheVariants as sets
use Rattle.mp_holding.specs.declared.input_set.InputSets.{InputSets}

abbrev pub set_list : InputSet → List (List ℕ)
set_list sets.None = []
set_list (sets.One p) = (p ∷ []) ∷ []
set_list (sets.Two p q) = (p ∷ q ∷ []) ∷ []

abbrev pub sets_list : InputSets → List (List ℕ)
sets_list s = set_list s.first ++ set_list s.second
