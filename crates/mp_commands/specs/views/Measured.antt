-- The measures that commands write and questions ask for.
use Rattle.std.specs.Prelude.{ℕ, List, [], ◌∷◌}
use Rattle.mp_netlist.specs.Circuit.{Circuit}
use Rattle.mp_questions.specs.timing.Measures.{measure, wire_measures}

-- of the wires of these names, or of all wires and bundles where there are none
abbrev pub measure_of : Circuit → ℕ → ℕ → List (List ℕ) → List ℕ
measure_of n from to [] = measure n from to
measure_of n from to (name ∷ names) = wire_measures n from to (name ∷ names)
