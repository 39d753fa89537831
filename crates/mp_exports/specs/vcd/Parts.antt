-- What is told of wires before their changes.
use Rattle.mp_exports.specs.vcd.Names.{WireRecord, Circuit, ℕ, List, [], Option, Some, None, PreamblePart, Declarations, FirstLevels}
use Rattle.mp_exports.specs.vcd.Dumps.{declaration, value_at}

-- the line of a part for a wire
abbrev pub part_line : Circuit → PreamblePart → ℕ → List ℕ
part_line n Declarations w = declaration n w
part_line n FirstLevels w = value_at n 0 w

-- the line for a wire where it stands
abbrev pub slot_text : (ℕ → List ℕ) → ℕ → Option WireRecord → List ℕ
slot_text told w None = []
slot_text told w (Some r) = told w
