-- The wires that are asked for by name.
use Rattle.std.specs.Prelude.{ℕ, ◌==◌, Bool, List, [], ◌∷◌, ◌++◌, length, map, position, Option, Some, None, is_none, if◌then◌else◌}
use Rattle.std.specs.List.{fold, list_any, range_with_len}
use Rattle.mp_records.specs.declared.ids.WireId.{WireId}
use Rattle.mp_netlist.specs.Circuit.{Circuit, wire_named}

-- the place of the first name that no wire has
abbrev pub missing_at : Circuit → List (List ℕ) → Option ℕ
missing_at n names = position (λ name. is_none (wire_named n name)) names

abbrev pub wire_id : ℕ → WireId
wire_id w = record { 0 = w }

abbrev pub is_wire : WireId → WireId → Bool
is_wire wire other = wire.0 == other.0

-- the wires of so many slots
abbrev pub all_wires : ℕ → List WireId
all_wires slots = map wire_id (range_with_len 0 slots)

-- a wire behind others, unless it is one of them
abbrev pub with_wire : List WireId → Option ℕ → List WireId
with_wire wires None = wires
with_wire wires (Some w) = if list_any (is_wire (wire_id w)) wires then wires else wires ++ wire_id w ∷ []

-- the wires of these names that stand, each once, in the order of its first name
abbrev pub named_wires : Circuit → List (List ℕ) → List WireId
named_wires n names = fold (λ wires name. with_wire wires (wire_named n name)) [] names

-- the wires of these names, or all where there are none
abbrev pub wires_of : Circuit → List (List ℕ) → List WireId
wires_of n [] = all_wires (length n.wires)
wires_of n (name ∷ names) = named_wires n (name ∷ names)
