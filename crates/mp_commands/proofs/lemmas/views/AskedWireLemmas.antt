-- The wires of names.
use Rattle.std.proofs.Common.{◌≡◌, ℕ, ◌+◌, ◌<◌, List, [], ◌∷◌, length, take, get_or, ap, ◌∙◌}
use Rattle.std.proofs.lemmas.List.{take_more}
use Rattle.std.proofs.lemmas.Grind.{fold-append}
use Rattle.mp_records.specs.declared.ids.WireId.{WireId}
use Rattle.mp_netlist.specs.Circuit.{Circuit, wire_named}
use Rattle.mp_commands.specs.views.AskedWires.{with_wire, named_wires}

-- with one name more
pub named_more : (n : Circuit) (names : List (List ℕ)) (i : ℕ) (d : List ℕ) → i < length names
    → named_wires n (take (i + 1) names) ≡ with_wire (named_wires n (take i names)) (wire_named n (get_or names i d))
named_more n names i d within =
    ap (named_wires n) (take_more names i d within)
    ∙ fold-append (λ (wires : List WireId) (name : List ℕ). with_wire wires (wire_named n name)) [] (take i names) (get_or names i d ∷ [])
