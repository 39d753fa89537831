-- The lines of a session's edits make the session again.
use Rattle.std.specs.Prelude.{◌≡◌, ◌≤◌, ◌∷◌}
use Rattle.mp_commands.specs.Names.{Edit, Circuit, IsCircuit, replay, lines_of, Kept, ℕ, false, List, [], length, Ok, max_edits, edit_lines}
use Rattle.mp_commands.specs.ScriptSessions.{opened}
use Rattle.mp_commands.specs.Replies.{IsNext}

-- lines lead from what is kept before them to what is kept after them, where memory is wanting for none
unfoldable pub LeadTo : Kept → List (List ℕ) → Kept → Type 0
LeadTo kept [] last = last ≡ kept
LeadTo kept (line ∷ lines) last = (next : Kept) × IsNext false kept line next × LeadTo next lines last

-- where edits lead from one netlist to another, no more of them than a session may have, their lines lead to that netlist by just these edits
abbrev pub IsMadeAgain : Type 0
IsMadeAgain =
    (n m : Circuit) → IsCircuit n → (edits : List Edit) → replay n edits ≡ Ok m → length edits ≤ max_edits
    → (last : Kept) → LeadTo (opened n) (lines_of (edit_lines edits)) last → (last.netlist ≡ m) × (last.edits ≡ edits)
