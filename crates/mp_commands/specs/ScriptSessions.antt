-- A netlist that a script edits.
use Rattle.std.specs.Prelude.{◌≡◌, ◌∷◌, ◌++◌}
use Rattle.mp_commands.specs.Names.{Edit, EditError, Circuit, after, counted_edit, Kept, [], Result, Ok, Err, IsWork}

-- a netlist before the first edit
abbrev pub opened : Circuit → Kept
opened n = record { netlist = n; edits = []; work = [] }

-- this edit led from what was kept to this: the work is all that it made
pub record IsOneMore (old : Kept) (edit : Edit) (new : Kept) : Type 0 where
  pub edits : new.edits ≡ old.edits ++ edit ∷ []
  pub work : IsWork old.netlist new.netlist new.work

-- the netlist after an edit, or why the edit is refused: for its own fault, and else for a full history
abbrev pub judged : Kept → Edit → Result Circuit EditError
judged kept edit = counted_edit kept.edits (after kept.netlist edit)

-- what is kept after an edit that leads to a netlist or is refused: if it is refused, what was kept before
abbrev pub IsKeptAfter : Kept → Edit → Result Circuit EditError → Kept → Type 0
IsKeptAfter old edit (Err error) new = new ≡ old
IsKeptAfter old edit (Ok n) new = (new.netlist ≡ n) × IsOneMore old edit new
