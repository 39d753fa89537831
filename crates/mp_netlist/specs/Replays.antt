-- A list of edits, one after the other.
use Rattle.std.specs.Prelude.{List, [], ◌∷◌, Result, Ok}
use Rattle.mp_records.specs.declared.edit.Edit.{Edit}
use Rattle.mp_records.specs.declared.edit_error.EditError.{EditError}
use Rattle.mp_netlist.specs.Circuit.{Circuit}
use Rattle.mp_records.specs.declared.single_edit.SingleEdit.{SingleEdit}
use Rattle.mp_netlist.specs.Edits.{after, after_single, go_on}

-- the netlist after the edits, or the error of the first that is refused
abbrev pub replay : Circuit → List Edit → Result Circuit EditError
replay n [] = Ok n
replay n (edit ∷ edits) = go_on (λ next. replay next edits) (after n edit)

-- the same of edits of one thing
abbrev pub replay_singles : Circuit → List SingleEdit → Result Circuit EditError
replay_singles n [] = Ok n
replay_singles n (edit ∷ edits) = go_on (λ next. replay_singles next edits) (after_single n edit)
