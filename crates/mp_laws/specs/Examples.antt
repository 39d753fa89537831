-- Small examples of what the laws speak of.
use Rattle.std.specs.Prelude.{◌≡◌, ℕ, List, [], ◌∷◌, ◌++◌, Option, None, Some, Ok, Err, codes, map}
use Rattle.mp_records.specs.declared.wire_record.WireRecord.{WireRecord}
use Rattle.mp_records.specs.declared.edit.Edit.TheVariants.{Single, Batch}
use Rattle.mp_records.specs.declared.single_edit.SingleEdit.{SingleEdit}
use Rattle.mp_records.specs.declared.single_edit.SingleEdit.TheVariants.{AddWire, RemoveWire}
use Rattle.mp_records.specs.declared.edit_error.EditError.TheVariants.{BadWidth, BadBatch, InBatch}
use Rattle.mp_netlist.specs.declared.format.Format.TheVariants.{Standard}
use Rattle.mp_netlist.specs.Circuit.{Circuit, empty_circuit}
use Rattle.mp_netlist.specs.Edits.{after}
use Rattle.mp_netlist.specs.Replays.{replay}
use Rattle.mp_text.specs.declared.text_code.TextCode.TheVariants.{NoHorizon, Refused}
use Rattle.mp_text.specs.Texts.{text_at}

abbrev pub add : List ℕ → SingleEdit
add name = AddWire name 1 0

abbrev pub bare_wire : List ℕ → WireRecord
bare_wire name = record { name = name; width = 1; initial = 0; stimulus = None }

-- the netlist of horizon 10 with these wires
abbrev pub of_wires : List (Option WireRecord) → Circuit
of_wires wires = record (empty_circuit Standard 10) { wires = wires }

-- two wires of two names are added, two of one name are refused at the second, and no edits are no batch
pub record BatchExamples : Type 0 where
  pub made : after (empty_circuit Standard 10) (Batch (add (codes "a") ∷ add (codes "b") ∷ [])) ≡ Ok (of_wires (Some (bare_wire (codes "a")) ∷ Some (bare_wire (codes "b")) ∷ []))
  pub in_place : after (empty_circuit Standard 10) (Batch (add (codes "a") ∷ add (codes "a") ∷ [])) ≡ Err (InBatch 2 1)
  pub none : after (empty_circuit Standard 10) (Batch []) ≡ Err BadBatch

-- the number of a wire that went isn't given to the next
abbrev pub NumberExample : Type 0
NumberExample =
    replay (empty_circuit Standard 10) (map Single (add (codes "a") ∷ RemoveWire (codes "a") ∷ add (codes "a") ∷ [])) ≡ Ok (of_wires (None ∷ Some (bare_wire (codes "a")) ∷ []))

-- a text that is refused at its second line, whose first is read; one that is refused at its first, and one that lacks only a horizon
pub record TextExamples : Type 0 where
  pub at_second : text_at (codes "horizon 10" ++ 10 ∷ codes "wire a 0 0") ≡ Err (record { line = 2; code = Refused BadWidth })
  pub at_first : text_at (codes "wire a 1 0") ≡ Err (record { line = 1; code = NoHorizon })
  pub lacking : text_at (codes "format 2") ≡ Err (record { line = 1; code = NoHorizon })
  pub with_horizon : text_at (codes "format 2" ++ 10 ∷ codes "horizon 1") ≡ Ok (empty_circuit Standard 1)
