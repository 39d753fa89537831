-- What holds of every edit.
use Rattle.std.specs.Prelude.{◌≡◌, Ok}
use Rattle.mp_records.specs.declared.edit.Edit.{Edit}
use Rattle.mp_netlist.specs.Circuit.{Circuit, IsCircuit}
use Rattle.mp_netlist.specs.Edits.{after}

-- a netlist is one after each edit that is not refused
abbrev pub EditsKeepNetlists : Type 0
EditsKeepNetlists = (n m : Circuit) → IsCircuit n → (edit : Edit) → after n edit ≡ Ok m → IsCircuit m
