-- What is known of the wires that modules are at.
use Rattle.std.specs.Prelude.{◌≡◌, ◌<◌, ℕ, true, false, List, Option, None, Some, length}
use Rattle.mp_records.specs.declared.module_record.ModuleRecord.{ModuleRecord}
use Rattle.mp_records.specs.NamedWires.{module_names}
use Rattle.mp_netlist.specs.Slots.{slot_at}
use Rattle.mp_netlist.specs.Drivers.{port_from}
use Rattle.mp_netlist.specs.DrivenWires.{may_be_driven}
use Rattle.mp_netlist.specs.Around.{is_in, row_at}
use Rattle.mp_netlist.specs.declared.wire_knowledge.WireKnowledge.{WireKnowledge}
use Rattle.mp_netlist.specs.declared.wire_knowledge.WireKnowledge.TheVariants.{Driven, At}

-- the wires that the module drives are marked, or it is noted at each wire of its ports that has a place
abbrev pub Knows : WireKnowledge → ℕ → ModuleRecord → Type 0
Knows (Driven marks) m r = (w : ℕ) → may_be_driven marks.items w ≡ false → port_from 0 r.outputs w ≡ None
Knows (At rows) m r = (w : ℕ) → w < length rows → module_names w r ≡ true → is_in m (row_at rows w) ≡ true

-- so it is for each module
abbrev pub AreKnown : WireKnowledge → List (Option ModuleRecord) → Type 0
AreKnown known slots = (m : ℕ) (r : ModuleRecord) → slot_at slots m ≡ Some r → Knows known m r
