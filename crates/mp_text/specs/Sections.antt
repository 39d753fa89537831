-- The sections of a netlist's text, slot by slot.
use Rattle.mp_text.specs.Names.{flat_map, Circuit, wire_at, module_at, bundle_at, ℕ, List, length, Section, Wires, Modules, Stimuli, Bundles}
use Rattle.mp_text.specs.Written.{wire_line, module_line, stimulus_line, bundle_line}

-- how many slots a section goes through
abbrev pub slot_count : Circuit → Section → ℕ
slot_count n Wires = length n.wires
slot_count n Modules = length n.modules
slot_count n Stimuli = length n.wires
slot_count n Bundles = length n.bundles

-- the line of the slot of this number, and none where nothing stands in it
abbrev pub slot_line : Circuit → Section → ℕ → List ℕ
slot_line n Wires number = wire_line (wire_at n number)
slot_line n Modules number = module_line n (module_at n number)
slot_line n Stimuli number = stimulus_line (wire_at n number)
slot_line n Bundles number = bundle_line n (bundle_at n number)

-- the lines of a section, by number
abbrev pub section_text : Circuit → Section → List ℕ
section_text n Wires = flat_map wire_line n.wires
section_text n Modules = flat_map (module_line n) n.modules
section_text n Stimuli = flat_map stimulus_line n.wires
section_text n Bundles = flat_map (bundle_line n) n.bundles
