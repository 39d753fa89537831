-- Parts of a netlist, each with modules of its own and with all wires.
use Rattle.std.specs.Prelude.{◌≡◌, ℕ, ◌+◌, ◌-◌, Bool, false, List, [], ◌∷◌, Option, Some, None, option_map, length, slice_index_or, ◌==◌, if◌then◌else◌}
use Rattle.mp_wave.specs.Waveform.{changes_after}
use Rattle.mp_records.specs.declared.wire_record.WireRecord.{WireRecord}
use Rattle.mp_records.specs.declared.module_record.ModuleRecord.{ModuleRecord}
use Rattle.mp_netlist.specs.Circuit.{Circuit, Drives, wire_at, stimulus_at}
use Rattle.mp_model.specs.Levels.{initial_of}
use Rattle.mp_model.specs.Waves.{level}
use Rattle.mp_partition.specs.runs.Marks.{is_marked}

-- the part in which a module, or what drives a wire, is at home
abbrev pub partition_of : List ℕ → ℕ → ℕ
partition_of homes k = slice_index_or homes k 0

-- the slots of modules, m being the number of the first, without those of modules that are at home elsewhere
abbrev pub slots_at_home : List ℕ → ℕ → ℕ → List (Option ModuleRecord) → List (Option ModuleRecord)
slots_at_home homes part m [] = []
slots_at_home homes part m (slot ∷ slots) = (if partition_of homes m == part then slot else None) ∷ slots_at_home homes part (m + 1) slots

-- what stands in a wire's slot, with these levels below the horizon set on it from outside
abbrev pub set_on_slot : ℕ → (ℕ → ℕ) → Option WireRecord → Option WireRecord
set_on_slot horizon levels None = None
set_on_slot horizon levels (Some r) = Some (record r { stimulus = Some (changes_after levels 0 (horizon - 1)) })

-- the slots of wires, w being the number of the first; those that are heard have their levels from outside
abbrev pub slots_heard : Circuit → List Bool → ℕ → List (Option WireRecord) → List (Option WireRecord)
slots_heard n heard w [] = []
slots_heard n heard w (slot ∷ slots) = (if is_marked heard w then set_on_slot n.horizon (level n w) slot else slot) ∷ slots_heard n heard (w + 1) slots

-- the width of what stands in a wire's slot
abbrev pub width_in : Option WireRecord → Option ℕ
width_in slot = option_map (λ (r : WireRecord). r.width) slot

-- a part as a netlist, in which the levels of wires that are heard come from outside
abbrev pub region : Circuit → List ℕ → ℕ → List Bool → Circuit
region n homes part heard = record {
  format = n.format;
  horizon = n.horizon;
  wires = slots_heard n heard 0 n.wires;
  modules = slots_at_home homes part 0 n.modules;
  bundles = n.bundles;
}

-- no wire that a part hears is driven by a module at home there
abbrev pub HearsOthers : Circuit → List ℕ → ℕ → List Bool → Type 0
HearsOthers n homes part heard = (m p w : ℕ) → Drives n m p w → partition_of homes m ≡ part → is_marked heard w ≡ false

-- a netlist has as many wires as another, with the same widths and initial levels, and the same stimuli on those that aren't heard
pub record HasStimuli (n part : Circuit) (heard : List Bool) : Type 0 where
  pub places : length part.wires ≡ length n.wires
  pub initial : (w : ℕ) → initial_of (wire_at part w) ≡ initial_of (wire_at n w)
  pub widths : (w : ℕ) → width_in (wire_at part w) ≡ width_in (wire_at n w)
  pub same : (w : ℕ) → is_marked heard w ≡ false → stimulus_at part w ≡ stimulus_at n w
