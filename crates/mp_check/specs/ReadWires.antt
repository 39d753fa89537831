-- Which wires are read, as marks by their numbers.
use Rattle.std.specs.Prelude.{◌≡◌, ℕ, ◌<◌, ◌||◌, Bool, false, List, length, take, slice_index_or}
use Rattle.std.specs.List.{list_any}
use Rattle.mp_records.specs.NamedWires.{bundle_names}
use Rattle.mp_netlist.specs.Slots.{stands_and}
use Rattle.mp_netlist.specs.Circuit.{Circuit}
use Rattle.mp_check.specs.Notes.{is_read, module_reads}

-- the mark at a number, none past the end
abbrev pub mark_at : List Bool → ℕ → Bool
mark_at marks w = slice_index_or marks w false

-- each wire that is read is marked, and no other
abbrev pub AreRead : Circuit → List Bool → Type 0
AreRead n marks = (w : ℕ) → w < length n.wires → mark_at marks w ≡ is_read n w

-- the wires that an input of the first modules reads
pub record AreReadByModules (n : Circuit) (m : ℕ) (marks : List Bool) : Type 0 where
  pub places : length marks ≡ length n.wires
  pub each : (w : ℕ) → w < length n.wires → mark_at marks w ≡ list_any (stands_and (module_reads w)) (take m n.modules)

-- those, and the wires that the first bundles name
pub record AreReadByBundles (n : Circuit) (b : ℕ) (marks : List Bool) : Type 0 where
  pub places : length marks ≡ length n.wires
  pub each : (w : ℕ) → w < length n.wires → mark_at marks w ≡ (list_any (stands_and (module_reads w)) n.modules || list_any (stands_and (bundle_names w)) (take b n.bundles))
