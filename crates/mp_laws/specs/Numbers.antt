-- Numbers are never used again.
use Rattle.std.specs.Prelude.{◌≡◌, ℕ, ◌<◌, ◌≤◌, List, Option, None, Ok, length, IsTrue}
use Rattle.mp_records.specs.declared.wire_record.WireRecord.{WireRecord}
use Rattle.mp_records.specs.declared.module_record.ModuleRecord.{ModuleRecord}
use Rattle.mp_records.specs.declared.bundle_record.BundleRecord.{BundleRecord}
use Rattle.mp_records.specs.declared.edit.Edit.{Edit}
use Rattle.mp_netlist.specs.Slots.{slot_at, has_name}
use Rattle.mp_netlist.specs.Circuit.{Circuit}
use Rattle.mp_netlist.specs.Edits.{after}
use Rattle.mp_netlist.specs.Replays.{replay}

-- the numbers of the old slots are not used again: an empty slot stays empty, and what stands in a slot stood there under its name
pub record KeepsNumbers {R : Type 0} (name_of : R → List ℕ) (old new : List (Option R)) : Type 0 where
  pub longer : length old ≤ length new
  pub empty : (number : ℕ) → number < length old → slot_at old number ≡ None → slot_at new number ≡ None
  pub named :
      (number : ℕ) (name : List ℕ)
      → number < length old → IsTrue (has_name name_of name (slot_at new number)) → IsTrue (has_name name_of name (slot_at old number))

-- the horizon stays, and no number of a wire, a module or a bundle is used again
pub record UsesNumbersOnce (n m : Circuit) : Type 0 where
  pub format : m.format ≡ n.format
  pub horizon : m.horizon ≡ n.horizon
  pub wires : KeepsNumbers (λ (r : WireRecord). r.name) n.wires m.wires
  pub modules : KeepsNumbers (λ (r : ModuleRecord). r.name) n.modules m.modules
  pub bundles : KeepsNumbers (λ (r : BundleRecord). r.name) n.bundles m.bundles

-- no edit that is accepted, a batch among them, uses a number again or changes the horizon
abbrev pub EditsUseNumbersOnce : Type 0
EditsUseNumbersOnce = (n m : Circuit) (edit : Edit) → after n edit ≡ Ok m → UsesNumbersOnce n m

-- nor do any edits, one after the other
abbrev pub ReplaysUseNumbersOnce : Type 0
ReplaysUseNumbersOnce = (n m : Circuit) (edits : List Edit) → replay n edits ≡ Ok m → UsesNumbersOnce n m
