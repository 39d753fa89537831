-- A netlist and what was made of it.
use Rattle.std.specs.Prelude.{◌≡◌, ℕ, ◌+◌, ◌≤◌, Some, IsSome, Ok, length}
use Rattle.mp_records.specs.declared.edit.Edit.{Edit}
use Rattle.mp_records.specs.declared.ids.ModuleId.{ModuleId}
use Rattle.mp_records.specs.declared.wire_record.WireRecord.{WireRecord}
use Rattle.mp_records.specs.declared.module_record.ModuleRecord.{ModuleRecord}
use Rattle.mp_netlist.specs.declared.driver.Driver.TheVariants.{Port}
use Rattle.mp_netlist.specs.Circuit.{Circuit, wire_at, module_at, stimulus_at}
use Rattle.mp_netlist.specs.Drivers.{driver}
use Rattle.mp_netlist.specs.Edits.{after}
use Rattle.mp_model.specs.Waves.{state}

-- the new netlist has the horizon and the numbers of the old one, and a wire that stands in both has the same width and initial level
pub record IsRevision (old new : Circuit) : Type 0 where
  pub horizon : new.horizon ≡ old.horizon
  pub wires : length old.wires ≤ length new.wires
  pub modules : length old.modules ≤ length new.modules
  pub widths : (w : ℕ) (r s : WireRecord) → wire_at old w ≡ Some r → wire_at new w ≡ Some s → r.width ≡ s.width
  pub initials : (w : ℕ) (r s : WireRecord) → wire_at old w ≡ Some r → wire_at new w ≡ Some s → r.initial ≡ s.initial

-- an edit that isn't refused, a batch among them, makes a revision
abbrev pub EditsRevise : Type 0
EditsRevise = (old new : Circuit) (edit : Edit) → after old edit ≡ Ok new → IsRevision old new

-- the module stands in both netlists with this record
pub record IsKept (old new : Circuit) (m : ℕ) (r : ModuleRecord) : Type 0 where
  pub before : module_at old m ≡ Some r
  pub after : module_at new m ≡ Some r

-- the module's states before the time agree
abbrev pub AgreeBefore : Circuit → Circuit → ℕ → ℕ → Type 0
AgreeBefore old new m t = (u : ℕ) → u + 1 ≡ t → state old m u ≡ state new m u

-- the wire stands in both netlists, and the same drives it: nothing, one stimulus, or one port of a module that has the same record
pub record IsDrivenAlike (old new : Circuit) (w : ℕ) : Type 0 where
  pub before : IsSome (wire_at old w)
  pub after : IsSome (wire_at new w)
  pub one : driver old w ≡ driver new w
  pub stimulus : stimulus_at old w ≡ stimulus_at new w
  pub part : (m : ModuleId) (p : ℕ) → driver new w ≡ Port m p → module_at old m.0 ≡ module_at new m.0
