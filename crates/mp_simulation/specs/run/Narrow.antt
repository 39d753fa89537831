-- Netlists without data.
use Rattle.std.specs.Prelude.{◌≡◌, ℕ, Bool, true, Option, Some, None, ◌==◌}
use Rattle.mp_records.specs.declared.wire_record.WireRecord.{WireRecord}
use Rattle.mp_records.specs.declared.module_record.ModuleRecord.{ModuleRecord}
use Rattle.mp_netlist.specs.Circuit.{Circuit, wire_at, module_at, module_width}
use Rattle.mp_simulation.specs.run.Widths.{is_bit_module}

-- wires and modules have width 1
pub record IsNarrow (n : Circuit) : Type 0 where
  pub wires : (w : ℕ) (r : WireRecord) → wire_at n w ≡ Some r → r.width ≡ 1
  pub modules : (m : ℕ) (r : ModuleRecord) → module_at n m ≡ Some r → module_width n r ≡ 1

-- what stands in a wire's slot, if anything, has width 1
abbrev pub has_one_bit : Option WireRecord → Bool
has_one_bit None = true
has_one_bit (Some wire) = wire.width == 1

-- and what stands in a module's
abbrev pub has_bit_module : Circuit → Option ModuleRecord → Bool
has_bit_module n None = true
has_bit_module n (Some r) = is_bit_module n r
