-- A module of a netlist has a width that its kind can have.
use Rattle.std.proofs.Common.{◌≡◌, ℕ, ◌<◌, ◌≤◌, true, Option, Some, None, IsSome, length, slice_index_or, refl, arith}
use Rattle.mp_records.specs.declared.wire_record.WireRecord.{WireRecord}
use Rattle.mp_records.specs.declared.module_record.ModuleRecord.{ModuleRecord}
use Rattle.mp_records.specs.Inputs.{no_input}
use Rattle.mp_netlist.specs.Circuit.{Circuit, IsCircuit, IsModule, wire_at, width_of, module_width}
use Rattle.mp_modules.proofs.KindLemmas.{some_input, width_from_fits}
use Rattle.mp_modules.specs.storage.AnyModules.{is_width_of}

-- a wire that stands has a width
pub wire_width : (n : Circuit) → IsCircuit n → (w : ℕ) → IsSome (wire_at n w) → (1 ≤ width_of (wire_at n w)) × (width_of (wire_at n w) ≤ 64)
wire_width n ok w some = by (wire_at n w) refl some
  where
    by : (slot : Option WireRecord) → wire_at n w ≡ slot → IsSome slot → (1 ≤ width_of slot) × (width_of slot ≤ 64)
    by None at some = cc
    by (Some r) at some = let is_wire = ok.wires_ok w r at in (is_wire.wide, is_wire.narrow)

pub width_of_module : (n : Circuit) → IsCircuit n → (r : ModuleRecord) → IsModule n r → is_width_of r.kind (module_width n r) ≡ true
width_of_module n ok r is_module =
    let some : 0 < length r.inputs = omega (arith, is_module.inputs, some_input r.kind) in
    let first = is_module.reads 0 no_input some in
    let wide = wire_width n ok (slice_index_or r.inputs 0 no_input).wire.0 first.0 in
    width_from_fits r.kind _ wide.0 wide.1 first.1
