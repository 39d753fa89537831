-- Wires of modules of width 1, and of modules with data.
use Rattle.std.proofs.Common.{◌≡◌, ℕ, ◌<◌, ◌≤◌, Bool, true, false, not, cond, Option, Some, None, IsSome, IfSome, length, nat_lt, refl, sym, ap, ◌∙◌, arith, subst}
use Rattle.std.specs.Prelude.{◌==◌, slice_index_or}
use Rattle.std.proofs.lemmas.Bool.{eqb-true, eq-eqb, false≢true}
use Rattle.std.proofs.lemmas.Bool.Decides.{nat_tests}
use Rattle.std.proofs.lemmas.Option.{same_Some}
use Rattle.mp_modules.specs.Kinds.{shape_of, input_width, output_width}
use Rattle.mp_modules.proofs.KindLemmas.{narrow_input, narrow_output, one_wide_output}
use Rattle.mp_records.specs.declared.ids.WireId.{WireId}
use Rattle.mp_records.specs.declared.ports.Input.{Input}
use Rattle.mp_records.specs.declared.wire_record.WireRecord.{WireRecord}
use Rattle.mp_records.specs.declared.module_record.ModuleRecord.{ModuleRecord}
use Rattle.mp_records.specs.Outputs.{output_at}
use Rattle.mp_netlist.specs.Circuit.{Circuit, IsCircuit, HasWidth, Drives, wire_at, width_of, module_at, module_width}
use Rattle.mp_simulation.proofs.lemmas.bits.ScheduleLemmas.{same_part}
use Rattle.mp_simulation.specs.units.DataLevels.{has_data, is_data}
use Rattle.mp_simulation.specs.run.Widths.{is_bit_module}

data_by : (slot : Option WireRecord) (k : ℕ) → IsSome slot → width_of slot ≡ k → has_data slot ≡ not (k == 1)
data_by None k some is = cc
data_by (Some r) k some is = ap (λ v. not (v == 1)) is

-- a wire that stands has data where its width isn't 1
pub data_is : (n : Circuit) (w k : ℕ) → HasWidth n w k → is_data n w ≡ not (k == 1)
data_is n w k has = data_by (wire_at n w) k has.0 has.1

width_driven : (n : Circuit) (o : Option WireId) (w k : ℕ) → IfSome o (λ v. HasWidth n v.0 k) → o ≡ Some (record { 0 = w }) → HasWidth n w k
width_driven n None w k has is = cc
width_driven n (Some v) w k has is = subst (λ (x : WireId). HasWidth n x.0 k) (same_Some v (record { 0 = w }) is) has

module _ (n : Circuit) (ok : IsCircuit n) where
  drives_width : (m p w : ℕ) (r : ModuleRecord) → module_at n m ≡ Some r → Drives n m p w → HasWidth n w (output_width r.kind (module_width n r) p)
  drives_width m p w r at drv =
      let output : (output_at r p).wire ≡ Some (record { 0 = w }) = subst (λ (s : ModuleRecord). (output_at s p).wire ≡ Some (record { 0 = w })) (same_part n m drv.part r drv.stands at) drv.output in
      width_driven n (output_at r p).wire w (output_width r.kind (module_width n r) p) ((ok.modules_ok m r at).drives p) output

  -- a module of width 1 drives wires of width 1
  pub bit_drives : (m p w : ℕ) (r : ModuleRecord) → module_at n m ≡ Some r → is_bit_module n r ≡ true → Drives n m p w → is_data n w ≡ false
  bit_drives m p w r at bits drv =
      let one : module_width n r ≡ 1 = eqb-true (module_width n r) 1 bits in
      let width : output_width r.kind (module_width n r) p ≡ 1 = narrow_output r.kind (module_width n r) p one in
      data_is n w (output_width r.kind (module_width n r) p) (drives_width m p w r at drv) ∙ ap not (eq-eqb (output_width r.kind (module_width n r) p) 1 width)

  -- and reads such
  pub bit_reads : (m p : ℕ) (d : Input) (r : ModuleRecord) → module_at n m ≡ Some r → is_bit_module n r ≡ true → p < length r.inputs → is_data n (slice_index_or r.inputs p d).wire.0 ≡ false
  bit_reads m p d r at bits within =
      let one : module_width n r ≡ 1 = eqb-true (module_width n r) 1 bits in
      let width : input_width r.kind (module_width n r) p ≡ 1 = narrow_input r.kind (module_width n r) p one in
      data_is n (slice_index_or r.inputs p d).wire.0 (input_width r.kind (module_width n r) p) ((ok.modules_ok m r at).reads p d within)
      ∙ ap not (eq-eqb (input_width r.kind (module_width n r) p) 1 width)

  first_if : (b : Bool) (p wide width : ℕ) → nat_lt p wide ≡ b → wide ≤ 1 → not (cond b width 1 == 1) ≡ true → p ≡ 0
  first_if true p wide width is few data_too = let low : p < wide = grind (arith, nat_tests) in omega arith
  first_if false p wide width is few data_too = absurd (false≢true data_too)

  -- only the first output of a module drives a wire with data
  pub data_first : (m p w : ℕ) → Drives n m p w → is_data n w ≡ true → p ≡ 0
  data_first m p w drv has =
      let r = drv.part in
      let is : is_data n w ≡ not (output_width drv.part.kind (module_width n drv.part) p == 1) =
      data_is n w (output_width drv.part.kind (module_width n drv.part) p) (drives_width m p w drv.part drv.stands drv) in
      first_if (nat_lt p (shape_of drv.part.kind).wide_outputs) p (shape_of drv.part.kind).wide_outputs (module_width n drv.part) refl (one_wide_output drv.part.kind) (sym is ∙ has)
