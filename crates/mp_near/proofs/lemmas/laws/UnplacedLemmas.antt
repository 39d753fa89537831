-- A record whose wires are picked comes back from its new numbers.
use Rattle.std.proofs.Common.{◌≡◌, ℕ, true, List, [], ◌∷◌, Option, Some, None, option_map, map, suc, refl, ap, sym, ◌∙◌, arith}
use Rattle.std.specs.Prelude.{Contains}
use Rattle.mp_records.specs.declared.ids.WireId.{WireId}
use Rattle.mp_records.specs.declared.ports.Input.{Input}
use Rattle.mp_records.specs.declared.ports.Output.{Output}
use Rattle.mp_records.specs.declared.module_record.ModuleRecord.{ModuleRecord}
use Rattle.mp_records.specs.Outputs.{output_in}
use Rattle.mp_netlist.specs.Circuit.{Circuit, module_at}
use Rattle.mp_near.specs.laws.Picking.{Picking, has_wire, placed_input, placed_wire, placed_output, placed, IsPicking, HasPicked}
use Rattle.mp_near.proofs.lemmas.laws.PlacedLemmas.{at_place, picked_there, reads_picked}

module _ (pick : Picking) where
  abbrev place : ℕ → ℕ
  place w = pick.place_of w

  abbrev back : ℕ → ℕ
  back k = pick.wire_of k

  inputs_back : (inputs : List Input) → ((i : Input) → Contains inputs i → has_wire pick i.wire.0 ≡ true) → map (placed_input back) (map (placed_input place) inputs) ≡ inputs
  inputs_back [] picked = refl
  inputs_back (i ∷ rest) picked =
      let number = at_place pick i.wire.0 (picked i (0, omega arith, refl)) in
      let first : placed_input back (placed_input place i) ≡ i = ap (λ (w : ℕ). let x : Input = record { wire = record { 0 = w }; delay = i.delay } in x) number in
      let others = inputs_back rest (λ v contains. picked v (suc contains.0, omega (arith, contains.1), contains.2)) in
      ap (λ x. x ∷ map (placed_input back) (map (placed_input place) rest)) first ∙ ap (λ xs. i ∷ xs) others

  wire_back : (wire : Option WireId) → ((w : WireId) → wire ≡ Some w → has_wire pick w.0 ≡ true) → option_map (placed_wire back) (option_map (placed_wire place) wire) ≡ wire
  wire_back None picked = refl
  wire_back (Some w) picked = ap (λ (v : ℕ). let x : Option WireId = Some (record { 0 = v }) in x) (at_place pick w.0 (picked w refl))

  outputs_back : (outputs : List Output) → ((p : ℕ) (w : WireId) → (output_in outputs p).wire ≡ Some w → has_wire pick w.0 ≡ true) → map (placed_output back) (map (placed_output place) outputs) ≡ outputs
  outputs_back [] picked = refl
  outputs_back (o ∷ rest) picked =
      let first : placed_output back (placed_output place o) ≡ o = ap (λ (w : Option WireId). let x : Output = record { wire = w; delay = o.delay } in x) (wire_back o.wire (picked 0)) in
      let others = outputs_back rest (λ p. picked (suc p)) in
      ap (λ x. x ∷ map (placed_output back) (map (placed_output place) rest)) first ∙ ap (λ xs. o ∷ xs) others

module _ (n s : Circuit) (pick : Picking) (levels : ℕ → ℕ → ℕ) (is : IsPicking n pick) (has : HasPicked n s pick levels) where
  record_back : (k : ℕ) (r : ModuleRecord) → module_at n (pick.module_of k) ≡ Some r → placed pick.wire_of (placed pick.place_of r) ≡ r
  record_back k r at =
      ap (λ (inputs : List Input). let x : ModuleRecord = record r { inputs = inputs; outputs = map (placed_output pick.wire_of) (map (placed_output pick.place_of) r.outputs) } in x)
      (inputs_back pick r.inputs (λ i contains. reads_picked n s pick levels is has k r i at contains))
      ∙ ap (λ (outputs : List Output). let x : ModuleRecord = record r { outputs = outputs } in x)
      (outputs_back pick r.outputs (λ p w e. is.driven (pick.module_of k) p w.0 (picked_there n s pick levels is has k r at) (record { part = r; stands = at; output = e })))

  -- so what stands in the slot of a picked module is known from its new slot
  pub module_back : (k : ℕ) → module_at n (pick.module_of k) ≡ option_map (placed pick.wire_of) (module_at s k)
  module_back k = by (module_at n (pick.module_of k)) refl ∙ ap (option_map (placed pick.wire_of)) (sym (has.modules k))
    where
      by : (slot : Option ModuleRecord) → module_at n (pick.module_of k) ≡ slot → module_at n (pick.module_of k) ≡ option_map (placed pick.wire_of) (option_map (placed pick.place_of) (module_at n (pick.module_of k)))
      by None at = at ∙ ap (λ slot. option_map (placed pick.wire_of) (option_map (placed pick.place_of) slot)) (sym at)
      by (Some r) at =
          at ∙ ap (λ (x : ModuleRecord). Some x) (sym (record_back k r at))
          ∙ ap (λ slot. option_map (placed pick.wire_of) (option_map (placed pick.place_of) slot)) (sym at)
