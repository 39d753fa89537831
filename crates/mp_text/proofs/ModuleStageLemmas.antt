-- The edits of a netlist's modules, once its wires are added, are not refused.
use Rattle.mp_text.proofs.Names.{lt-ltb, ◌≡◌, ◌<◌, ◌≤◌, ◌==◌, ◌∷◌, ◌++◌, added_module, ℕ, true, List, [], length, map, get_or, All, Option, Some, None, Ok, option_map, is_none, refl, sym, ap, subst, ◌∙◌, arith, length-append, IsSome, IfSome, slice_index_or, flat_map, list_all, eq-eqb, nat_tests, get_or_at, get_or_append_left, get_or-map, length-map, All-map, All-from_get_or, input_width, output_width, are_params, WireId, ModuleRecord, Input, InputName, OutputName, no_input, output_in, Circuit, IsCircuit, IsModule, HasWidth, Drives, wire_at, module_at, width_of, module_width, HasNames, no_name, some_input, wire_name, module_by_name, module_edits, input_by_name, output_by_name, list_all-from_AllPass, and_from, refusal, edited, after_single, stands, wire_id, width_named, is_undriven, is_delay, is_input_delay, delays_fit, driven_names, first_width, new_width, inputs_stand, inputs_fit, output_fits, outputs_fit, module_checks, input_of, output_of, new_module, without_stimulus, module_limit, map_fixed, map-map, written_format}
use Rattle.mp_text.proofs.FormatLemmas.{modules_fit}
use Rattle.mp_text.proofs.SlotLemmas.{Unnamed, named_nowhere, front_unnamed}
use Rattle.mp_text.proofs.StageLemmas.{none_failing, is_done, Reaches, Added, AddsOne, added_reached, unnamed_again}
use Rattle.mp_text.proofs.OutputLemmas.{output_named, is_output, DrivesNone, undriven_by_name, drives_none, is_nothing_driven, driven_all, driven_distinct, counted_all}
use Rattle.mp_text.proofs.WireStageLemmas.{bare, bare_unset, made, HasWires, HasWires-compact, IsBack, is_back, same_wire}

abbrev module_name : ModuleRecord → List ℕ
module_name r = r.name

-- names that lead to numbers of the same names
map_back : {X Y Z : Type 0} (g : X → Y) (a : Y → Z) (b : Z → Y) (xs : List X) → All (λ x. b (a (g x)) ≡ g x) xs → map b (map a (map g xs)) ≡ map g xs
map_back g a b xs all = map-map b a (map g xs) ∙ map_fixed (λ y. b (a y)) (map g xs) (All-map (λ y. b (a y) ≡ y) g xs all)

-- the wires at the ports of a module are as wide in the other netlist
module _ (n c : Circuit) (has : HasWires n c) (r : ModuleRecord) (is : IsModule n r) where
  abbrev pub input_names : List InputName
  input_names = map (input_by_name n) r.inputs

  abbrev pub output_names : List OutputName
  output_names = map (output_by_name n) r.outputs

  abbrev nowhere : InputName
  nowhere = record { wire = []; delay = 0 }

  input_back : (p : ℕ) → p < length r.inputs → IsBack n c (get_or r.inputs p no_input).wire
  input_back p within = is_back n c has (get_or r.inputs p no_input).wire (is.reads p no_input within).0

  width_first : (inputs : List Input) → 0 < length inputs → (0 < length inputs → IsBack n c (get_or inputs 0 no_input).wire) → first_width c (map (input_by_name n) inputs) ≡ width_of (wire_at n (slice_index_or inputs 0 no_input).wire.0)
  width_first [] some back = grind (arith, nat_tests)
  width_first (i ∷ is) some back = grind (arith, nat_tests)

  pub width_same : new_width c r.kind input_names ≡ module_width n r
  width_same = grind (arith, nat_tests, some_input, width_first, input_back)

  pub inputs_found : inputs_stand c input_names ≡ true
  inputs_found =
      list_all-from_AllPass (λ (i : InputName). stands c i.wire) input_names
      (All-map (λ (i : InputName). stands c i.wire ≡ true) (input_by_name n) r.inputs (All-from_get_or (λ i. stands c (wire_name n i.wire) ≡ true) r.inputs no_input (λ p within. (input_back p within).found)))

  pub inputs_wide : inputs_fit c r.kind (new_width c r.kind input_names) input_names ≡ true
  inputs_wide = counted_all (λ (port : ℕ × InputName). width_named c port.1.wire == input_width r.kind (new_width c r.kind input_names) port.0) input_names nowhere (λ p long.
      let within : p < length r.inputs = omega (arith, long, length-map r.inputs (input_by_name n)) in
      grind (arith, nat_tests, (get_or-map (input_by_name n) r.inputs p no_input nowhere within), (input_back p within).width, (is.reads p no_input within).1, width_same))

  pub params_ranged : are_params r.kind (new_width c r.kind input_names) r.params ≡ true
  params_ranged = ap (λ width. are_params r.kind width r.params) width_same ∙ is.params

  pub output_wires : (p : ℕ) (w : WireId) → (output_in r.outputs p).wire ≡ Some w → HasWidth n w.0 (output_width r.kind (module_width n r) p)
  output_wires p w at = subst (λ wire. IfSome wire (λ (v : WireId). HasWidth n v.0 (output_width r.kind (module_width n r) p))) at (is.drives p)

  pub outputs_found : list_all (stands c) (driven_names output_names) ≡ true
  outputs_found = driven_all (stands c) output_names (λ p q at.
      let o = is_output n r.outputs p q at in
      subst (λ name. stands c name ≡ true) o.name (is_back n c has o.wire (output_wires p o.wire o.drives).0).found)

  output_wide : (p : ℕ) (wire : Option WireId) → (output_in r.outputs p).wire ≡ wire → output_fits c (option_map (wire_name n) wire) (output_width r.kind (new_width c r.kind input_names) p) ≡ true
  output_wide p None at = refl
  output_wide p (Some w) at = let wide = output_wires p w at in grind (arith, nat_tests, wide.1, (is_back n c has w wide.0).width, width_same)

  pub outputs_wide : outputs_fit c r.kind (new_width c r.kind input_names) output_names ≡ true
  outputs_wide = counted_all (λ (port : ℕ × OutputName). output_fits c port.1.wire (output_width r.kind (new_width c r.kind input_names) port.0)) output_names no_name (λ p long.
      subst (λ wire. output_fits c wire (output_width r.kind (new_width c r.kind input_names) p) ≡ true) (sym (output_named n r.outputs p)) (output_wide p (output_in r.outputs p).wire refl))

  inputs_low : list_all (λ (i : InputName). is_input_delay i.delay) input_names ≡ true
  inputs_low = list_all-from_AllPass _ input_names (All-map (λ (i : InputName). is_input_delay i.delay ≡ true) (input_by_name n) r.inputs (λ k d within. grind (arith, nat_tests)))

  outputs_low : list_all (λ (o : OutputName). is_delay o.delay) output_names ≡ true
  outputs_low = list_all-from_AllPass _ output_names (All-map (λ (o : OutputName). is_delay o.delay ≡ true) (output_by_name n) r.outputs (λ k d within. grind (arith, nat_tests, and_from)))

  pub delays_low : delays_fit input_names output_names ≡ true
  delays_low = and_from (list_all (λ (i : InputName). is_input_delay i.delay) input_names) (list_all (λ (o : OutputName). is_delay o.delay) output_names) inputs_low outputs_low

  -- the ports of the new module have the names of the old one's
  inputs_again : map (input_by_name c) (map (input_of c) input_names) ≡ input_names
  inputs_again =
      map_back (input_by_name n) (input_of c) (input_by_name c) r.inputs
      (All-from_get_or (λ i. input_by_name c (input_of c (input_by_name n i)) ≡ input_by_name n i) r.inputs no_input
      (λ p within. grind (arith, (input_back p within).name)))

  abbrev called_as : ℕ → Option (List ℕ) → OutputName
  called_as delay wire = record { wire = wire; delay = delay }

  output_again : (delay p : ℕ) (wire : Option WireId) → (output_in r.outputs p).wire ≡ wire
      → called_as delay (option_map (wire_name c) (option_map (wire_id c) (option_map (wire_name n) wire))) ≡ called_as delay (option_map (wire_name n) wire)
  output_again delay p None at = refl
  output_again delay p (Some w) at = ap (λ name. called_as delay (Some name)) (is_back n c has w (output_wires p w at).0).name

  outputs_again : map (output_by_name c) (map (output_of c) output_names) ≡ output_names
  outputs_again =
      map_back (output_by_name n) (output_of c) (output_by_name c) r.outputs
      (All-from_get_or (λ o. output_by_name c (output_of c (output_by_name n o)) ≡ output_by_name n o) r.outputs (record { wire = None; delay = 1 })
      (λ p within. output_again (output_in r.outputs p).delay p (output_in r.outputs p).wire refl))

  pub added_again : added_module c (new_module c (module_by_name n r)) ≡ added_module n r
  added_again = rw (inputs_again, outputs_again) refl

module _ (n : Circuit) (circuit : IsCircuit n) (named : HasNames n) where
  -- a wire at an output stands
  pub drive_stands : (m p : ℕ) (r : ModuleRecord) (w : WireId) → module_at n m ≡ Some r → (output_in r.outputs p).wire ≡ Some w → IsSome (wire_at n w.0)
  drive_stands m p r w at drives =
      (subst (λ wire. IfSome wire (λ (v : WireId). HasWidth n v.0 (output_width r.kind (module_width n r) p))) drives ((circuit.modules_ok m r at).drives p)).0

  -- ports at wires of one name are one port
  pub one_name : (m p k q : ℕ) (r s : ModuleRecord) (w v : WireId) → module_at n m ≡ Some r → (output_in r.outputs p).wire ≡ Some w → module_at n k ≡ Some s → (output_in s.outputs q).wire ≡ Some v
      → wire_name n w ≡ wire_name n v → (m ≡ k) × (p ≡ q)
  one_name m p k q r s w v at drives there other same =
      let wires = same_wire n named w.0 v.0 (drive_stands m p r w at drives) (drive_stands k q s v there other) same in
      let first : Drives n m p w.0 = record { part = r; stands = at; output = drives } in
      let second : Drives n k q v.0 = record { part = s; stands = there; output = other } in
      circuit.one_port m p k q w.0 first (subst (Drives n k q) (sym wires) second)

  -- the netlist with these modules at wires on which nothing is set
  abbrev pub moduled : List (Option ModuleRecord) → Circuit
  moduled modules = made n (flat_map bare n.wires) modules []

  has_wires : (modules : List (Option ModuleRecord)) → HasWires n (moduled modules)
  has_wires modules = HasWires-compact n circuit named without_stimulus (λ r. refl) (λ r. refl) (moduled modules) refl

  -- the modules of the front are added
  abbrev pub AtModules : List (Option ModuleRecord) → List (Option ModuleRecord) → Circuit → Type 0
  AtModules = Added n.modules (added_module n) (added_module (moduled [])) moduled

  module _ (front back : List (Option ModuleRecord)) (r : ModuleRecord) (split : n.modules ≡ front ++ Some r ∷ back) (modules : List (Option ModuleRecord))
      (same : flat_map (module_edits (moduled [])) modules ≡ flat_map (module_edits n) front) (few : length modules ≤ length front) where
    abbrev c : Circuit
    c = moduled modules

    at : module_at n (length front) ≡ Some r
    at = ap (λ xs. get_or xs (length front) None) split ∙ get_or_at front (Some r) back None (length front) refl

    earlier : (k : ℕ) (s : ModuleRecord) → k < length front → get_or front k None ≡ Some s → module_at n k ≡ Some s
    earlier k s within there = ap (λ xs. get_or xs k None) split ∙ get_or_append_left front (Some r ∷ back) None k within ∙ there

    is : IsModule n r
    is = circuit.modules_ok (length front) r at

    undriven : (p : ℕ) (q : List ℕ) → (get_or (map (output_by_name n) r.outputs) p no_name).wire ≡ Some q → is_undriven c q ≡ true
    undriven p q has =
        let o = is_output n r.outputs p q has in
        let none = drives_none n q front (λ k j s w within there drives name.
        let place = (one_name k j (length front) p s r w o.wire (earlier k s within there) drives at o.drives (name ∙ sym o.name)).0 in
        omega arith) in
        let name = subst (λ q. wire_name c (wire_id c q) ≡ q) o.name (is_back n c (has_wires modules) o.wire (drive_stands (length front) p r o.wire at o.drives)).name in
        is_nothing_driven c (wire_id c q).0 (undriven_by_name c (wire_id c q).0 q name (subst (All (DrivesNone q)) (sym same) none)) (bare_unset n.wires (wire_id c q).0)

    distinct : (p q : ℕ) (name : List ℕ) → (get_or (map (output_by_name n) r.outputs) p no_name).wire ≡ Some name → (get_or (map (output_by_name n) r.outputs) q no_name).wire ≡ Some name → p ≡ q
    distinct p q name first second =
        let a = is_output n r.outputs p name first in
        let b = is_output n r.outputs q name second in
        (one_name (length front) p (length front) q r r a.wire b.wire at a.drives at b.drives (a.name ∙ sym b.name)).1

    unnamed : All (Unnamed module_name r.name) modules
    unnamed =
        unnamed_again n.modules (added_module n) (added_module c) moduled module_name r.name (λ s none. none) (λ s none. none) front modules same
        (front_unnamed module_name n.modules front back r named.one_module split)

    abbrev new : ModuleRecord
    new = new_module c (module_by_name n r)

    module_done : after_single c (added_module n r) ≡ Ok (moduled (modules ++ Some new ∷ []))
    unfolding refusal edited
    module_done =
        let outputs = map (output_by_name n) r.outputs in
        let has = has_wires modules in
        let valid = named.modules (length front) r at in
        let free = ap is_none (named_nowhere module_name r.name modules unnamed) in
        let counts = and_from _ _ (eq-eqb _ _ (length-map r.inputs (input_by_name n) ∙ is.inputs)) (eq-eqb _ _ (length-map r.outputs (output_by_name n) ∙ is.outputs)) in
        let found = and_from _ _ (inputs_found n c has r is) (outputs_found n c has r is) in
        let wide = and_from _ _ (inputs_wide n c has r is) (outputs_wide n c has r is) in
        let unset = and_from _ _ (driven_all (is_undriven c) outputs undriven) (driven_distinct outputs distinct) in
        let within : length front < module_limit (written_format n) = omega (arith, ap length split, length-append front (Some r ∷ back), circuit.modules_few, modules_fit n) in
        let room = lt-ltb (length modules) (module_limit (written_format n)) (omega (arith, few)) in
        is_done c (added_module n r)
        (none_failing (module_checks c (module_by_name n r)) (valid, (free, (counts, (found, (wide, (params_ranged n c has r is, (delays_low n c has r is, (unset, (room, tt))))))))))

    module_added : AddsOne n.modules (added_module n) (added_module (moduled [])) moduled r modules
    module_added = record { new = new; done = module_done; same = added_again n c (has_wires modules) r is }

  -- the modules are added
  pub modules_reached : Reaches (AtModules n.modules []) (moduled []) (flat_map (module_edits n) n.modules)
  modules_reached = added_reached n.modules (added_module n) (added_module (moduled [])) moduled module_added
