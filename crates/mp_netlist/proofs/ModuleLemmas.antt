-- A new module that passes the checks of an edit is one of the netlist.
use Rattle.std.proofs.Common.{◌≡◌, ℕ, ◌<◌, ◌≤◌, Bool, true, ◌==◌, List, [], ◌∷◌, length, map, get_or, Option, Some, None, option_map, refl, sym, ap, subst, ◌∙◌, arith, ◌⊎◌, inl, inr}
use Rattle.std.specs.List.{list_all, enumerate_from, All}
use Rattle.std.specs.Option.{IfSome, is_some}
use Rattle.std.specs.Prelude.{slice_index_or}
use Rattle.std.proofs.lemmas.Bool.{and_parts, eqb-true, cases_lt}
use Rattle.std.proofs.lemmas.List.{get_or_past, get_or-map, length-map}
use Rattle.std.proofs.lemmas.List.FromFn.{get_or-enumerate_from, length-enumerate_from}
use Rattle.std.proofs.lemmas.List.Recursion.{and_at}
use Rattle.mp_modules.specs.declared.kind.Kind.{Kind}
use Rattle.mp_modules.specs.Kinds.{input_count, output_count, width_from, input_width, output_width, are_params}
use Rattle.mp_records.specs.declared.ids.WireId.{WireId}
use Rattle.mp_records.specs.declared.module_record.ModuleRecord.{ModuleRecord}
use Rattle.mp_records.specs.declared.new_module.NewModule.{NewModule}
use Rattle.mp_records.specs.declared.ports.Input.{Input}
use Rattle.mp_records.specs.declared.ports.Output.{Output}
use Rattle.mp_records.specs.declared.port_names.InputName.{InputName}
use Rattle.mp_records.specs.declared.port_names.OutputName.{OutputName}
use Rattle.mp_records.specs.Inputs.{no_input}
use Rattle.mp_records.specs.Outputs.{output_at}
use Rattle.mp_netlist.specs.Circuit.{Circuit, IsModule, IsDelay, IsInputDelay, HasWidth, wire_at, width_of, module_width}
use Rattle.mp_netlist.specs.Drivers.{driver, is_nothing}
use Rattle.mp_netlist.specs.Edits.{stands, wire_id, width_named, is_undriven, is_delay, is_input_delay, delays_fit, driven_names, are_distinct, first_width, new_width, inputs_stand, inputs_fit, output_fits, outputs_fit, input_of, output_of, new_module}
use Rattle.mp_netlist.proofs.NameLemmas.{Stands, stands_from, one_wire}
use Rattle.mp_modules.proofs.KindLemmas.{some_input}
use Rattle.mp_netlist.proofs.PortLemmas.{no_name, driven_pass, distinct_ports}
use Rattle.mp_netlist.proofs.PortEditLemmas.{delay_at, input_delay_at}

-- a wire that a name finds has the width that the name stands for
pub stands_wide : (n : Circuit) (name : List ℕ) → Stands n name → (width : ℕ) → width_named n name ≡ width → HasWidth n (wire_id n name).0 width
stands_wide n name wire width same = (ap is_some wire.at, ap width_of wire.at ∙ sym wire.width ∙ same)

-- each place of a list that passes a test passes it, counted
counted_pass : {X : Type 0} (test : ℕ × X → Bool) (xs : List X) (d : X) (k : ℕ) → list_all test (enumerate_from 0 xs) ≡ true → k < length xs → test (k, get_or xs k d) ≡ true
counted_pass {X = X} test xs d k all here =
    let long : k < length (enumerate_from 0 xs) = omega (arith, length-enumerate_from 0 xs) in
    let at = and_at (list_all test) test refl (λ _ _. refl) (enumerate_from 0 xs) k (0, d) long all in
    subst (λ (pair : ℕ × X). test pair ≡ true) (get_or-enumerate_from 0 xs k (0, d) here ∙ ap (λ i. (i, get_or xs k d)) (omega arith)) at

-- an input that is nothing
abbrev nowhere : InputName
nowhere = record { wire = []; delay = 0 }

-- the ports of an edit that passes its checks
pub record ArePorts (n : Circuit) (kind : Kind) (inputs : List InputName) (outputs : List OutputName) : Type 0 where
  pub inputs_count : length inputs ≡ input_count kind
  pub outputs_count : length outputs ≡ output_count kind
  pub reads_stand : inputs_stand n inputs ≡ true
  pub outputs_stand : list_all (stands n) (driven_names outputs) ≡ true
  pub inputs_wide : inputs_fit n kind (new_width n kind inputs) inputs ≡ true
  pub outputs_wide : outputs_fit n kind (new_width n kind inputs) outputs ≡ true
  pub delays : delays_fit inputs outputs ≡ true
  pub undriven : list_all (is_undriven n) (driven_names outputs) ≡ true
  pub distinct : are_distinct (driven_names outputs) ≡ true

module _ (n : Circuit) (new : NewModule) (ports : ArePorts n new.kind new.inputs new.outputs) where
  abbrev added : ModuleRecord
  added = new_module n new

  input_stands : (p : ℕ) → p < length new.inputs → Stands n (get_or new.inputs p nowhere).wire
  input_stands p here =
      stands_from n _ (and_at (list_all (λ (i : InputName). stands n i.wire)) (λ (i : InputName). stands n i.wire) refl (λ _ _. refl) new.inputs p nowhere here ports.reads_stand)

  first_is : (names : List InputName) → 0 < length names → first_width n names ≡ width_named n (get_or names 0 nowhere).wire
  first_is [] some = absurd (omega arith)
  first_is (first ∷ rest) some = refl

  width_is : module_width n added ≡ new_width n new.kind new.inputs
  width_is =
      let some : 0 < length new.inputs = omega (arith, ports.inputs_count, some_input new.kind) in
      let wire = input_stands 0 some in
      let here = ap (λ (i : Input). i.wire.0) (get_or-map (input_of n) new.inputs 0 nowhere no_input some) in
      let same = ap (λ w. width_of (wire_at n w)) here ∙ ap width_of wire.at ∙ sym wire.width ∙ sym (first_is new.inputs some) in
      ap (width_from new.kind) same

  reads : (p : ℕ) (i : Input) → p < length (map (input_of n) new.inputs) → HasWidth n (slice_index_or (map (input_of n) new.inputs) p i).wire.0 (input_width new.kind (module_width n added) p)
  reads p i long =
      let here : p < length new.inputs = omega (arith, length-map new.inputs (input_of n)) in
      let test : ℕ × InputName → Bool = λ port. width_named n port.1.wire == input_width new.kind (new_width n new.kind new.inputs) port.0 in
      let fits = eqb-true _ _ (counted_pass test new.inputs nowhere p ports.inputs_wide here) in
      let at = get_or-map (input_of n) new.inputs p nowhere i here in
      let wide = stands_wide n _ (input_stands p here) _ (fits ∙ ap (λ width. input_width new.kind width p) (sym width_is)) in
      subst (λ (j : Input). HasWidth n j.wire.0 (input_width new.kind (module_width n added) p)) (sym at) wide

  -- an output port of the new module is that of the edit
  port_is : (p : ℕ) → output_at added p ≡ output_of n (get_or new.outputs p no_name)
  port_is p = by (cases_lt p (length new.outputs))
    where
      by : (p < length new.outputs) ⊎ (length new.outputs ≤ p) → output_at added p ≡ output_of n (get_or new.outputs p no_name)
      by (inl here) = get_or-map (output_of n) new.outputs p no_name (record { wire = None; delay = 1 }) here
      by (inr past) =
          let long : length (map (output_of n) new.outputs) ≤ p = omega (arith, length-map new.outputs (output_of n)) in
          get_or_past (map (output_of n) new.outputs) p (record { wire = None; delay = 1 }) long ∙ sym (ap (output_of n) (get_or_past new.outputs p no_name past))

  wire_is : (p : ℕ) → (output_at added p).wire ≡ option_map (wire_id n) (get_or new.outputs p no_name).wire
  wire_is p = ap (λ (o : Output). o.wire) (port_is p)

  -- a port that names a wire is within the ports
  named_within : (p : ℕ) (q : List ℕ) → (get_or new.outputs p no_name).wire ≡ Some q → p < length new.outputs
  named_within p q at = by (cases_lt p (length new.outputs))
    where
      by : (p < length new.outputs) ⊎ (length new.outputs ≤ p) → p < length new.outputs
      by (inl here) = here
      by (inr past) = let none = sym (ap (λ (o : OutputName). o.wire) (get_or_past new.outputs p no_name past)) ∙ at in cc

  port_stands : (p : ℕ) (q : List ℕ) → (get_or new.outputs p no_name).wire ≡ Some q → Stands n q
  port_stands p q at = stands_from n q (driven_pass (stands n) new.outputs p q ports.outputs_stand at)

  port_wide : (p : ℕ) (q : List ℕ) → (get_or new.outputs p no_name).wire ≡ Some q → width_named n q ≡ output_width new.kind (module_width n added) p
  port_wide p q at =
      let fits = counted_pass (λ (port : ℕ × OutputName). output_fits n port.1.wire (output_width new.kind (new_width n new.kind new.inputs) port.0)) new.outputs no_name p ports.outputs_wide (named_within p q at) in
      let here = subst (λ wire. output_fits n wire (output_width new.kind (new_width n new.kind new.inputs) p) ≡ true) at fits in
      eqb-true _ _ here ∙ ap (λ width. output_width new.kind width p) (sym width_is)

  drives : (p : ℕ) → IfSome (output_at added p).wire (λ w. HasWidth n w.0 (output_width new.kind (module_width n added) p))
  drives p = subst (λ wire. IfSome wire (λ (w : WireId). HasWidth n w.0 (output_width new.kind (module_width n added) p))) (sym (wire_is p)) (by (get_or new.outputs p no_name).wire refl)
    where
      by : (wire : Option (List ℕ)) → (get_or new.outputs p no_name).wire ≡ wire → IfSome (option_map (wire_id n) wire) (λ (w : WireId). HasWidth n w.0 (output_width new.kind (module_width n added) p))
      by None at = tt
      by (Some q) at = stands_wide n q (port_stands p q at) _ (port_wide p q at)

  both_delays : (list_all (λ (i : InputName). is_input_delay i.delay) new.inputs ≡ true) × (list_all (λ (o : OutputName). is_delay o.delay) new.outputs ≡ true)
  both_delays = and_parts _ _ ports.delays

  input_delays : All (λ (i : Input). IsInputDelay i.delay) (map (input_of n) new.inputs)
  input_delays k d long =
      let here : k < length new.inputs = omega (arith, length-map new.inputs (input_of n)) in
      let is = and_at (list_all (λ (i : InputName). is_input_delay i.delay)) (λ (i : InputName). is_input_delay i.delay) refl (λ _ _. refl) new.inputs k nowhere here both_delays.0 in
      subst (λ (i : Input). IsInputDelay i.delay) (sym (get_or-map (input_of n) new.inputs k nowhere d here)) (input_delay_at _ is)

  delays : All (λ (o : Output). IsDelay o.delay) (map (output_of n) new.outputs)
  delays k d long =
      let here : k < length new.outputs = omega (arith, length-map new.outputs (output_of n)) in
      let is = and_at (list_all (λ (o : OutputName). is_delay o.delay)) (λ (o : OutputName). is_delay o.delay) refl (λ _ _. refl) new.outputs k no_name here both_delays.1 in
      subst (λ (o : Output). IsDelay o.delay) (sym (get_or-map (output_of n) new.outputs k no_name d here)) (delay_at _ is)

  pub IsModule-new : are_params new.kind (new_width n new.kind new.inputs) new.params ≡ true → IsModule n added
  IsModule-new ranged = record {
    inputs = length-map new.inputs (input_of n) ∙ ports.inputs_count;
    outputs = length-map new.outputs (output_of n) ∙ ports.outputs_count;
    params = ap (λ width. are_params new.kind width new.params) width_is ∙ ranged;
    input_delays = input_delays;
    delays = delays;
    reads = reads;
    drives = drives;
  }

  -- the name of the wire that a port of the new module has
  pub record Named (p w : ℕ) : Type 0 where
    pub called : List ℕ
    pub port : (get_or new.outputs p no_name).wire ≡ Some called
    pub id : (wire_id n called).0 ≡ w

  port_named : (p w : ℕ) → (output_at added p).wire ≡ Some (record { 0 = w }) → Named p w
  port_named p w at = by (get_or new.outputs p no_name).wire refl (sym (wire_is p) ∙ at)
    where
      by : (wire : Option (List ℕ)) → (get_or new.outputs p no_name).wire ≡ wire → option_map (wire_id n) wire ≡ Some (record { 0 = w }) → Named p w
      by None port is = cc
      by (Some q) port is = let same : wire_id n q ≡ record { 0 = w } = cc in record { called = q; port = port; id = ap (λ (v : WireId). v.0) same }

  pub new_undriven : (p w : ℕ) → (output_at added p).wire ≡ Some (record { 0 = w }) → is_nothing (driver n w) ≡ true
  new_undriven p w at =
      let found = port_named p w at in
      subst (λ v. is_nothing (driver n v) ≡ true) found.id (driven_pass (is_undriven n) new.outputs p found.called ports.undriven found.port)

  pub new_distinct : (p q w : ℕ) → (output_at added p).wire ≡ Some (record { 0 = w }) → (output_at added q).wire ≡ Some (record { 0 = w }) → p ≡ q
  new_distinct p q w first second =
      let a = port_named p w first in
      let b = port_named q w second in
      let same = one_wire n a.called b.called (port_stands p a.called a.port) (port_stands q b.called b.port) (a.id ∙ sym b.id) in
      distinct_ports new.outputs p q a.called ports.distinct a.port (b.port ∙ ap Some (sym same))
