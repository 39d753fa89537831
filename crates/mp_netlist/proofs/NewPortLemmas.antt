-- What is checked of a new module's ports is what is asked of the names.
use Rattle.std.proofs.Common.{◌≡◌, ℕ, ◌+◌, ◌≤◌, Bool, true, ◌==◌, List, [], ◌∷◌, ◌&&◌, map, Option, Some, None, option_map, refl, sym, ap, ◌∙◌, arith}
use Rattle.std.specs.Prelude.{nat_le}
use Rattle.std.specs.List.{list_all, enumerate_from}
use Rattle.std.proofs.lemmas.Bool.{and_parts, leb-true}
use Rattle.mp_modules.specs.declared.kind.Kind.{Kind}
use Rattle.mp_modules.specs.Kinds.{width_from, input_width, output_width}
use Rattle.mp_records.specs.declared.new_module.NewModule.{NewModule}
use Rattle.mp_records.specs.declared.ports.Input.{Input}
use Rattle.mp_records.specs.declared.ports.Output.{Output}
use Rattle.mp_records.specs.declared.port_names.InputName.{InputName}
use Rattle.mp_records.specs.declared.port_names.OutputName.{OutputName}
use Rattle.mp_netlist.specs.declared.netlist.new_ports.NewPorts.{NewPorts}
use Rattle.mp_netlist.specs.Limits.{max_delay}
use Rattle.mp_netlist.specs.Circuit.{Circuit, wire_at, width_of}
use Rattle.mp_netlist.specs.Edits.{stands, wire_id, width_named, is_undriven, is_delay, is_input_delay, delays_fit, driven_names, first_width, new_width, inputs_stand, input_of, output_of}
use Rattle.mp_netlist.specs.Edits as names
use Rattle.mp_netlist.specs.NewPorts.{kept_delay, named_input, named_output, AreNamedPorts, width_of_first, input_fits, is_wide, output_fits, wire_is_undriven, output_is_undriven}
use Rattle.mp_netlist.proofs.NameLemmas.{stands_from}
use Rattle.mp_netlist.proofs.PortLemmas.{name_first}

-- the wire that a name finds has the width that the name stands for
width_found : (n : Circuit) (name : List ℕ) → stands n name ≡ true → width_of (wire_at n (wire_id n name).0) ≡ width_named n name
width_found n name is = let wire = stands_from n name is in ap width_of wire.at ∙ sym wire.width

pub width_named_first : (n : Circuit) (kind : Kind) (inputs : List InputName) → inputs_stand n inputs ≡ true
    → width_from kind (width_of_first n (map (named_input n) inputs)) ≡ new_width n kind inputs
width_named_first n kind inputs stand = ap (width_from kind) (by inputs stand)
  where
    by : (ports : List InputName) → inputs_stand n ports ≡ true → width_of_first n (map (named_input n) ports) ≡ first_width n ports
    by [] stand = refl
    by (first ∷ others) stand = width_found n first.wire (and_parts (stands n first.wire) (inputs_stand n others) stand).0

module _ (n : Circuit) (kind : Kind) (width : ℕ) where
  abbrev name_fits : ℕ × InputName → Bool
  name_fits port = width_named n port.1.wire == input_width kind width port.0

  abbrev all_fit : ℕ → List InputName → Bool
  all_fit k inputs = list_all (input_fits n kind width) (enumerate_from k (map (named_input n) inputs))

  pub named_inputs_fit : (k : ℕ) (inputs : List InputName) → inputs_stand n inputs ≡ true
      → list_all (input_fits n kind width) (enumerate_from k (map (named_input n) inputs)) ≡ list_all name_fits (enumerate_from k inputs)
  named_inputs_fit k [] stand = refl
  named_inputs_fit k (i ∷ others) stand =
      let parts = and_parts (stands n i.wire) (inputs_stand n others) stand in
      ap (λ w. (w == input_width kind width k) && all_fit (k + 1) others) (width_found n i.wire parts.0)
      ∙ ap (λ rest. (width_named n i.wire == input_width kind width k) && rest) (named_inputs_fit (k + 1) others parts.1)

  abbrev driven_fits : ℕ × OutputName → Bool
  driven_fits port = names.output_fits n port.1.wire (output_width kind width port.0)

  abbrev all_driven_fit : ℕ → List OutputName → Bool
  all_driven_fit k outputs = list_all (output_fits n kind width) (enumerate_from k (map (named_output n) outputs))

  pub named_outputs_fit : (k : ℕ) (outputs : List OutputName) → list_all (stands n) (driven_names outputs) ≡ true
      → list_all (output_fits n kind width) (enumerate_from k (map (named_output n) outputs)) ≡ list_all driven_fits (enumerate_from k outputs)
  named_outputs_fit k [] stand = refl
  named_outputs_fit k (o ∷ others) stand = by o.wire stand (λ all. named_outputs_fit (k + 1) others all)
    where
      by : (wire : Option (List ℕ)) → list_all (stands n) (name_first wire (driven_names others)) ≡ true
          → (list_all (stands n) (driven_names others) ≡ true → all_driven_fit (k + 1) others ≡ list_all driven_fits (enumerate_from (k + 1) others))
          → (is_wide n (option_map (wire_id n) wire) (output_width kind width k) && all_driven_fit (k + 1) others)
          ≡ (names.output_fits n wire (output_width kind width k) && list_all driven_fits (enumerate_from (k + 1) others))
      by None all rest = rest all
      by (Some name) all rest =
          let parts = and_parts (stands n name) (list_all (stands n) (driven_names others)) all in
          ap (λ w. (w == output_width kind width k) && all_driven_fit (k + 1) others) (width_found n name parts.0)
          ∙ ap (λ fit. (width_named n name == output_width kind width k) && fit) (rest parts.1)

pub named_are_undriven : (n : Circuit) (outputs : List OutputName) → list_all (output_is_undriven n) (map (named_output n) outputs) ≡ list_all (is_undriven n) (driven_names outputs)
named_are_undriven n [] = refl
named_are_undriven n (o ∷ others) = by o.wire (named_are_undriven n others)
  where
    by : (wire : Option (List ℕ)) → list_all (output_is_undriven n) (map (named_output n) others) ≡ list_all (is_undriven n) (driven_names others)
        → (wire_is_undriven n (option_map (wire_id n) wire) && list_all (output_is_undriven n) (map (named_output n) others))
        ≡ list_all (is_undriven n) (name_first wire (driven_names others))
    by None rest = rest
    by (Some name) rest = ap (λ all. is_undriven n name && all) rest

-- a delay that a port may have is kept
kept : (delay : ℕ) → delay ≤ max_delay → kept_delay delay ≡ delay
kept delay few = omega arith

abbrev input_with : Circuit → InputName → ℕ → Input
input_with n i delay = record { wire = wire_id n i.wire; delay = delay }

kept_inputs : (n : Circuit) (inputs : List InputName) → list_all (λ (i : InputName). is_input_delay i.delay) inputs ≡ true → map (named_input n) inputs ≡ map (input_of n) inputs
kept_inputs n [] all = refl
kept_inputs n (i ∷ others) all =
    let parts = and_parts (is_input_delay i.delay) (list_all (λ (i : InputName). is_input_delay i.delay) others) all in
    ap (λ delay. input_with n i delay ∷ map (named_input n) others) (kept i.delay (leb-true i.delay max_delay parts.0))
    ∙ ap (λ rest. input_of n i ∷ rest) (kept_inputs n others parts.1)

abbrev output_with : Circuit → OutputName → ℕ → Output
output_with n o delay = record { wire = option_map (wire_id n) o.wire; delay = delay }

kept_outputs : (n : Circuit) (outputs : List OutputName) → list_all (λ (o : OutputName). is_delay o.delay) outputs ≡ true → map (named_output n) outputs ≡ map (output_of n) outputs
kept_outputs n [] all = refl
kept_outputs n (o ∷ others) all =
    let parts = and_parts (is_delay o.delay) (list_all (λ (o : OutputName). is_delay o.delay) others) all in
    let bounds = and_parts (nat_le 1 o.delay) (nat_le o.delay max_delay) parts.0 in
    ap (λ delay. output_with n o delay ∷ map (named_output n) others) (kept o.delay (leb-true o.delay max_delay bounds.1))
    ∙ ap (λ rest. output_of n o ∷ rest) (kept_outputs n others parts.1)

-- ports whose delays are checked are those of the new module
pub checked_inputs : (n : Circuit) (new : NewModule) (ports : NewPorts) → AreNamedPorts n new ports → delays_fit new.inputs new.outputs ≡ true → ports.inputs ≡ map (input_of n) new.inputs
checked_inputs n new ports named fit =
    named.inputs ∙ kept_inputs n new.inputs (and_parts (list_all (λ (i : InputName). is_input_delay i.delay) new.inputs) (list_all (λ (o : OutputName). is_delay o.delay) new.outputs) fit).0

pub checked_outputs : (n : Circuit) (new : NewModule) (ports : NewPorts) → AreNamedPorts n new ports → delays_fit new.inputs new.outputs ≡ true → ports.outputs ≡ map (output_of n) new.outputs
checked_outputs n new ports named fit =
    named.outputs ∙ kept_outputs n new.outputs (and_parts (list_all (λ (i : InputName). is_input_delay i.delay) new.inputs) (list_all (λ (o : OutputName). is_delay o.delay) new.outputs) fit).1
