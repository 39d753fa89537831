-- A netlist is still one after each edit that no check refuses.
use Rattle.std.proofs.Common.{◌≡◌, ℕ, zero, suc, ◌<◌, ◌≤◌, Bool, true, false, ◌==◌, cond, List, [], ◌∷◌, length, Option, Some, None, option_map, is_none, is_some, ◌&&◌, refl, sym, ap, subst, ◌∙◌, arith}
use Rattle.std.specs.Prelude.{nat_le}
use Rattle.std.proofs.lemmas.Bool.{and_parts, eqb-true, ltb-true, leb-true, not-true, both_ways}
use Rattle.mp_modules.specs.Kinds.{are_params, input_count, output_count, input_width, output_width}
use Rattle.std.specs.List.{list_all, All}
use Rattle.std.specs.Option.{IfSome}
use Rattle.mp_records.specs.declared.new_module.NewModule.{NewModule}
use Rattle.mp_records.specs.declared.new_bundle.NewBundle.{NewBundle}
use Rattle.mp_records.specs.declared.single_edit.SingleEdit.{SingleEdit}
use Rattle.mp_records.specs.declared.single_edit.SingleEdit.TheVariants.{AddWire, RemoveWire, AddModule, RemoveModule, AddBundle, RemoveBundle, RewireInput, RewireOutput, SetInputDelay, SetDelay, SetStimulus, ClearStimulus}
use Rattle.mp_records.specs.declared.edit_error.EditError.{EditError}
use Rattle.mp_records.specs.Stimuli.{is_stimulus}
use Rattle.mp_modules.specs.Levels.{fits_width}
use Rattle.mp_records.specs.declared.ids.WireId.{WireId}
use Rattle.mp_records.specs.declared.module_record.ModuleRecord.{ModuleRecord}
use Rattle.mp_records.specs.declared.wire_record.WireRecord.{WireRecord}
use Rattle.mp_records.specs.PortChanges.{with_input, with_input_delay, with_output, with_delay}
use Rattle.mp_records.specs.Names.{is_name}
use Rattle.mp_netlist.specs.Limits.{wire_limit, module_limit, bundle_limit, max_setup}
use Rattle.mp_netlist.specs.Circuit.{Circuit, IsCircuit, IsWire, IsModule, HasWidth, Drives, wire_at, module_at, wire_named, module_named, bundle_named, width_of, module_width}
use Rattle.mp_netlist.specs.Drivers.{driver, is_port, is_free_for}
use Rattle.mp_netlist.specs.Uses.{is_used}
use Rattle.mp_netlist.specs.Edits.{first_failing, stands, wire_id, module_id, module_of, bundle_id, input_ports, output_ports, input_width_of, output_width_of, output_stands, output_fits, output_is_free, is_delay, is_input_delay, inputs_stand, width_named, driven_names, are_distinct, is_undriven, new_width, inputs_fit, outputs_fit, wire_checks, wire_removal_checks, module_checks, module_removal_checks, bundle_checks, bundle_removal_checks, input_checks, output_checks, input_delay_checks, delay_checks, stimulus_checks, clearing_checks, wire_refusal, wire_removal_refusal, module_refusal, module_removal_refusal, bundle_refusal, bundle_removal_refusal, input_refusal, output_refusal, input_delay_refusal, delay_refusal, stimulus_refusal, clearing_refusal, refusal, edited, new_module, with_new_wire, with_new_module, new_bundle, with_new_bundle, with_module, with_stimulus, without_stimulus, with_wire}
use Rattle.mp_netlist.proofs.LimitLemmas.{horizon_within}
use Rattle.mp_netlist.proofs.TableLemmas.{IsNamesake}
use Rattle.mp_netlist.proofs.NameLemmas.{wire_name, module_name, Stands, stands_from, stands_within, ModuleStands, module_stands_from, module_within, BundleStands, bundle_stands_from, bundle_within}
use Rattle.mp_netlist.proofs.DriverLemmas.{portless_is_undriven}
use Rattle.mp_netlist.proofs.CircuitLemmas.{DrivesAlone, DrivesAlone-same, IsCircuit-add_wire, IsCircuit-add_module, IsCircuit-rewrite_wire, IsCircuit-rewrite_module, IsCircuit-add_bundle, IsCircuit-remove_bundle}
use Rattle.mp_netlist.proofs.PortEditLemmas.{delay_at, input_delay_at, wires-with_delay, IsModule-with_delay, IsModule-with_input, IsModule-with_input_delay, IsModule-with_output, DrivesAlone-with_output}
use Rattle.mp_netlist.proofs.ModuleLemmas.{stands_wide, ArePorts, IsModule-new, new_undriven, new_distinct}

-- each check passes
abbrev AllPass : List (Bool × EditError) → Type 0
AllPass [] = Unit {0}
AllPass (check ∷ checks) = (check.0 ≡ true) × AllPass checks

-- where no check fails each passes
all_pass : (checks : List (Bool × EditError)) → first_failing checks ≡ None → AllPass checks
all_pass [] none = tt
all_pass (check ∷ checks) none = by check.0 none (all_pass checks)
  where
    by : (b : Bool) → cond b (first_failing checks) (Some check.1) ≡ None → (first_failing checks ≡ None → AllPass checks) → (b ≡ true) × AllPass checks
    by true none later = (refl, later none)
    by false none later = cc

-- what holds of a thing holds of what is in its slot
only : {R : Type 0} (P : R → Type 0) {thing : R} → P thing → (other : R) → Some thing ≡ Some other → P other
only P {thing = thing} holds other is = let same : thing ≡ other = cc in subst P same holds

-- a module that stands is changed in its place, and keeps its name
IsCircuit-changed_module : (n : Circuit) → IsCircuit n → (name : List ℕ) (part : ModuleStands n name) (change : ModuleRecord → ModuleRecord) → module_name (change part.thing) ≡ module_name part.thing
    → IsModule n (change part.thing) → DrivesAlone n (module_id n name).0 (change part.thing)
    → IsCircuit (with_module n (module_id n name).0 (option_map change (module_at n (module_id n name).0)))
IsCircuit-changed_module n ok name part change named is alone =
    let id = (module_id n name).0 in
    subst (λ slot. IsCircuit (with_module n id (option_map change slot))) (sym part.at)
    (IsCircuit-rewrite_module n ok id (Some (change part.thing)) (module_within n name part) (only (IsModule n) is)
    (only (IsNamesake module_name (module_at n id)) (record { other = part.thing; stands = part.at; same = named })) (only (DrivesAlone n id) alone))

-- a wire that stands is changed in its place, and keeps its name and its width
IsCircuit-changed_wire : (n : Circuit) → IsCircuit n → (name : List ℕ) (wire : Stands n name) (change : WireRecord → WireRecord) → wire_name (change wire.wire) ≡ wire_name wire.wire
    → (change wire.wire).width ≡ wire.wire.width → IsWire n.horizon (change wire.wire) → ((m p : ℕ) → Drives n m p (wire_id n name).0 → (change wire.wire).stimulus ≡ None)
    → IsCircuit (with_wire n (wire_id n name).0 (option_map change (wire_at n (wire_id n name).0)))
IsCircuit-changed_wire n ok name wire change named wide is free =
    let id = (wire_id n name).0 in
    subst (λ slot. IsCircuit (with_wire n id (option_map change slot))) (sym wire.at)
    (IsCircuit-rewrite_wire n ok id (Some (change wire.wire)) (stands_within n name wire) (only (IsWire n.horizon) is)
    (only (IsNamesake wire_name (wire_at n id)) (record { other = wire.wire; stands = wire.at; same = named }))
    (λ used. (refl, wide ∙ sym (ap width_of wire.at))) free)

-- what the checks of a new wire tell
pub record IsNewWire (n : Circuit) (name : List ℕ) (width level : ℕ) : Type 0 where
  pub named : is_name name ≡ true
  pub free : is_none (wire_named n name) ≡ true
  pub low : 1 ≤ width
  pub high : width ≤ 64
  pub fits : fits_width width level ≡ true
  pub room : length n.wires < wire_limit n.format

pub new_wire : (n : Circuit) (name : List ℕ) (width level : ℕ) → wire_refusal n name width level ≡ None → IsNewWire n name width level
new_wire n name width level none =
    let all = all_pass (wire_checks n name width level) none in
    let bounds = and_parts (nat_le 1 width) (nat_le width 64) all.1.1.0 in
    record { named = all.0; free = all.1.0; low = leb-true 1 width bounds.0; high = leb-true width 64 bounds.1; fits = all.1.1.1.0; room = ltb-true (length n.wires) (wire_limit n.format) all.1.1.1.1.0 }

pub IsCircuit-with_new_wire : (n : Circuit) → IsCircuit n → (name : List ℕ) (width level : ℕ) → wire_refusal n name width level ≡ None → IsCircuit (with_new_wire n name width level)
IsCircuit-with_new_wire n ok name width level none =
    let new = new_wire n name width level none in
    IsCircuit-add_wire n ok _ (record { wide = new.low; narrow = new.high; level = new.fits; stimulus = tt }) new.named new.free refl new.room

-- what the checks before a wire goes tell
pub record IsFreeWire (n : Circuit) (name : List ℕ) : Type 0 where
  pub wire : Stands n name
  pub unused : is_used n (wire_id n name).0 ≡ false

pub free_wire : (n : Circuit) (name : List ℕ) → wire_removal_refusal n name ≡ None → IsFreeWire n name
free_wire n name none =
    let all = all_pass (wire_removal_checks n name) none in
    record { wire = stands_from n name all.0; unused = not-true _ all.1.0 }

pub IsCircuit-without_wire : (n : Circuit) → IsCircuit n → (name : List ℕ) → wire_removal_refusal n name ≡ None → IsCircuit (with_wire n (wire_id n name).0 None)
IsCircuit-without_wire n ok name none =
    let free = free_wire n name none in
    IsCircuit-rewrite_wire n ok (wire_id n name).0 None (stands_within n name free.wire) (λ s is. (cc)) (λ s is. (cc))
    (λ used. absurd (both_ways _ free.unused used)) (λ m p drives. refl)

-- what the checks of a new module tell
pub record IsNewModule (n : Circuit) (new : NewModule) : Type 0 where
  pub named : is_name new.name ≡ true
  pub free : is_none (module_named n new.name) ≡ true
  pub ports : ArePorts n new.kind new.inputs new.outputs
  pub ranged : are_params new.kind (new_width n new.kind new.inputs) new.params ≡ true
  pub room : length n.modules < module_limit n.format

pub is_new_module : (n : Circuit) (new : NewModule) → module_refusal n new ≡ None → IsNewModule n new
is_new_module n new none =
    let all = all_pass (module_checks n new) none in
    let counts = and_parts (length new.inputs == input_count new.kind) (length new.outputs == output_count new.kind) all.1.1.0 in
    let stand = and_parts (inputs_stand n new.inputs) (list_all (stands n) (driven_names new.outputs)) all.1.1.1.0 in
    let width = new_width n new.kind new.inputs in
    let widths = and_parts (inputs_fit n new.kind width new.inputs) (outputs_fit n new.kind width new.outputs) all.1.1.1.1.0 in
    let rest = all.1.1.1.1.1 in
    let drivers = and_parts (list_all (is_undriven n) (driven_names new.outputs)) (are_distinct (driven_names new.outputs)) rest.1.1.0 in
    record {
      named = all.0;
      free = all.1.0;
      ports = record {
        inputs_count = eqb-true _ _ counts.0;
        outputs_count = eqb-true _ _ counts.1;
        reads_stand = stand.0;
        outputs_stand = stand.1;
        inputs_wide = widths.0;
        outputs_wide = widths.1;
        delays = rest.1.0;
        undriven = drivers.0;
        distinct = drivers.1;
      };
      ranged = rest.0;
      room = ltb-true (length n.modules) (module_limit n.format) rest.1.1.1.0;
    }

pub IsCircuit-with_new_module : (n : Circuit) → IsCircuit n → (new : NewModule) → module_refusal n new ≡ None → IsCircuit (with_new_module n (new_module n new))
IsCircuit-with_new_module n ok new none =
    let is = is_new_module n new none in
    IsCircuit-add_module n ok _ (IsModule-new n new is.ports is.ranged) is.named is.free (new_distinct n new is.ports) (new_undriven n new is.ports) is.room

pub IsCircuit-without_module : (n : Circuit) → IsCircuit n → (name : List ℕ) → ModuleStands n name → IsCircuit (with_module n (module_id n name).0 None)
IsCircuit-without_module n ok name part =
    IsCircuit-rewrite_module n ok (module_id n name).0 None (module_within n name part) (λ s is. (cc)) (λ s is. (cc)) (λ s is. (cc))

pub going_module : (n : Circuit) (name : List ℕ) → module_removal_refusal n name ≡ None → ModuleStands n name
going_module n name none = module_stands_from n name (all_pass (module_removal_checks n name) none).0

-- what the checks of a new bundle tell
pub record IsNewBundle (n : Circuit) (new : NewBundle) : Type 0 where
  pub named : is_name new.name ≡ true
  pub free : is_none (bundle_named n new.name) ≡ true
  pub requests : Stands n new.request
  pub acknowledges : Stands n new.acknowledge
  pub pays : Stands n new.payload
  pub request_wide : width_named n new.request ≡ 1
  pub acknowledge_wide : width_named n new.acknowledge ≡ 1
  pub early : new.setup ≤ max_setup
  pub room : length n.bundles < bundle_limit n.format

pub is_new_bundle : (n : Circuit) (new : NewBundle) → bundle_refusal n new ≡ None → IsNewBundle n new
is_new_bundle n new none =
    let all = all_pass (bundle_checks n new) none in
    let stand = and_parts (stands n new.request && stands n new.acknowledge) (stands n new.payload) all.1.1.0 in
    let both = and_parts (stands n new.request) (stands n new.acknowledge) stand.0 in
    let wide = and_parts (width_named n new.request == 1) (width_named n new.acknowledge == 1) all.1.1.1.0 in
    record {
      named = all.0;
      free = all.1.0;
      requests = stands_from n new.request both.0;
      acknowledges = stands_from n new.acknowledge both.1;
      pays = stands_from n new.payload stand.1;
      request_wide = eqb-true _ _ wide.0;
      acknowledge_wide = eqb-true _ _ wide.1;
      early = leb-true new.setup max_setup all.1.1.1.1.0;
      room = ltb-true (length n.bundles) (bundle_limit n.format) all.1.1.1.1.1.0;
    }

pub IsCircuit-with_new_bundle : (n : Circuit) → IsCircuit n → (new : NewBundle) → bundle_refusal n new ≡ None → IsCircuit (with_new_bundle n (new_bundle n new))
IsCircuit-with_new_bundle n ok new none =
    let is = is_new_bundle n new none in
    let early = is.early in
    IsCircuit-add_bundle n ok (new_bundle n new)
    (record {
      request = stands_wide n new.request is.requests 1 is.request_wide;
      acknowledge = stands_wide n new.acknowledge is.acknowledges 1 is.acknowledge_wide;
      payload = ap is_some is.pays.at;
      setup = omega arith;
    })
    is.named is.free is.room

pub going_bundle : (n : Circuit) (name : List ℕ) → bundle_removal_refusal n name ≡ None → BundleStands n name
going_bundle n name none = bundle_stands_from n name (all_pass (bundle_removal_checks n name) none).0

-- what the checks of an input's new wire tell
pub record IsNewInput (n : Circuit) (name : List ℕ) (port : ℕ) (wire : List ℕ) : Type 0 where
  pub part : ModuleStands n name
  pub within : port < length part.thing.inputs
  pub wide : HasWidth n (wire_id n wire).0 (input_width part.thing.kind (module_width n part.thing) port)

pub new_input : (n : Circuit) (name : List ℕ) (port : ℕ) (wire : List ℕ) → input_refusal n name port wire ≡ None → IsNewInput n name port wire
new_input n name port wire none =
    let all = all_pass (input_checks n name port wire) none in
    let part = module_stands_from n name all.0 in
    let within = ltb-true port (input_ports (module_of n name)) all.1.0 in
    let same = eqb-true (width_named n wire) (input_width_of n (module_of n name) port) all.1.1.1.0 in
    record {
      part = part;
      within = subst (λ (slot : Option ModuleRecord). port < input_ports slot) part.found within;
      wide = stands_wide n wire (stands_from n wire all.1.1.0) _ (same ∙ ap (λ (slot : Option ModuleRecord). input_width_of n slot port) part.found);
    }

abbrev reread : Circuit → List ℕ → ℕ → List ℕ → Circuit
reread n name port wire = with_module n (module_id n name).0 (option_map (with_input port (wire_id n wire)) (module_at n (module_id n name).0))

pub IsCircuit-reread : (n : Circuit) → IsCircuit n → (name : List ℕ) (port : ℕ) (wire : List ℕ) → input_refusal n name port wire ≡ None → IsCircuit (reread n name port wire)
IsCircuit-reread n ok name port wire none =
    let new = new_input n name port wire none in
    let id = (module_id n name).0 in
    let old = new.part.thing in
    let is = IsModule-with_input n old port (wire_id n wire) new.within new.wide (ok.modules_ok id old new.part.at) in
    let alone = DrivesAlone-same n ok id old (with_input port (wire_id n wire) old) new.part.at (λ p. refl) in
    IsCircuit-changed_module n ok name new.part (with_input port (wire_id n wire)) refl is alone

-- what the checks of an output's new wire tell
pub record IsNewOutput (n : Circuit) (name : List ℕ) (port : ℕ) (wire : Option (List ℕ)) : Type 0 where
  pub part : ModuleStands n name
  pub within : port < length part.thing.outputs
  pub wide : IfSome (option_map (wire_id n) wire) (λ (w : WireId). HasWidth n w.0 (output_width part.thing.kind (module_width n part.thing) port))
  pub free : (w : ℕ) → option_map (wire_id n) wire ≡ Some (record { 0 = w }) → is_free_for (module_id n name).0 port (driver n w) ≡ true

output_wide : (n : Circuit) (wire : Option (List ℕ)) (width : ℕ) → output_stands n wire ≡ true → output_fits n wire width ≡ true
    → IfSome (option_map (wire_id n) wire) (λ (w : WireId). HasWidth n w.0 width)
output_wide n None width stand fits = tt
output_wide n (Some name) width stand fits = stands_wide n name (stands_from n name stand) width (eqb-true _ _ fits)

output_free : (n : Circuit) (id port : ℕ) (wire : Option (List ℕ)) → output_is_free n id port wire ≡ true
    → (w : ℕ) → option_map (wire_id n) wire ≡ Some (record { 0 = w }) → is_free_for id port (driver n w) ≡ true
output_free n id port None free w is = cc
output_free n id port (Some name) free w is =
    let same : (wire_id n name).0 ≡ w = (let ids : wire_id n name ≡ record { 0 = w } = cc in ap (λ (v : WireId). v.0) ids) in
    subst (λ k. is_free_for id port (driver n k) ≡ true) same free

pub new_output : (n : Circuit) (name : List ℕ) (port : ℕ) (wire : Option (List ℕ)) → output_refusal n name port wire ≡ None → IsNewOutput n name port wire
new_output n name port wire none =
    let all = all_pass (output_checks n name port wire) none in
    let part = module_stands_from n name all.0 in
    let within = ltb-true port (output_ports (module_of n name)) all.1.0 in
    let fits = subst (λ (slot : Option ModuleRecord). output_fits n wire (output_width_of n slot port) ≡ true) part.found all.1.1.1.0 in
    record {
      part = part;
      within = subst (λ (slot : Option ModuleRecord). port < output_ports slot) part.found within;
      wide = output_wide n wire _ all.1.1.0 fits;
      free = output_free n (module_id n name).0 port wire all.1.1.1.1.0;
    }

abbrev redirected : Circuit → List ℕ → ℕ → Option (List ℕ) → Circuit
redirected n name port wire = with_module n (module_id n name).0 (option_map (with_output port (option_map (wire_id n) wire)) (module_at n (module_id n name).0))

pub IsCircuit-redirected : (n : Circuit) → IsCircuit n → (name : List ℕ) (port : ℕ) (wire : Option (List ℕ)) → output_refusal n name port wire ≡ None → IsCircuit (redirected n name port wire)
IsCircuit-redirected n ok name port wire none =
    let new = new_output n name port wire none in
    let id = (module_id n name).0 in
    let old = new.part.thing in
    let ids = option_map (wire_id n) wire in
    let is = IsModule-with_output n old port ids new.within new.wide (ok.modules_ok id old new.part.at) in
    let alone = DrivesAlone-with_output n old port ids new.within ok id new.part.at new.free in
    IsCircuit-changed_module n ok name new.part (with_output port ids) refl is alone

-- what the checks of an input's new delay tell
pub record IsNewInputDelay (n : Circuit) (name : List ℕ) (port delay : ℕ) : Type 0 where
  pub part : ModuleStands n name
  pub within : port < length part.thing.inputs
  pub ranged : is_input_delay delay ≡ true

pub new_input_delay : (n : Circuit) (name : List ℕ) (port delay : ℕ) → input_delay_refusal n name port delay ≡ None → IsNewInputDelay n name port delay
new_input_delay n name port delay none =
    let all = all_pass (input_delay_checks n name port delay) none in
    let part = module_stands_from n name all.0 in
    let within = ltb-true port (input_ports (module_of n name)) all.1.0 in
    record { part = part; within = subst (λ (slot : Option ModuleRecord). port < input_ports slot) part.found within; ranged = all.1.1.0 }

abbrev input_delayed : Circuit → List ℕ → ℕ → ℕ → Circuit
input_delayed n name port delay = with_module n (module_id n name).0 (option_map (with_input_delay port delay) (module_at n (module_id n name).0))

pub IsCircuit-input_delayed : (n : Circuit) → IsCircuit n → (name : List ℕ) (port delay : ℕ) → input_delay_refusal n name port delay ≡ None → IsCircuit (input_delayed n name port delay)
IsCircuit-input_delayed n ok name port delay none =
    let new = new_input_delay n name port delay none in
    let id = (module_id n name).0 in
    let old = new.part.thing in
    let is = IsModule-with_input_delay n old port delay new.within (input_delay_at delay new.ranged) (ok.modules_ok id old new.part.at) in
    let alone = DrivesAlone-same n ok id old (with_input_delay port delay old) new.part.at (λ p. refl) in
    IsCircuit-changed_module n ok name new.part (with_input_delay port delay) refl is alone

-- what the checks of an output's new delay tell
pub record IsNewDelay (n : Circuit) (name : List ℕ) (port delay : ℕ) : Type 0 where
  pub part : ModuleStands n name
  pub within : port < length part.thing.outputs
  pub ranged : is_delay delay ≡ true

pub new_delay : (n : Circuit) (name : List ℕ) (port delay : ℕ) → delay_refusal n name port delay ≡ None → IsNewDelay n name port delay
new_delay n name port delay none =
    let all = all_pass (delay_checks n name port delay) none in
    let part = module_stands_from n name all.0 in
    let within = ltb-true port (output_ports (module_of n name)) all.1.0 in
    record { part = part; within = subst (λ (slot : Option ModuleRecord). port < output_ports slot) part.found within; ranged = all.1.1.0 }

abbrev delayed : Circuit → List ℕ → ℕ → ℕ → Circuit
delayed n name port delay = with_module n (module_id n name).0 (option_map (with_delay port delay) (module_at n (module_id n name).0))

pub IsCircuit-delayed : (n : Circuit) → IsCircuit n → (name : List ℕ) (port delay : ℕ) → delay_refusal n name port delay ≡ None → IsCircuit (delayed n name port delay)
IsCircuit-delayed n ok name port delay none =
    let new = new_delay n name port delay none in
    let id = (module_id n name).0 in
    let old = new.part.thing in
    let is = IsModule-with_delay n old port delay new.within (delay_at delay new.ranged) (ok.modules_ok id old new.part.at) in
    let alone = DrivesAlone-same n ok id old (with_delay port delay old) new.part.at (wires-with_delay port delay old new.within) in
    IsCircuit-changed_module n ok name new.part (with_delay port delay) refl is alone

-- what the checks of a stimulus tell
pub record IsNewStimulus (n : Circuit) (name : List ℕ) (changes : List (ℕ × ℕ)) : Type 0 where
  pub wire : Stands n name
  pub portless : is_port (driver n (wire_id n name).0) ≡ false
  pub valid : is_stimulus n.horizon (width_named n name) 0 changes ≡ true

pub new_stimulus : (n : Circuit) (name : List ℕ) (changes : List (ℕ × ℕ)) → stimulus_refusal n name changes ≡ None → IsNewStimulus n name changes
new_stimulus n name changes none =
    let all = all_pass (stimulus_checks n name changes) none in
    record { wire = stands_from n name all.0; portless = not-true _ all.1.0; valid = all.1.1.0 }

abbrev stimulated : Circuit → List ℕ → List (ℕ × ℕ) → Circuit
stimulated n name changes = with_wire n (wire_id n name).0 (option_map (with_stimulus changes) (wire_at n (wire_id n name).0))

pub IsCircuit-stimulated : (n : Circuit) → IsCircuit n → (name : List ℕ) (changes : List (ℕ × ℕ)) → stimulus_refusal n name changes ≡ None → IsCircuit (stimulated n name changes)
IsCircuit-stimulated n ok name changes none =
    let new = new_stimulus n name changes none in
    let id = (wire_id n name).0 in
    let was = ok.wires_ok id new.wire.wire new.wire.at in
    let valid = ap (λ width. is_stimulus n.horizon width 0 changes) (sym new.wire.width) ∙ new.valid in
    IsCircuit-changed_wire n ok name new.wire (with_stimulus changes) refl refl (record { wide = was.wide; narrow = was.narrow; level = was.level; stimulus = valid })
    (λ m p drives. absurd (portless_is_undriven n ok id new.portless m p drives))

-- what the checks before a stimulus goes tell
pub clearing : (n : Circuit) (name : List ℕ) → clearing_refusal n name ≡ None → Stands n name
clearing n name none = stands_from n name (all_pass (clearing_checks n name) none).0

abbrev cleared : Circuit → List ℕ → Circuit
cleared n name = with_wire n (wire_id n name).0 (option_map without_stimulus (wire_at n (wire_id n name).0))

pub IsCircuit-cleared : (n : Circuit) → IsCircuit n → (name : List ℕ) → clearing_refusal n name ≡ None → IsCircuit (cleared n name)
IsCircuit-cleared n ok name none =
    let wire = clearing n name none in
    let was = ok.wires_ok (wire_id n name).0 wire.wire wire.at in
    IsCircuit-changed_wire n ok name wire without_stimulus refl refl (record { wide = was.wide; narrow = was.narrow; level = was.level; stimulus = tt }) (λ m p drives. refl)

pub IsCircuit-edited : (n : Circuit) → IsCircuit n → (edit : SingleEdit) → refusal n edit ≡ None → IsCircuit (edited n edit)
unfolding refusal edited
IsCircuit-edited n ok (AddWire name width level) none = IsCircuit-with_new_wire n ok name width level none
IsCircuit-edited n ok (RemoveWire name) none = IsCircuit-without_wire n ok name none
IsCircuit-edited n ok (AddModule new) none = IsCircuit-with_new_module n ok new none
IsCircuit-edited n ok (RemoveModule name) none = IsCircuit-without_module n ok name (going_module n name none)
IsCircuit-edited n ok (AddBundle new) none = IsCircuit-with_new_bundle n ok new none
IsCircuit-edited n ok (RemoveBundle name) none = IsCircuit-remove_bundle n ok (bundle_id n name).0 (bundle_within n name (going_bundle n name none))
IsCircuit-edited n ok (RewireInput name port wire) none = IsCircuit-reread n ok name port wire none
IsCircuit-edited n ok (RewireOutput name port wire) none = IsCircuit-redirected n ok name port wire none
IsCircuit-edited n ok (SetInputDelay name port delay) none = IsCircuit-input_delayed n ok name port delay none
IsCircuit-edited n ok (SetDelay name port delay) none = IsCircuit-delayed n ok name port delay none
IsCircuit-edited n ok (SetStimulus name changes) none = IsCircuit-stimulated n ok name changes none
IsCircuit-edited n ok (ClearStimulus name) none = IsCircuit-cleared n ok name none

-- each time of a stimulus is below the horizon
is_stimulus-early : (horizon width before : ℕ) (changes : List (ℕ × ℕ)) → is_stimulus horizon width before changes ≡ true → All (λ (change : ℕ × ℕ). change.0 < horizon) changes
unfolding is_stimulus
is_stimulus-early horizon width before [] valid k d here = absurd (omega arith)
is_stimulus-early horizon width before (change ∷ changes) valid zero d here =
    let parts = and_parts _ _ (and_parts _ _ (and_parts _ _ valid).0).0 in
    ltb-true change.0 horizon parts.1
is_stimulus-early horizon width before (change ∷ changes) valid (suc k) d here =
    is_stimulus-early horizon width change.0 changes (and_parts _ _ valid).1 k d (omega arith)

pub stimulus_early : (n : Circuit) → IsCircuit n → (name : List ℕ) (changes : List (ℕ × ℕ)) → stimulus_refusal n name changes ≡ None
    → All (λ (change : ℕ × ℕ). change.0 < 4294967296) changes
stimulus_early n ok name changes none k d here =
    let early = is_stimulus-early n.horizon (width_named n name) 0 changes (new_stimulus n name changes none).valid k d here in
    omega (arith, horizon_within n ok)
