-- A line can say each edit that a netlist accepts.
use Rattle.std.proofs.Common.{◌≡◌, ℕ, ◌+◌, ◌^◌, ◌<◌, ◌≤◌, Bool, true, false, cond, ◌==◌, ◌&&◌, List, [], ◌∷◌, length, All, Option, None, Some, Result, Ok, Err, refl, sym, subst, arith}
use Rattle.std.specs.Prelude.{IfSome, nat_le, nat_lt}
use Rattle.std.specs.List.{list_all}
use Rattle.std.proofs.Math.Nat.{pow-le-pow_right}
use Rattle.std.proofs.lemmas.Bool.{and_parts, leb-true, ltb-true}
use Rattle.std.proofs.lemmas.List.Elements.{All-nil, All-cons}
use Rattle.mp_modules.specs.declared.kind.Kind.{Kind}
use Rattle.mp_modules.specs.Kinds.{param_bound, param_count, are_params}
use Rattle.mp_modules.specs.Levels.{fits_width}
use Rattle.mp_modules.proofs.KindLemmas.{some_input, param_bound-low, few_inputs, few_outputs, some_output, width_from_low}
use Rattle.mp_records.specs.declared.edit.Edit.{Edit}
use Rattle.mp_records.specs.declared.edit.Edit.TheVariants.{Single, Batch}
use Rattle.mp_records.specs.declared.edit_error.EditError.{EditError}
use Rattle.mp_records.specs.declared.edit_error.EditError.TheVariants.{BadBatch}
use Rattle.mp_records.specs.declared.port_names.InputName.{InputName}
use Rattle.mp_records.specs.declared.port_names.OutputName.{OutputName}
use Rattle.mp_records.specs.declared.single_edit.SingleEdit.{SingleEdit}
use Rattle.mp_records.specs.declared.single_edit.SingleEdit.TheVariants.{AddWire, RemoveWire, AddModule, RemoveModule, AddBundle, RemoveBundle, RewireInput, RewireOutput, SetInputDelay, SetDelay, SetStimulus, ClearStimulus}
use Rattle.mp_records.specs.Stimuli.{is_stimulus}
use Rattle.mp_netlist.specs.Limits.{max_horizon, max_delay}
use Rattle.mp_netlist.specs.Slots.{has_name}
use Rattle.mp_netlist.specs.Circuit.{Circuit, IsCircuit}
use Rattle.mp_netlist.specs.Edits.{stands, width_named, first_failing, input_checks, output_checks, is_delay, is_input_delay, inputs_stand, driven_names, output_stands, first_width, new_width, refusal, edited, unless, after_single, go_on, in_place, after_each, is_batch, after}
use Rattle.mp_netlist.specs.Laws.{EditsKeepNetlists}
use Rattle.mp_netlist.proofs.TableLemmas.{named_has, same_name}
use Rattle.mp_netlist.proofs.NameLemmas.{Stands, ModuleStands, BundleStands, stands_from, wire_name, module_name, bundle_name}
use Rattle.mp_netlist.proofs.EditLemmas.{new_wire, free_wire, is_new_module, going_module, is_new_bundle, going_bundle, new_input, new_output, new_input_delay, new_delay, new_stimulus, clearing}
use Rattle.mp_text.proofs.lemmas.lexing.PlainLemmas.{All-passing}
use Rattle.mp_netlist.proofs.LimitLemmas.{horizon_within}
use Rattle.mp_text.specs.edit_lines.ReadBack.{IsName, IsLow, IsInputSaid, IsOutputSaid, IsSaid, IsEditSaid}

-- ---- numbers

low_at : (n bound : ℕ) → bound ≤ 2 ^ 64 → nat_lt n bound ≡ true → IsLow n
low_at n bound high is = let below = ltb-true n bound is in omega (arith, below, high)

level_low : (width level : ℕ) → width ≤ 64 → fits_width width level ≡ true → IsLow level
unfolding fits_width
level_low width level narrow fits = low_at level (2 ^ width) (pow-le-pow_right (omega arith) narrow) fits

delay_low : (delay : ℕ) → is_delay delay ≡ true → IsLow delay
delay_low delay is = let high = leb-true delay max_delay (and_parts (nat_le 1 delay) (nat_le delay max_delay) is).1 in omega (arith, high)

input_delay_low : (delay : ℕ) → is_input_delay delay ≡ true → IsLow delay
input_delay_low delay is = let high = leb-true delay max_delay is in omega (arith, high)

params_low : (kind : Kind) (width : ℕ) (params : List ℕ) → width ≤ 64 → are_params kind width params ≡ true → All IsLow params
unfolding are_params
params_low kind width params narrow are =
    let bound = param_bound kind width in
    let below = (and_parts (length params == param_count kind) (list_all (λ param. nat_lt param bound) params) are).1 in
    All-passing (λ param. nat_lt param bound) IsLow (λ param is. low_at param bound (param_bound-low kind width narrow) is) params below

changes_low : (horizon width before : ℕ) (changes : List (ℕ × ℕ)) → horizon ≤ max_horizon → width ≤ 64 → is_stimulus horizon width before changes ≡ true → All (λ (change : ℕ × ℕ). IsLow change.0 × IsLow change.1) changes
unfolding is_stimulus
changes_low horizon width before [] short narrow valid = All-nil (λ (change : ℕ × ℕ). IsLow change.0 × IsLow change.1)
changes_low horizon width before (change ∷ changes) short narrow valid =
    let rest = and_parts (nat_lt before change.0 && nat_lt change.0 horizon && fits_width width change.1) (is_stimulus horizon width change.0 changes) valid in
    let here = and_parts (nat_lt before change.0 && nat_lt change.0 horizon) (fits_width width change.1) rest.0 in
    let early = (and_parts (nat_lt before change.0) (nat_lt change.0 horizon) here.0).1 in
    All-cons (λ (c : ℕ × ℕ). IsLow c.0 × IsLow c.1) change changes (low_at change.0 horizon (omega (arith, short)) early, level_low width change.1 narrow here.1) (changes_low horizon width change.0 changes short narrow rest.1)

-- each check passes
abbrev AllPass : List (Bool × EditError) → Type 0
AllPass [] = Unit {0}
AllPass (check ∷ checks) = (check.0 ≡ true) × AllPass checks

-- where no check fails each passes
all_pass : (checks : List (Bool × EditError)) → first_failing checks ≡ None → AllPass checks
all_pass [] none = tt
all_pass (check ∷ checks) none = by check.0 none (all_pass checks)
  where
    by : (b : Bool) → cond b (first_failing checks) (Some check.1) ≡ None → (first_failing checks ≡ None → AllPass checks) → (b ≡ true) × AllPass checks
    by true none later = (refl, later none)
    by false none later = cc

module _ (n : Circuit) (ok : IsCircuit n) where
  -- ---- names of what stands

  wire_said : (name : List ℕ) → Stands n name → IsName name
  wire_said name wire =
      let same = same_name name wire.wire.name (subst (λ slot. has_name wire_name name slot ≡ true) wire.at (named_has wire_name n.wires name _ wire.named)) in
      subst IsName (sym same) (ok.names.wires _ wire.wire wire.at)

  module_said : (name : List ℕ) → ModuleStands n name → IsName name
  module_said name part =
      let same = same_name name part.thing.name (subst (λ slot. has_name module_name name slot ≡ true) part.at (named_has module_name n.modules name _ part.named)) in
      subst IsName (sym same) (ok.names.modules _ part.thing part.at)

  bundle_said : (name : List ℕ) → BundleStands n name → IsName name
  bundle_said name bundle =
      let same = same_name name bundle.thing.name (subst (λ slot. has_name bundle_name name slot ≡ true) bundle.at (named_has bundle_name n.bundles name _ bundle.named)) in
      subst IsName (sym same) (ok.names.bundles _ bundle.thing bundle.at)

  standing_said : (name : List ℕ) → stands n name ≡ true → IsName name
  standing_said name is = wire_said name (stands_from n name is)

  output_said : (wire : Option (List ℕ)) → output_stands n wire ≡ true → IfSome wire IsName
  output_said None is = tt
  output_said (Some name) is = standing_said name is

  -- ---- ports

  wire_narrow : (name : List ℕ) → Stands n name → width_named n name ≤ 64
  wire_narrow name wire = subst (λ w. w ≤ 64) (sym wire.width) (ok.wires_ok _ wire.wire wire.at).narrow

  first_narrow : (inputs : List InputName) → inputs_stand n inputs ≡ true → first_width n inputs ≤ 64
  first_narrow [] stand = omega arith
  first_narrow (first ∷ others) stand = wire_narrow first.wire (stands_from n first.wire (and_parts (stands n first.wire) (inputs_stand n others) stand).0)

  narrow : (kind : Kind) (inputs : List InputName) → inputs_stand n inputs ≡ true → new_width n kind inputs ≤ 64
  narrow kind inputs stand = width_from_low kind _ (first_narrow inputs stand)

  inputs_said : (inputs : List InputName) → inputs_stand n inputs ≡ true → list_all (λ (i : InputName). is_input_delay i.delay) inputs ≡ true → All IsInputSaid inputs
  inputs_said [] stand low = All-nil IsInputSaid
  inputs_said (input ∷ inputs) stand low =
      let stands_all = and_parts (stands n input.wire) (inputs_stand n inputs) stand in
      let lows = and_parts (is_input_delay input.delay) (list_all (λ (i : InputName). is_input_delay i.delay) inputs) low in
      All-cons IsInputSaid input inputs (standing_said input.wire stands_all.0, input_delay_low input.delay lows.0) (inputs_said inputs stands_all.1 lows.1)

  -- the name of a wire that is driven, if any, before other names
  abbrev onto : Option (List ℕ) → List (List ℕ) → List (List ℕ)
  onto None names = names
  onto (Some name) names = name ∷ names

  driven_said : (wire : Option (List ℕ)) (names : List (List ℕ)) → list_all (stands n) (onto wire names) ≡ true → IfSome wire IsName × (list_all (stands n) names ≡ true)
  driven_said None names stand = (tt, stand)
  driven_said (Some name) names stand = let parts = and_parts (stands n name) (list_all (stands n) names) stand in (standing_said name parts.0, parts.1)

  outputs_said : (outputs : List OutputName) → list_all (stands n) (driven_names outputs) ≡ true → list_all (λ (o : OutputName). is_delay o.delay) outputs ≡ true → All IsOutputSaid outputs
  outputs_said [] stand low = All-nil IsOutputSaid
  outputs_said (output ∷ outputs) stand low =
      let here = driven_said output.wire (driven_names outputs) stand in
      let lows = and_parts (is_delay output.delay) (list_all (λ (o : OutputName). is_delay o.delay) outputs) low in
      All-cons IsOutputSaid output outputs (here.0, delay_low output.delay lows.0) (outputs_said outputs here.1 lows.1)

  port_low : (name : List ℕ) (part : ModuleStands n name) (port : ℕ) → port < length part.thing.inputs → IsLow port
  port_low name part port within =
      let same = (ok.modules_ok _ part.thing part.at).inputs in
      let few = few_inputs part.thing.kind in
      omega (arith, within, same, few)

  output_low : (name : List ℕ) (part : ModuleStands n name) (port : ℕ) → port < length part.thing.outputs → IsLow port
  output_low name part port within =
      let same = (ok.modules_ok _ part.thing part.at).outputs in
      let few = few_outputs part.thing.kind in
      omega (arith, within, same, few)

  -- ---- edits

  accepted_single : (edit : SingleEdit) → refusal n edit ≡ None → IsSaid edit
  unfolding refusal
  accepted_single (AddWire name width level) none =
      let new = new_wire n name width level none in
      let high = new.high in
      (new.named, omega (arith, high), level_low width level high new.fits)
  accepted_single (RemoveWire name) none = wire_said name (free_wire n name none).wire
  accepted_single (AddModule new) none =
      let is = is_new_module n new none in
      let ports = is.ports in
      let delays = and_parts (list_all (λ (i : InputName). is_input_delay i.delay) new.inputs) (list_all (λ (o : OutputName). is_delay o.delay) new.outputs) ports.delays in
      let inputs = ports.inputs_count in
      let outputs = ports.outputs_count in
      let has_input = some_input new.kind in
      let has_output = some_output new.kind in
      record {
        name = is.named;
        params = params_low new.kind (new_width n new.kind new.inputs) new.params (narrow new.kind new.inputs ports.reads_stand) is.ranged;
        inputs = inputs_said new.inputs ports.reads_stand delays.0;
        outputs = outputs_said new.outputs ports.outputs_stand delays.1;
        some_inputs = omega (arith, inputs, has_input);
        some_outputs = omega (arith, outputs, has_output);
      }
  accepted_single (RemoveModule name) none = module_said name (going_module n name none)
  accepted_single (AddBundle new) none =
      let is = is_new_bundle n new none in
      let early = is.early in
      record {
        name = is.named;
        request = wire_said new.request is.requests;
        acknowledge = wire_said new.acknowledge is.acknowledges;
        payload = wire_said new.payload is.pays;
        setup = omega (arith, early);
      }
  accepted_single (RemoveBundle name) none = bundle_said name (going_bundle n name none)
  accepted_single (RewireInput name port wire) none =
      let new = new_input n name port wire none in
      let checks = all_pass (input_checks n name port wire) none in
      (module_said name new.part, port_low name new.part port new.within, standing_said wire checks.1.1.0)
  accepted_single (RewireOutput name port wire) none =
      let new = new_output n name port wire none in
      let checks = all_pass (output_checks n name port wire) none in
      (module_said name new.part, output_low name new.part port new.within, output_said wire checks.1.1.0)
  accepted_single (SetInputDelay name port delay) none =
      let new = new_input_delay n name port delay none in
      (module_said name new.part, port_low name new.part port new.within, input_delay_low delay new.ranged)
  accepted_single (SetDelay name port delay) none =
      let new = new_delay n name port delay none in
      (module_said name new.part, output_low name new.part port new.within, delay_low delay new.ranged)
  accepted_single (SetStimulus name changes) none =
      let new = new_stimulus n name changes none in
      (wire_said name new.wire, changes_low n.horizon (width_named n name) 0 changes (horizon_within n ok) (wire_narrow name new.wire) new.valid)
  accepted_single (ClearStimulus name) none = wire_said name (clearing n name none)

-- ---- edits of a list

unrefused : (refused : Option EditError) (n m : Circuit) → unless refused n ≡ Ok m → refused ≡ None
unrefused None n m made = refl
unrefused (Some error) n m made = cc

said_single : (n m : Circuit) → IsCircuit n → (edit : SingleEdit) → after_single n edit ≡ Ok m → IsSaid edit
said_single n m ok edit made = accepted_single n ok edit (unrefused (refusal n edit) (edited n edit) m made)

said_each : EditsKeepNetlists → (place : ℕ) (n m : Circuit) → IsCircuit n → (edits : List SingleEdit) → after_each place n edits ≡ Ok m → All IsSaid edits
said_each keeps place n m ok [] made = All-nil IsSaid
said_each keeps place n m ok (edit ∷ edits) made = by (λ next whole later. said_each keeps (place + 1) next m whole edits later) (after_single n edit) refl made
  where
    by : ((next : Circuit) → IsCircuit next → after_each (place + 1) next edits ≡ Ok m → All IsSaid edits)
        → (first : Result Circuit EditError) → after_single n edit ≡ first → go_on (λ next. after_each (place + 1) next edits) (in_place place first) ≡ Ok m → All IsSaid (edit ∷ edits)
    by others (Ok next) is later = All-cons IsSaid edit edits (said_single n next ok edit is) (others next (keeps n next ok (Single edit) is) later)
    by others (Err error) is later = cc

pub accepted_said : EditsKeepNetlists → (n m : Circuit) → IsCircuit n → (edit : Edit) → after n edit ≡ Ok m → IsEditSaid edit
accepted_said keeps n m ok (Single edit) made = said_single n m ok edit made
accepted_said keeps n m ok (Batch edits) made = by (is_batch edits) refl made
  where
    by : (b : Bool) → is_batch edits ≡ b → cond b (after_each 1 n edits) (Err BadBatch) ≡ Ok m → IsEditSaid (Batch edits)
    by true is later = (leb-true 1 (length edits) (and_parts (nat_le 1 (length edits)) (nat_le (length edits) 256) is).0, said_each keeps 1 n m ok edits later)
    by false is later = cc
