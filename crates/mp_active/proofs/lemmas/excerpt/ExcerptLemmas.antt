-- The excerpt of a netlist is a netlist.
use Rattle.std.proofs.Common.{◌≡◌, ℕ, ◌+◌, Bool, true, false, not, cond, List, [], ◌∷◌, Option, Some, None, is_some, length, slice_index_or, zero, suc, refl, ap, sym, subst, ◌∙◌, arith, inl, inr}
use Rattle.std.specs.Prelude.{IsSome, IfSome, IsTrue}
use Rattle.std.proofs.lemmas.Bool.{cases_Bool}
use Rattle.mp_modules.specs.Kinds.{width_from, input_width, output_width, are_params}
use Rattle.mp_records.specs.declared.ids.WireId.{WireId}
use Rattle.mp_records.specs.declared.wire_record.WireRecord.{WireRecord}
use Rattle.mp_records.specs.declared.module_record.ModuleRecord.{ModuleRecord}
use Rattle.mp_records.specs.Inputs.{input_at}
use Rattle.mp_records.specs.Names.{is_name}
use Rattle.mp_records.specs.Outputs.{output_at}
use Rattle.mp_netlist.specs.Slots.{slot_at}
use Rattle.mp_netlist.specs.Circuit.{Circuit, IsCircuit, IsWire, IsModule, HasWidth, Drives, wire_at, module_at, stimulus_in, width_of, module_width}
use Rattle.mp_netlist.specs.Drivers.{driver}
use Rattle.mp_netlist.proofs.DriverLemmas.{finds_ports}
use Rattle.mp_modules.specs.storage.AnyModules.{any_part_of}
use Rattle.mp_model.specs.Levels.{initial_of, built}
use Rattle.mp_model.specs.Waves.{level}
use Rattle.mp_partition.specs.runs.Marks.{is_marked}
use Rattle.mp_partition.specs.regions.Regions.{set_on_slot, width_in}
use Rattle.mp_partition.proofs.lemmas.regions.RegionLemmas.{region_is, wire_heard}
use Rattle.mp_active.specs.excerpt.Excerpts.{active_slots, is_followed, unset_slot, slot_on, slots_on, excerpt, ArePortsOn, ExcerptsAreCircuits}

-- the slots are as many
pub length_active : (active : ℕ → Bool) (m : ℕ) (slots : List (Option ModuleRecord)) → length (active_slots active m slots) ≡ length slots
length_active active m [] = refl
length_active active m (slot ∷ slots) = ap suc (length_active active (m + 1) slots)

pub length_on : (n : Circuit) (active on : ℕ → Bool) (w : ℕ) (slots : List (Option WireRecord)) → length (slots_on n active on w slots) ≡ length slots
length_on n active on w [] = refl
length_on n active on w (slot ∷ slots) = ap suc (length_on n active on (w + 1) slots)

cond_none : {A : Type 0} (b : Bool) → let none : Option A = None in cond b none none ≡ none
cond_none true = refl
cond_none false = refl

-- each has what it had, where this is active
active_slot : (active : ℕ → Bool) (m : ℕ) (slots : List (Option ModuleRecord)) (k : ℕ) → slot_at (active_slots active m slots) k ≡ cond (active (m + k)) (slot_at slots k) None
active_slot active m [] k = sym (cond_none (active (m + k)))
active_slot active m (slot ∷ slots) zero = let e : m + 0 ≡ m = omega arith in rw e refl
active_slot active m (slot ∷ slots) (suc k) = let e : m + suc k ≡ m + 1 + k = omega arith in rw e (active_slot active (m + 1) slots k)

none_on : (n : Circuit) (active : ℕ → Bool) (w : ℕ) → (b : Bool) → slot_on n active w None ≡ None
none_on n active w b = by (is_followed active (driver n w))
  where
    by : (f : Bool) → cond f (set_on_slot n.horizon (level n w) None) None ≡ None
    by true = refl
    by false = refl

no_slot : (n : Circuit) (active : ℕ → Bool) (w : ℕ) (b : Bool) → cond b (slot_on n active w None) (unset_slot None) ≡ None
no_slot n active w true = none_on n active w true
no_slot n active w false = refl

slot_is : (n : Circuit) (active on : ℕ → Bool) (w : ℕ) (slots : List (Option WireRecord)) (k : ℕ)
    → slot_at (slots_on n active on w slots) k ≡ cond (on (w + k)) (slot_on n active (w + k) (slot_at slots k)) (unset_slot (slot_at slots k))
slot_is n active on w [] k = sym (no_slot n active (w + k) (on (w + k)))
slot_is n active on w (slot ∷ slots) zero = let e : w + 0 ≡ w = omega arith in rw e refl
slot_is n active on w (slot ∷ slots) (suc k) = let e : w + suc k ≡ w + 1 + k = omega arith in rw e (slot_is n active on (w + 1) slots k)

-- marks for so many
marks : ℕ → List Bool
marks zero = true ∷ []
marks (suc w) = true ∷ marks w

marked : (w : ℕ) → is_marked (marks w) w ≡ true
unfolding marks
marked zero = refl
marked (suc w) = marked w

-- the levels of a wire that stands are a stimulus
set_form : (n : Circuit) → IsCircuit n → (w : ℕ) (r : WireRecord) → set_on_slot n.horizon (level n w) (wire_at n w) ≡ Some r → IsWire n.horizon r
set_form n ok w r is =
    (region_is n [] 1 (marks w) ok (λ m p v drives home. let no : ⊥ = omega (arith, home) in absurd no)).wires_ok w r (wire_heard n [] 1 (marks w) w (marked w) ∙ is)

module _ (n : Circuit) (active on : ℕ → Bool) where
  pub module_is : (m : ℕ) → module_at (excerpt n active on) m ≡ cond (active m) (module_at n m) None
  module_is m = let e : 0 + m ≡ m = omega arith in active_slot active 0 n.modules m ∙ rw e refl

  pub module_active : (m : ℕ) → active m ≡ true → module_at (excerpt n active on) m ≡ module_at n m
  module_active m is = module_is m ∙ rw is refl

  pub module_asleep : (m : ℕ) → active m ≡ false → module_at (excerpt n active on) m ≡ None
  module_asleep m is = module_is m ∙ rw is refl

  -- a module of the excerpt
  pub record IsHere (m : ℕ) (r : ModuleRecord) : Type 0 where
    pub awake : active m ≡ true
    pub stands : module_at n m ≡ Some r

  pub is_here : (m : ℕ) (r : ModuleRecord) → module_at (excerpt n active on) m ≡ Some r → IsHere m r
  is_here m r at = elim (cases_Bool (active m)) as (λ _. IsHere m r) [
    | inl is ↦ record { awake = is; stands = sym (module_active m is) ∙ at }
    | inr not ↦ let none = module_asleep m not in let no : ⊥ = cc in absurd no
  ]

  -- what drives a wire in the excerpt drives it
  pub drives_there : (m p w : ℕ) → Drives (excerpt n active on) m p w → Drives n m p w
  drives_there m p w drives = record { part = drives.part; stands = (is_here m drives.part drives.stands).stands; output = drives.output }

  pub drives_active : (m p w : ℕ) → Drives (excerpt n active on) m p w → active m ≡ true
  drives_active m p w drives = (is_here m drives.part drives.stands).awake

  pub drives_here : (m p w : ℕ) → active m ≡ true → Drives n m p w → Drives (excerpt n active on) m p w
  drives_here m p w is drives = record { part = drives.part; stands = module_active m is ∙ drives.stands; output = drives.output }

  -- what stands in a wire's slot
  wire_is : (w : ℕ) → wire_at (excerpt n active on) w ≡ cond (on w) (slot_on n active w (wire_at n w)) (unset_slot (wire_at n w))
  wire_is w = let e : 0 + w ≡ w = omega arith in slot_is n active on 0 n.wires w ∙ rw e refl

  pub wire_off : (w : ℕ) → on w ≡ false → wire_at (excerpt n active on) w ≡ unset_slot (wire_at n w)
  wire_off w is = wire_is w ∙ rw is refl

  pub wire_followed : (w : ℕ) → on w ≡ true → is_followed active (driver n w) ≡ true → wire_at (excerpt n active on) w ≡ set_on_slot n.horizon (level n w) (wire_at n w)
  wire_followed w is followed = wire_is w ∙ rw is (rw followed refl)

  pub wire_own : (w : ℕ) → on w ≡ true → is_followed active (driver n w) ≡ false → wire_at (excerpt n active on) w ≡ wire_at n w
  wire_own w is own = wire_is w ∙ rw is (rw own refl)

  -- the slots hold the same, but for what is set
  pub same_by : {X : Type 0} (f : Option WireRecord → X) (w : ℕ) → f (set_on_slot n.horizon (level n w) (wire_at n w)) ≡ f (wire_at n w) → f (unset_slot (wire_at n w)) ≡ f (wire_at n w)
      → f (wire_at (excerpt n active on) w) ≡ f (wire_at n w)
  same_by f w set unset = elim (cases_Bool (on w)) as (λ _. f (wire_at (excerpt n active on) w) ≡ f (wire_at n w)) [
    | inl is ↦ elim (cases_Bool (is_followed active (driver n w))) as (λ _. f (wire_at (excerpt n active on) w) ≡ f (wire_at n w)) [
      | inl followed ↦ ap f (wire_followed w is followed) ∙ set
      | inr own ↦ ap f (wire_own w is own)
    ]
    | inr not ↦ ap f (wire_off w not) ∙ unset
  ]

  pub width_there : (w : ℕ) → width_of (wire_at (excerpt n active on) w) ≡ width_of (wire_at n w)
  width_there w = same_by width_of w (set (wire_at n w)) (unset (wire_at n w))
    where
      set : (slot : Option WireRecord) → width_of (set_on_slot n.horizon (level n w) slot) ≡ width_of slot
      set None = refl
      set (Some r) = refl

      unset : (slot : Option WireRecord) → width_of (unset_slot slot) ≡ width_of slot
      unset None = refl
      unset (Some r) = refl

  pub initial_there : (w : ℕ) → initial_of (wire_at (excerpt n active on) w) ≡ initial_of (wire_at n w)
  initial_there w = same_by initial_of w (set (wire_at n w)) (unset (wire_at n w))
    where
      set : (slot : Option WireRecord) → initial_of (set_on_slot n.horizon (level n w) slot) ≡ initial_of slot
      set None = refl
      set (Some r) = refl

      unset : (slot : Option WireRecord) → initial_of (unset_slot slot) ≡ initial_of slot
      unset None = refl
      unset (Some r) = refl

  pub stands_there : (w : ℕ) → is_some (wire_at (excerpt n active on) w) ≡ is_some (wire_at n w)
  stands_there w = same_by is_some w (set (wire_at n w)) (unset (wire_at n w))
    where
      set : (slot : Option WireRecord) → is_some (set_on_slot n.horizon (level n w) slot) ≡ is_some slot
      set None = refl
      set (Some r) = refl

      unset : (slot : Option WireRecord) → is_some (unset_slot slot) ≡ is_some slot
      unset None = refl
      unset (Some r) = refl

  pub widths_there : (w : ℕ) → width_in (wire_at (excerpt n active on) w) ≡ width_in (wire_at n w)
  widths_there w = same_by width_in w (set (wire_at n w)) (unset (wire_at n w))
    where
      set : (slot : Option WireRecord) → width_in (set_on_slot n.horizon (level n w) slot) ≡ width_in slot
      set None = refl
      set (Some r) = refl

      unset : (slot : Option WireRecord) → width_in (unset_slot slot) ≡ width_in slot
      unset None = refl
      unset (Some r) = refl

  pub module_width_there : (r : ModuleRecord) → module_width (excerpt n active on) r ≡ module_width n r
  module_width_there r = ap (width_from r.kind) (width_there (input_at r 0).wire.0)

  pub built_there : (r : ModuleRecord) → built (excerpt n active on) r ≡ built n r
  built_there r = ap (λ width. any_part_of r.kind r.params width) (module_width_there r)

  some_there : (w : ℕ) → IsSome (wire_at n w) → IsSome (wire_at (excerpt n active on) w)
  some_there w some = stands_there w ∙ some

  has_width_there : (w width : ℕ) → HasWidth n w width → HasWidth (excerpt n active on) w width
  has_width_there w width has = (some_there w has.0, width_there w ∙ has.1)

  -- a module of the excerpt
  drives_of : (r : ModuleRecord) (p : ℕ) (wire : Option WireId) → IfSome wire (λ w. HasWidth n w.0 (output_width r.kind (module_width n r) p))
      → IfSome wire (λ w. HasWidth (excerpt n active on) w.0 (output_width r.kind (module_width (excerpt n active on) r) p))
  drives_of r p None has = tt
  drives_of r p (Some w) has = subst (λ width. HasWidth (excerpt n active on) w.0 (output_width r.kind width p)) (sym (module_width_there r))
      (has_width_there w.0 (output_width r.kind (module_width n r) p) has)

  module_form : (r : ModuleRecord) → IsModule n r → IsModule (excerpt n active on) r
  module_form r is = record {
    inputs = is.inputs;
    outputs = is.outputs;
    params = subst (λ width. IsTrue (are_params r.kind width r.params)) (sym (module_width_there r)) is.params;
    input_delays = is.input_delays;
    delays = is.delays;
    reads = λ p i within. subst (λ width. HasWidth (excerpt n active on) (slice_index_or r.inputs p i).wire.0 (input_width r.kind width p)) (sym (module_width_there r))
        (has_width_there (slice_index_or r.inputs p i).wire.0 (input_width r.kind (module_width n r) p) (is.reads p i within));
    drives = λ p. drives_of r p (output_at r p).wire (is.drives p);
  }

  -- a wire of the excerpt
  record IsWireOf (w : ℕ) (r : WireRecord) : Type 0 where
    pub wire : WireRecord
    pub stands : wire_at n w ≡ Some wire
    pub name : r.name ≡ wire.name
    pub form : IsWire n.horizon r

  module _ (ok : IsCircuit n) (ports : ArePortsOn n active on) where
    wire_set : (w : ℕ) (r : WireRecord) (slot : Option WireRecord) → wire_at n w ≡ slot → set_on_slot n.horizon (level n w) slot ≡ Some r → IsWireOf w r
    wire_set w r None stands e = let no : ⊥ = cc in absurd no
    wire_set w r (Some s) stands e = record {
      wire = s;
      stands = stands;
      name = ap (name_in r.name) (sym e);
      form = set_form n ok w r (ap (set_on_slot n.horizon (level n w)) stands ∙ e);
    }
      where
        name_in : List ℕ → Option WireRecord → List ℕ
        name_in none None = none
        name_in none (Some x) = x.name

    wire_unset : (w : ℕ) (r : WireRecord) (slot : Option WireRecord) → wire_at n w ≡ slot → unset_slot slot ≡ Some r → IsWireOf w r
    wire_unset w r None stands e = let no : ⊥ = cc in absurd no
    wire_unset w r (Some s) stands e =
        let form = ok.wires_ok w s stands in
        let bare : WireRecord = record s { stimulus = None } in
        let same : bare ≡ r = cc in
        subst (IsWireOf w) same (record { wire = s; stands = stands; name = refl; form = record { wide = form.wide; narrow = form.narrow; level = form.level; stimulus = tt } })

    wire_of : (w : ℕ) (r : WireRecord) → wire_at (excerpt n active on) w ≡ Some r → IsWireOf w r
    wire_of w r at = elim (cases_Bool (on w)) as (λ _. IsWireOf w r) [
      | inl is ↦ elim (cases_Bool (is_followed active (driver n w))) as (λ _. IsWireOf w r) [
        | inl followed ↦ wire_set w r (wire_at n w) refl (sym (wire_followed w is followed) ∙ at)
        | inr own ↦ let stands = sym (wire_own w is own) ∙ at in record { wire = r; stands = stands; name = refl; form = ok.wires_ok w r stands }
      ]
      | inr not ↦ wire_unset w r (wire_at n w) refl (sym (wire_off w not) ∙ at)
    ]

    -- an active module's wire isn't followed
    pub active_own : (m p w : ℕ) → active m ≡ true → Drives n m p w → is_followed active (driver n w) ≡ false
    active_own m p w is drives = ap (is_followed active) (finds_ports n ok m p w drives) ∙ ap not is

    -- an excerpt is a netlist
    pub excerpt_ok : IsCircuit (excerpt n active on)
    excerpt_ok = record {
      horizon_low = ok.horizon_low;
      horizon_high = ok.horizon_high;
      wires_ok = λ w r at. (wire_of w r at).form;
      modules_ok = λ m r at. module_form r (ok.modules_ok m r (is_here m r at).stands);
      bundles_ok = λ b r at.
          let is = ok.bundles_ok b r at in
          record { request = has_width_there _ _ is.request; acknowledge = has_width_there _ _ is.acknowledge; payload = some_there _ is.payload; setup = is.setup };
      names = record {
        wires = λ w r at. let is = wire_of w r at in subst (λ name. is_name name ≡ true) (sym is.name) (ok.names.wires w is.wire is.stands);
        modules = λ m r at. ok.names.modules m r (is_here m r at).stands;
        bundles = ok.names.bundles;
        one_wire = λ w v r s at stands same.
            let one = wire_of w r at in
            let other = wire_of v s stands in
            ok.names.one_wire w v one.wire other.wire one.stands other.stands (sym one.name ∙ same ∙ other.name);
        one_module = λ m k r s at stands. ok.names.one_module m k r s (is_here m r at).stands (is_here k s stands).stands;
        one_bundle = ok.names.one_bundle;
      };
      one_port = λ m p k q w drives too. ok.one_port m p k q w (drives_there m p w drives) (drives_there k q w too);
      port_or_stimulus = λ m p w drives.
          let there = drives_there m p w drives in
          let is = drives_active m p w drives in
          ap stimulus_in (wire_own w (ports.driven m p w is there) (active_own m p w is there)) ∙ ok.port_or_stimulus m p w there;
      wires_few = let same = length_on n active on 0 n.wires in let few = ok.wires_few in omega (arith, same, few);
      modules_few = let same = length_active active 0 n.modules in let few = ok.modules_few in omega (arith, same, few);
      bundles_few = ok.bundles_few;
    }

pub excerpt_is : ExcerptsAreCircuits
excerpt_is n ok active on ports = excerpt_ok n active on ok ports
