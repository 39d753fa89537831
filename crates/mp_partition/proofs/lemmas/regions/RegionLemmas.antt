-- A part of a netlist is a netlist.
use Rattle.std.proofs.Common.{◌≡◌, ℕ, ◌+◌, ◌-◌, ◌^◌, ◌<◌, Bool, true, false, cond, ◌==◌, ◌&&◌, nat_lt, List, [], ◌∷◌, ◌++◌, Option, Some, None, is_some, length, slice_index_or, zero, suc, refl, ap, sym, subst, ◌∙◌, arith, inl, inr}
use Rattle.std.specs.Prelude.{IsSome, IfSome, IsTrue}
use Rattle.std.proofs.lemmas.Bool.{cases_eq, cases_Bool, eq-eqb, ne_eqb, lt-ltb, and_parts}
use Rattle.mp_wave.specs.Waveform.{changes_after, last_time}
use Rattle.mp_wave.proofs.ChangesLemmas.{last_time-changes_after}
use Rattle.mp_modules.specs.Kinds.{width_from, input_width, output_width, are_params}
use Rattle.mp_modules.specs.Levels.{fits_width}
use Rattle.mp_records.specs.declared.wire_record.WireRecord.{WireRecord}
use Rattle.mp_records.specs.declared.module_record.ModuleRecord.{ModuleRecord}
use Rattle.mp_records.specs.Inputs.{input_at}
use Rattle.mp_records.specs.Names.{is_name}
use Rattle.mp_records.specs.Outputs.{output_at}
use Rattle.mp_records.specs.declared.ids.WireId.{WireId}
use Rattle.mp_records.specs.Stimuli.{is_stimulus}
use Rattle.mp_netlist.specs.Slots.{slot_at}
use Rattle.mp_netlist.specs.Circuit.{Circuit, IsCircuit, IsWire, IsModule, HasWidth, Drives, wire_at, module_at, stimulus_in, width_of, module_width}
use Rattle.mp_modules.specs.storage.AnyModules.{any_part_of}
use Rattle.mp_model.specs.Levels.{initial_of, built}
use Rattle.mp_model.specs.Waves.{level}
use Rattle.mp_model.proofs.LevelFitLemmas.{level_fits}
use Rattle.mp_partition.specs.runs.Marks.{is_marked}
use Rattle.mp_partition.specs.regions.Regions.{partition_of, slots_at_home, set_on_slot, slots_heard, width_in, region, HearsOthers, HasStimuli}

-- the slots are as many
pub length_at_home : (homes : List ℕ) (part m : ℕ) (slots : List (Option ModuleRecord)) → length (slots_at_home homes part m slots) ≡ length slots
length_at_home homes part m [] = refl
length_at_home homes part m (slot ∷ slots) = ap suc (length_at_home homes part (m + 1) slots)

pub length_heard : (n : Circuit) (heard : List Bool) (w : ℕ) (slots : List (Option WireRecord)) → length (slots_heard n heard w slots) ≡ length slots
length_heard n heard w [] = refl
length_heard n heard w (slot ∷ slots) = ap suc (length_heard n heard (w + 1) slots)

cond_none : {A : Type 0} (b : Bool) → let none : Option A = None in cond b none none ≡ none
cond_none true = refl
cond_none false = refl

-- each has what it had, where this is at home
slot_here : (homes : List ℕ) (part m : ℕ) (slots : List (Option ModuleRecord)) (k : ℕ) → slot_at (slots_at_home homes part m slots) k ≡ cond (partition_of homes (m + k) == part) (slot_at slots k) None
slot_here homes part m [] k = sym (cond_none (partition_of homes (m + k) == part))
slot_here homes part m (slot ∷ slots) zero = let e : m + 0 ≡ m = omega arith in rw e refl
slot_here homes part m (slot ∷ slots) (suc k) = let e : m + suc k ≡ m + 1 + k = omega arith in rw e (slot_here homes part (m + 1) slots k)

-- each has what it had, but that levels are set on those that are heard
slot_heard : (n : Circuit) (heard : List Bool) (w : ℕ) (slots : List (Option WireRecord)) (k : ℕ)
    → slot_at (slots_heard n heard w slots) k ≡ cond (is_marked heard (w + k)) (set_on_slot n.horizon (level n (w + k)) (slot_at slots k)) (slot_at slots k)
slot_heard n heard w [] k = sym (cond_none (is_marked heard (w + k)))
slot_heard n heard w (slot ∷ slots) zero = let e : w + 0 ≡ w = omega arith in rw e refl
slot_heard n heard w (slot ∷ slots) (suc k) = let e : w + suc k ≡ w + 1 + k = omega arith in rw e (slot_heard n heard (w + 1) slots k)

-- the changes of levels that fit are a stimulus
fits : (width value : ℕ) → value < 2 ^ width → fits_width width value ≡ true
unfolding fits_width
fits width value low = lt-ltb value (2 ^ width) low

stimulus_push : (horizon width before : ℕ) (xs : List (ℕ × ℕ)) (c : ℕ × ℕ) → is_stimulus horizon width before xs ≡ true → last_time before xs < c.0 → c.0 < horizon → c.1 < 2 ^ width
    → is_stimulus horizon width before (xs ++ c ∷ []) ≡ true
unfolding is_stimulus
stimulus_push horizon width before [] c is later low fit = rw (lt-ltb before c.0 later) (rw (lt-ltb c.0 horizon low) (rw (fits width c.1 fit) refl))
stimulus_push horizon width before (x ∷ xs) c is later low fit =
    let parts = and_parts (nat_lt before x.0 && nat_lt x.0 horizon && fits_width width x.1) (is_stimulus horizon width x.0 xs) is in
    rw parts.0 (stimulus_push horizon width x.0 xs c parts.1 later low fit)

stimulus_none : (horizon width before : ℕ) → is_stimulus horizon width before [] ≡ true
unfolding is_stimulus
stimulus_none horizon width before = refl

stimulus_changes : (horizon width : ℕ) (f : ℕ → ℕ) (count : ℕ) → count < horizon → ((t : ℕ) → f t < 2 ^ width) → is_stimulus horizon width 0 (changes_after f 0 count) ≡ true
stimulus_changes horizon width f zero low fit = stimulus_none horizon width 0
stimulus_changes horizon width f (suc k) low fit = by (f (0 + k) == f (suc (0 + k))) (stimulus_changes horizon width f k (omega (arith, low)) fit)
  where
    append_none : (xs : List (ℕ × ℕ)) → xs ++ [] ≡ xs
    append_none [] = refl
    append_none (x ∷ xs) = ap (λ ys. x ∷ ys) (append_none xs)

    by : (b : Bool) → is_stimulus horizon width 0 (changes_after f 0 k) ≡ true → is_stimulus horizon width 0 (changes_after f 0 k ++ cond b [] ((suc (0 + k), f (suc (0 + k))) ∷ [])) ≡ true
    by true before = subst (λ xs. is_stimulus horizon width 0 xs ≡ true) (sym (append_none (changes_after f 0 k))) before
    by false before = stimulus_push horizon width 0 (changes_after f 0 k) (suc (0 + k), f (suc (0 + k))) before
        (let last = last_time-changes_after f 0 k in omega (arith, last)) (omega (arith, low)) (fit (suc (0 + k)))

-- where no homes are named and nothing is heard, the first part is the whole
all_here : (m : ℕ) (slots : List (Option ModuleRecord)) → slots_at_home [] 0 m slots ≡ slots
all_here m [] = refl
all_here m (slot ∷ slots) = ap (λ (rest : List (Option ModuleRecord)). slot ∷ rest) (all_here (m + 1) slots)

none_heard : (n : Circuit) (w : ℕ) (slots : List (Option WireRecord)) → slots_heard n [] w slots ≡ slots
none_heard n w [] = refl
none_heard n w (slot ∷ slots) = ap (λ (rest : List (Option WireRecord)). slot ∷ rest) (none_heard n (w + 1) slots)

pub whole_is : (n : Circuit) → region n [] 0 [] ≡ n
whole_is n =
    ap (λ (wires : List (Option WireRecord)). let part : Circuit = record n { wires = wires; modules = slots_at_home [] 0 0 n.modules } in part) (none_heard n 0 n.wires)
    ∙ ap (λ (modules : List (Option ModuleRecord)). let part : Circuit = record n { modules = modules } in part) (all_here 0 n.modules)

module _ (n : Circuit) (homes : List ℕ) (part : ℕ) (heard : List Bool) where
  pub module_here : (m : ℕ) → partition_of homes m ≡ part → module_at (region n homes part heard) m ≡ module_at n m
  module_here m home = let e : 0 + m ≡ m = omega arith in slot_here homes part 0 n.modules m ∙ rw e (rw (eq-eqb (partition_of homes m) part home) refl)

  pub module_elsewhere : (m : ℕ) → (partition_of homes m ≡ part → ⊥) → module_at (region n homes part heard) m ≡ None
  module_elsewhere m other = let e : 0 + m ≡ m = omega arith in slot_here homes part 0 n.modules m ∙ rw e (rw (ne_eqb (partition_of homes m) part other) refl)

  -- a module of the part
  pub record IsHere (m : ℕ) (r : ModuleRecord) : Type 0 where
    pub home : partition_of homes m ≡ part
    pub stands : module_at n m ≡ Some r

  pub is_here : (m : ℕ) (r : ModuleRecord) → module_at (region n homes part heard) m ≡ Some r → IsHere m r
  is_here m r at = elim (cases_eq (partition_of homes m) part) as (λ _. IsHere m r) [
    | inl same ↦ record { home = same; stands = sym (module_here m same) ∙ at }
    | inr other ↦ let none = module_elsewhere m other in let no : ⊥ = cc in absurd no
  ]

  -- what drives a wire in the part drives it
  pub drives_there : (m p w : ℕ) → Drives (region n homes part heard) m p w → Drives n m p w
  drives_there m p w drives = record { part = drives.part; stands = (is_here m drives.part drives.stands).stands; output = drives.output }

  pub drives_home : (m p w : ℕ) → Drives (region n homes part heard) m p w → partition_of homes m ≡ part
  drives_home m p w drives = (is_here m drives.part drives.stands).home

  pub drives_here : (m p w : ℕ) → partition_of homes m ≡ part → Drives n m p w → Drives (region n homes part heard) m p w
  drives_here m p w home drives = record { part = drives.part; stands = module_here m home ∙ drives.stands; output = drives.output }

  -- what stands in a wire's slot
  wire_is : (w : ℕ) → wire_at (region n homes part heard) w ≡ cond (is_marked heard w) (set_on_slot n.horizon (level n w) (wire_at n w)) (wire_at n w)
  wire_is w = let e : 0 + w ≡ w = omega arith in slot_heard n heard 0 n.wires w ∙ rw e refl

  pub wire_heard : (w : ℕ) → is_marked heard w ≡ true → wire_at (region n homes part heard) w ≡ set_on_slot n.horizon (level n w) (wire_at n w)
  wire_heard w is = wire_is w ∙ rw is refl

  pub wire_unheard : (w : ℕ) → is_marked heard w ≡ false → wire_at (region n homes part heard) w ≡ wire_at n w
  wire_unheard w not = wire_is w ∙ rw not refl

  -- the slots hold the same, but for what is set
  same_by : {X : Type 0} (f : Option WireRecord → X) (w : ℕ) → f (set_on_slot n.horizon (level n w) (wire_at n w)) ≡ f (wire_at n w) → f (wire_at (region n homes part heard) w) ≡ f (wire_at n w)
  same_by f w same = elim (cases_Bool (is_marked heard w)) as (λ _. f (wire_at (region n homes part heard) w) ≡ f (wire_at n w)) [
    | inl is ↦ ap f (wire_heard w is) ∙ same
    | inr not ↦ ap f (wire_unheard w not)
  ]

  pub width_there : (w : ℕ) → width_of (wire_at (region n homes part heard) w) ≡ width_of (wire_at n w)
  width_there w = same_by width_of w (by (wire_at n w))
    where
      by : (slot : Option WireRecord) → width_of (set_on_slot n.horizon (level n w) slot) ≡ width_of slot
      by None = refl
      by (Some r) = refl

  pub initial_there : (w : ℕ) → initial_of (wire_at (region n homes part heard) w) ≡ initial_of (wire_at n w)
  initial_there w = same_by initial_of w (by (wire_at n w))
    where
      by : (slot : Option WireRecord) → initial_of (set_on_slot n.horizon (level n w) slot) ≡ initial_of slot
      by None = refl
      by (Some r) = refl

  pub stands_there : (w : ℕ) → is_some (wire_at (region n homes part heard) w) ≡ is_some (wire_at n w)
  stands_there w = same_by is_some w (by (wire_at n w))
    where
      by : (slot : Option WireRecord) → is_some (set_on_slot n.horizon (level n w) slot) ≡ is_some slot
      by None = refl
      by (Some r) = refl

  pub module_width_there : (r : ModuleRecord) → module_width (region n homes part heard) r ≡ module_width n r
  module_width_there r = ap (width_from r.kind) (width_there (input_at r 0).wire.0)

  pub widths_there : (w : ℕ) → width_in (wire_at (region n homes part heard) w) ≡ width_in (wire_at n w)
  widths_there w = same_by width_in w (by (wire_at n w))
    where
      by : (slot : Option WireRecord) → width_in (set_on_slot n.horizon (level n w) slot) ≡ width_in slot
      by None = refl
      by (Some r) = refl

  pub has_stimuli : HasStimuli n (region n homes part heard) heard
  has_stimuli = record { places = length_heard n heard 0 n.wires; initial = initial_there; widths = widths_there; same = λ w not. ap stimulus_in (wire_unheard w not) }

  pub built_there : (r : ModuleRecord) → built (region n homes part heard) r ≡ built n r
  built_there r = ap (λ width. any_part_of r.kind r.params width) (module_width_there r)

  some_there : (w : ℕ) → IsSome (wire_at n w) → IsSome (wire_at (region n homes part heard) w)
  some_there w some = stands_there w ∙ some

  has_width_there : (w width : ℕ) → HasWidth n w width → HasWidth (region n homes part heard) w width
  has_width_there w width has = (some_there w has.0, width_there w ∙ has.1)

  -- a module of the part
  drives_of : (r : ModuleRecord) (p : ℕ) (wire : Option WireId) → IfSome wire (λ w. HasWidth n w.0 (output_width r.kind (module_width n r) p))
      → IfSome wire (λ w. HasWidth (region n homes part heard) w.0 (output_width r.kind (module_width (region n homes part heard) r) p))
  drives_of r p None has = tt
  drives_of r p (Some w) has = subst (λ width. HasWidth (region n homes part heard) w.0 (output_width r.kind width p)) (sym (module_width_there r))
      (has_width_there w.0 (output_width r.kind (module_width n r) p) has)

  pub module_form : (r : ModuleRecord) → IsModule n r → IsModule (region n homes part heard) r
  module_form r is = record {
    inputs = is.inputs;
    outputs = is.outputs;
    params = subst (λ width. IsTrue (are_params r.kind width r.params)) (sym (module_width_there r)) is.params;
    input_delays = is.input_delays;
    delays = is.delays;
    reads = λ p i within. subst (λ width. HasWidth (region n homes part heard) (slice_index_or r.inputs p i).wire.0 (input_width r.kind width p)) (sym (module_width_there r))
        (has_width_there (slice_index_or r.inputs p i).wire.0 (input_width r.kind (module_width n r) p) (is.reads p i within));
    drives = λ p. drives_of r p (output_at r p).wire (is.drives p);
  }

  -- a wire of the part
  record IsWireOf (w : ℕ) (r : WireRecord) : Type 0 where
    pub wire : WireRecord
    pub stands : wire_at n w ≡ Some wire
    pub name : r.name ≡ wire.name
    pub form : IsWire n.horizon r

  module _ (ok : IsCircuit n) (apart : HearsOthers n homes part heard) where
    wire_of : (w : ℕ) (r : WireRecord) → wire_at (region n homes part heard) w ≡ Some r → IsWireOf w r
    wire_of w r at = elim (cases_Bool (is_marked heard w)) as (λ _. IsWireOf w r) [
      | inl is ↦ by (wire_at n w) refl (sym (wire_heard w is) ∙ at)
      | inr not ↦ let stands = sym (wire_unheard w not) ∙ at in record { wire = r; stands = stands; name = refl; form = ok.wires_ok w r stands }
    ]
      where
        set : WireRecord → WireRecord
        set s = record s { stimulus = Some (changes_after (level n w) 0 (n.horizon - 1)) }

        heard_form : (s : WireRecord) → wire_at n w ≡ Some s → IsWire n.horizon (set s)
        heard_form s stands =
            let form = ok.wires_ok w s stands in
            let fit : (t : ℕ) → level n w t < 2 ^ s.width = λ t. subst (λ slot. level n w t < 2 ^ width_of slot) stands (level_fits n ok w t) in
            record {
              wide = form.wide;
              narrow = form.narrow;
              level = form.level;
              stimulus = stimulus_changes n.horizon s.width (level n w) (n.horizon - 1) (let low = ok.horizon_low in omega (arith, low)) fit;
            }

        by : (slot : Option WireRecord) → wire_at n w ≡ slot → set_on_slot n.horizon (level n w) slot ≡ Some r → IsWireOf w r
        by None stands e = cc
        by (Some s) stands e =
            let same : set s ≡ r = cc in
            subst (IsWireOf w) same (record { wire = s; stands = stands; name = refl; form = heard_form s stands })

    -- a part is a netlist
    pub region_is : IsCircuit (region n homes part heard)
    region_is = record {
      horizon_low = ok.horizon_low;
      horizon_high = ok.horizon_high;
      wires_ok = λ w r at. (wire_of w r at).form;
      modules_ok = λ m r at. module_form r (ok.modules_ok m r (is_here m r at).stands);
      bundles_ok = λ b r at.
          let is = ok.bundles_ok b r at in
          record { request = has_width_there _ _ is.request; acknowledge = has_width_there _ _ is.acknowledge; payload = some_there _ is.payload; setup = is.setup };
      names = record {
        wires = λ w r at. let is = wire_of w r at in subst (λ name. is_name name ≡ true) (sym is.name) (ok.names.wires w is.wire is.stands);
        modules = λ m r at. ok.names.modules m r (is_here m r at).stands;
        bundles = ok.names.bundles;
        one_wire = λ w v r s at stands same.
            let one = wire_of w r at in
            let other = wire_of v s stands in
            ok.names.one_wire w v one.wire other.wire one.stands other.stands (sym one.name ∙ same ∙ other.name);
        one_module = λ m k r s at stands. ok.names.one_module m k r s (is_here m r at).stands (is_here k s stands).stands;
        one_bundle = ok.names.one_bundle;
      };
      one_port = λ m p k q w drives too. ok.one_port m p k q w (drives_there m p w drives) (drives_there k q w too);
      port_or_stimulus = λ m p w drives.
          let there = drives_there m p w drives in
          has_stimuli.same w (apart m p w there (drives_home m p w drives)) ∙ ok.port_or_stimulus m p w there;
      wires_few = let same = has_stimuli.places in let few = ok.wires_few in omega (arith, same, few);
      modules_few = let same = length_at_home homes part 0 n.modules in let few = ok.modules_few in omega (arith, same, few);
      bundles_few = ok.bundles_few;
    }
