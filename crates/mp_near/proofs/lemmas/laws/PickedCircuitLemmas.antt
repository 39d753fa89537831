-- What is picked from a netlist is a netlist.
use Rattle.std.proofs.Common.{◌≡◌, ℕ, ◌+◌, ◌-◌, ◌^◌, ◌<◌, ◌≤◌, Bool, true, false, cond, ◌==◌, ◌&&◌, nat_lt, List, [], ◌∷◌, ◌++◌, Option, Some, None, map, option_map, length, slice_index_or, zero, suc, refl, ap, sym, subst, ◌∙◌, arith, inl, inr}
use Rattle.std.specs.Prelude.{IfSome, IsTrue}
use Rattle.std.proofs.lemmas.Bool.{cases_Bool, lt-ltb, and_parts}
use Rattle.std.proofs.lemmas.List.{length-map, get_or-map}
use Rattle.mp_wave.specs.Waveform.{changes_after, last_time}
use Rattle.mp_wave.proofs.ChangesLemmas.{last_time-changes_after}
use Rattle.mp_modules.specs.Kinds.{input_width, output_width, are_params}
use Rattle.mp_modules.specs.Levels.{fits_width}
use Rattle.mp_records.specs.declared.ids.WireId.{WireId}
use Rattle.mp_records.specs.declared.ports.Input.{Input}
use Rattle.mp_records.specs.declared.ports.Output.{Output}
use Rattle.mp_records.specs.declared.wire_record.WireRecord.{WireRecord}
use Rattle.mp_records.specs.declared.module_record.ModuleRecord.{ModuleRecord}
use Rattle.mp_records.specs.declared.bundle_record.BundleRecord.{BundleRecord}
use Rattle.mp_records.specs.Names.{is_name}
use Rattle.mp_records.specs.Outputs.{output_at}
use Rattle.mp_records.specs.Stimuli.{is_stimulus}
use Rattle.mp_netlist.specs.Limits.{bundle_limit, horizon_limit}
use Rattle.mp_netlist.specs.Slots.{slot_at}
use Rattle.mp_netlist.specs.Circuit.{Circuit, IsCircuit, IsWire, IsModule, HasWidth, Drives, HasNames, wire_at, module_at, bundle_at, stimulus_in, width_of, module_width}
use Rattle.mp_partition.specs.regions.Regions.{set_on_slot}
use Rattle.mp_near.specs.laws.Picking.{Picking, has_module, placed_input, placed_wire, placed_output, placed, IsPicking, HasPicked, HasRoom, GivenFit, PickedAreCircuits}
use Rattle.mp_near.proofs.lemmas.laws.PlacedLemmas.{some_is, module_picked, output_placed, slot_given, slot_own, is_here, seat_is, picked_there, drives_there, reads_at, has_width_placed, module_width_there}

-- ---- levels that fit are a stimulus
fits : (width value : ℕ) → value < 2 ^ width → fits_width width value ≡ true
unfolding fits_width
fits width value low = lt-ltb value (2 ^ width) low

stimulus_push : (horizon width before : ℕ) (xs : List (ℕ × ℕ)) (c : ℕ × ℕ) → is_stimulus horizon width before xs ≡ true → last_time before xs < c.0 → c.0 < horizon → c.1 < 2 ^ width
    → is_stimulus horizon width before (xs ++ c ∷ []) ≡ true
unfolding is_stimulus
stimulus_push horizon width before [] c is later low fit = rw (lt-ltb before c.0 later) (rw (lt-ltb c.0 horizon low) (rw (fits width c.1 fit) refl))
stimulus_push horizon width before (x ∷ xs) c is later low fit =
    let parts = and_parts (nat_lt before x.0 && nat_lt x.0 horizon && fits_width width x.1) (is_stimulus horizon width x.0 xs) is in
    rw parts.0 (stimulus_push horizon width x.0 xs c parts.1 later low fit)

stimulus_none : (horizon width before : ℕ) → is_stimulus horizon width before [] ≡ true
unfolding is_stimulus
stimulus_none horizon width before = refl

stimulus_changes : (horizon width : ℕ) (f : ℕ → ℕ) (count : ℕ) → count < horizon → ((t : ℕ) → f t < 2 ^ width) → is_stimulus horizon width 0 (changes_after f 0 count) ≡ true
stimulus_changes horizon width f zero low fit = stimulus_none horizon width 0
stimulus_changes horizon width f (suc k) low fit = by (f (0 + k) == f (suc (0 + k))) (stimulus_changes horizon width f k (omega (arith, low)) fit)
  where
    append_none : (xs : List (ℕ × ℕ)) → xs ++ [] ≡ xs
    append_none [] = refl
    append_none (x ∷ xs) = ap (λ ys. x ∷ ys) (append_none xs)

    by : (b : Bool) → is_stimulus horizon width 0 (changes_after f 0 k) ≡ true → is_stimulus horizon width 0 (changes_after f 0 k ++ cond b [] ((suc (0 + k), f (suc (0 + k))) ∷ [])) ≡ true
    by true before = subst (λ xs. is_stimulus horizon width 0 xs ≡ true) (sym (append_none (changes_after f 0 k))) before
    by false before = stimulus_push horizon width 0 (changes_after f 0 k) (suc (0 + k), f (suc (0 + k))) before
        (let last = last_time-changes_after f 0 k in omega (arith, last)) (omega (arith, low)) (fit (suc (0 + k)))

module _ (n s : Circuit) (pick : Picking) (levels : ℕ → ℕ → ℕ) (ok : IsCircuit n) (is : IsPicking n pick) (has : HasPicked n s pick levels) where
  -- ---- wires
  record IsWireOf (k : ℕ) (r : WireRecord) : Type 0 where
    wire : WireRecord
    stands : wire_at n (pick.wire_of k) ≡ Some wire
    name : r.name ≡ wire.name
    form : IsWire n.horizon r

  wire_set : (k : ℕ) (r : WireRecord) (fit : (t : ℕ) → levels (pick.wire_of k) t < 2 ^ width_of (wire_at n (pick.wire_of k))) (slot : Option WireRecord) → wire_at n (pick.wire_of k) ≡ slot
      → set_on_slot n.horizon (levels (pick.wire_of k)) slot ≡ Some r → IsWireOf k r
  wire_set k r fit None stands e = let no : ⊥ = cc in absurd no
  wire_set k r fit (Some wire) stands e =
      let form = ok.wires_ok (pick.wire_of k) wire stands in
      let set : WireRecord = record wire { stimulus = Some (changes_after (levels (pick.wire_of k)) 0 (n.horizon - 1)) } in
      let same : set ≡ r = cc in
      let narrow : (t : ℕ) → levels (pick.wire_of k) t < 2 ^ wire.width = subst (λ slot. (t : ℕ) → levels (pick.wire_of k) t < 2 ^ width_of slot) stands fit in
      let stimulus = stimulus_changes n.horizon wire.width (levels (pick.wire_of k)) (n.horizon - 1) (let low = ok.horizon_low in omega (arith, low)) narrow in
      subst (IsWireOf k) same (record { wire = wire; stands = stands; name = refl; form = record { wide = form.wide; narrow = form.narrow; level = form.level; stimulus = stimulus } })

  wire_is : GivenFit n pick levels → (k : ℕ) (r : WireRecord) → wire_at s k ≡ Some r → IsWireOf k r
  wire_is fit k r at = elim (cases_Bool (pick.given k)) as (λ _. IsWireOf k r) [
    | inl given ↦ wire_set k r (λ t. fit k t given) (wire_at n (pick.wire_of k)) refl (sym (slot_given n s pick levels is has k given) ∙ at)
    | inr own ↦ let stands = sym (slot_own n s pick levels is has k own) ∙ at in record { wire = r; stands = stands; name = refl; form = ok.wires_ok (pick.wire_of k) r stands }
  ]

  -- ---- modules
  module _ (k : ℕ) (r : ModuleRecord) (at : module_at n (pick.module_of k) ≡ Some r) (form : IsModule n r) where
    width_is : module_width s (placed pick.place_of r) ≡ module_width n r
    width_is = module_width_there n s pick levels is has k r at form

    reads_is : (p : ℕ) (i : Input) → p < length r.inputs → HasWidth s (pick.place_of (slice_index_or r.inputs p i).wire.0) (input_width r.kind (module_width n r) p)
    reads_is p i within =
        has_width_placed n s pick levels is has (slice_index_or r.inputs p i).wire.0 (input_width r.kind (module_width n r) p)
        (reads_at n s pick levels is has k r p i at within) (form.reads p i within)

    input_there : (p : ℕ) (i : Input) → p < length (map (placed_input pick.place_of) r.inputs)
        → slice_index_or (map (placed_input pick.place_of) r.inputs) p i ≡ placed_input pick.place_of (slice_index_or r.inputs p i)
    input_there p i within = get_or-map (placed_input pick.place_of) r.inputs p i i (let size = length-map r.inputs (placed_input pick.place_of) in omega (arith, within, size))

    read_there : (p : ℕ) (i : Input) → p < length (map (placed_input pick.place_of) r.inputs)
        → HasWidth s (slice_index_or (map (placed_input pick.place_of) r.inputs) p i).wire.0 (input_width r.kind (module_width s (placed pick.place_of r)) p)
    read_there p i within =
        let inside : p < length r.inputs = let size = length-map r.inputs (placed_input pick.place_of) in omega (arith, within, size) in
        subst (λ (x : Input). HasWidth s x.wire.0 (input_width r.kind (module_width s (placed pick.place_of r)) p)) (sym (input_there p i within))
        (subst (λ width. HasWidth s (pick.place_of (slice_index_or r.inputs p i).wire.0) (input_width r.kind width p)) (sym width_is) (reads_is p i inside))

    drives_is : (p : ℕ) (wire : Option WireId) → (output_at r p).wire ≡ wire → IfSome wire (λ w. HasWidth n w.0 (output_width r.kind (module_width n r) p))
        → IfSome (option_map (placed_wire pick.place_of) wire) (λ w. HasWidth s w.0 (output_width r.kind (module_width n r) p))
    drives_is p None e wide = tt
    drives_is p (Some w) e wide =
        has_width_placed n s pick levels is has w.0 (output_width r.kind (module_width n r) p)
        (is.driven (pick.module_of k) p w.0 (picked_there n s pick levels is has k r at) (record { part = r; stands = at; output = e })) wide

    drive_there : (p : ℕ) → IfSome (output_at (placed pick.place_of r) p).wire (λ w. HasWidth s w.0 (output_width r.kind (module_width s (placed pick.place_of r)) p))
    drive_there p =
        subst (λ (o : Output). IfSome o.wire (λ w. HasWidth s w.0 (output_width r.kind (module_width s (placed pick.place_of r)) p))) (sym (output_placed pick.place_of r p))
        (subst (λ width. IfSome (option_map (placed_wire pick.place_of) (output_at r p).wire) (λ w. HasWidth s w.0 (output_width r.kind width p))) (sym width_is)
        (drives_is p (output_at r p).wire refl (form.drives p)))

    module_form : IsModule s (placed pick.place_of r)
    module_form = record {
      inputs = length-map r.inputs (placed_input pick.place_of) ∙ form.inputs;
      outputs = length-map r.outputs (placed_output pick.place_of) ∙ form.outputs;
      params = subst (λ width. IsTrue (are_params r.kind width r.params)) (sym width_is) form.params;
      input_delays = λ p i within.
          let inside : p < length r.inputs = let size = length-map r.inputs (placed_input pick.place_of) in omega (arith, within, size) in
          let here = get_or-map (placed_input pick.place_of) r.inputs p i i inside in
          let low = form.input_delays p i inside in
          let same = ap (λ (x : Input). x.delay) here in omega (arith, low, same);
      delays = λ p o within.
          let inside : p < length r.outputs = let size = length-map r.outputs (placed_output pick.place_of) in omega (arith, within, size) in
          let here = get_or-map (placed_output pick.place_of) r.outputs p o o inside in
          let low = form.delays p o inside in
          let same = ap (λ (x : Output). x.delay) here in (omega (arith, low, same), omega (arith, low, same));
      reads = read_there;
      drives = drive_there;
    }

  -- ---- the netlist
  module_is : (k : ℕ) (q : ModuleRecord) → module_at s k ≡ Some q → IsModule s q
  module_is k q at =
      let here = is_here n s pick levels is has k q at in
      subst (IsModule s) here.same (module_form k here.part here.stands (ok.modules_ok (pick.module_of k) here.part here.stands))

  module_name : (k : ℕ) (q : ModuleRecord) (at : module_at s k ≡ Some q) → (is_here n s pick levels is has k q at).part.name ≡ q.name
  module_name k q at = ap (λ (r : ModuleRecord). r.name) (is_here n s pick levels is has k q at).same

  module_seat : (k : ℕ) (q : ModuleRecord) → module_at s k ≡ Some q → pick.seat_of (pick.module_of k) ≡ k
  module_seat k q at = let here = is_here n s pick levels is has k q at in seat_is n s pick levels is has k here.part here.stands

  names : GivenFit n pick levels → HasNames s
  names fit = record {
    wires = λ k r at. let one = wire_is fit k r at in subst (λ name. is_name name ≡ true) (sym one.name) (ok.names.wires (pick.wire_of k) one.wire one.stands);
    modules = λ k q at.
        let here = is_here n s pick levels is has k q at in
        subst (λ name. is_name name ≡ true) (module_name k q at) (ok.names.modules (pick.module_of k) here.part here.stands);
    bundles = λ b r at. absurd (no_bundle b r at);
    one_wire = λ k j r q at stands same.
        let one = wire_is fit k r at in
        let other = wire_is fit j q stands in
        let wires = ok.names.one_wire (pick.wire_of k) (pick.wire_of j) one.wire other.wire one.stands other.stands (sym one.name ∙ same ∙ other.name) in
        sym (is.places k (some_is (wire_at n (pick.wire_of k)) one.wire one.stands))
        ∙ ap (λ w. pick.place_of w) wires
        ∙ is.places j (some_is (wire_at n (pick.wire_of j)) other.wire other.stands);
    one_module = λ k j r q at stands same.
        let one = is_here n s pick levels is has k r at in
        let other = is_here n s pick levels is has j q stands in
        let modules = ok.names.one_module (pick.module_of k) (pick.module_of j) one.part other.part one.stands other.stands (module_name k r at ∙ same ∙ sym (module_name j q stands)) in
        sym (module_seat k r at) ∙ ap (λ m. pick.seat_of m) modules ∙ module_seat j q stands;
    one_bundle = λ b c r q at stands same. absurd (no_bundle b r at);
  }
    where
      no_bundle : (b : ℕ) (r : BundleRecord) → bundle_at s b ≡ Some r → ⊥
      no_bundle b r at = let none = ap (λ (slots : List (Option BundleRecord)). slot_at slots b) has.bundles in cc

  drives_seat : (k p v : ℕ) → Drives s k p v → has_module pick (pick.module_of k) ≡ true
  drives_seat k p v drives = module_picked pick k (module_seat k drives.part drives.stands)

  circuit : GivenFit n pick levels → HasRoom s → IsCircuit s
  circuit fit room = record {
    horizon_low = let low = ok.horizon_low in let same = has.horizon in omega (arith, low, same);
    horizon_high = subst (λ f. s.horizon ≤ horizon_limit f) (sym has.format) (let high = ok.horizon_high in let same = has.horizon in omega (arith, high, same));
    wires_ok = λ k r at. subst (λ h. IsWire h r) (sym has.horizon) (wire_is fit k r at).form;
    modules_ok = module_is;
    bundles_ok = λ b r at. let none = ap (λ (slots : List (Option BundleRecord)). slot_at slots b) has.bundles in let no : ⊥ = cc in absurd no;
    names = names fit;
    one_port = λ k p j q v drives other.
        let same = ok.one_port (pick.module_of k) p (pick.module_of j) q (pick.wire_of v) (drives_there n s pick levels is has k p v drives) (drives_there n s pick levels is has j q v other) in
        (sym (module_seat k drives.part drives.stands) ∙ ap (λ m. pick.seat_of m) same.0 ∙ module_seat j other.part other.stands, same.1);
    port_or_stimulus = λ k p v drives. undriven k p v drives;
    wires_few = room.wires;
    modules_few = room.modules;
    bundles_few = subst (λ (slots : List (Option BundleRecord)). length slots ≤ bundle_limit s.format) (sym has.bundles) (omega arith);
  }
    where
      undriven : (k p v : ℕ) → Drives s k p v → stimulus_in (wire_at s v) ≡ None
      undriven k p v drives =
          let there = drives_there n s pick levels is has k p v drives in
          elim (cases_Bool (pick.given v)) as (λ _. stimulus_in (wire_at s v) ≡ None) [
            | inl given ↦
                let found = is.given_driven v given in
                let same = ok.one_port (pick.module_of k) p found.0 found.1 (pick.wire_of v) there found.2 in
                let picked = subst (λ m. has_module pick m ≡ true) same.0 (drives_seat k p v drives) in
                let not = found.3 in
                let no : ⊥ = cc in absurd no
            | inr own ↦ ap stimulus_in (slot_own n s pick levels is has v own) ∙ ok.port_or_stimulus (pick.module_of k) p (pick.wire_of v) there
          ]

pub picked_are_circuits : PickedAreCircuits
picked_are_circuits n s pick levels ok is has fit room = circuit n s pick levels ok is has fit room
