-- What stands in the slots of a netlist that is picked from another.
use Rattle.std.proofs.Common.{◌≡◌, ℕ, ◌<◌, true, false, List, [], ◌∷◌, Option, Some, None, is_some, option_map, map, length, slice_index_or, zero, suc, refl, ap, sym, subst, ◌∙◌, arith, inl, inr}
use Rattle.std.specs.Prelude.{IsSome, Contains}
use Rattle.std.proofs.lemmas.Bool.{cases_Bool, eqb-true, eq-eqb}
use Rattle.std.proofs.lemmas.List.{get_or-map}
use Rattle.mp_modules.specs.Kinds.{width_from}
use Rattle.mp_modules.proofs.KindLemmas.{some_input}
use Rattle.mp_modules.specs.storage.AnyModules.{any_part_of}
use Rattle.mp_records.specs.declared.ids.WireId.{WireId}
use Rattle.mp_records.specs.declared.ports.Input.{Input}
use Rattle.mp_records.specs.declared.ports.Output.{Output}
use Rattle.mp_records.specs.declared.wire_record.WireRecord.{WireRecord}
use Rattle.mp_records.specs.declared.module_record.ModuleRecord.{ModuleRecord}
use Rattle.mp_records.specs.Inputs.{input_at, no_input}
use Rattle.mp_records.specs.Outputs.{output_at, delay_of}
use Rattle.mp_netlist.specs.Circuit.{Circuit, IsModule, HasWidth, Drives, wire_at, module_at, width_of, module_width}
use Rattle.mp_model.specs.Levels.{initial_of, built}
use Rattle.mp_partition.specs.regions.Regions.{set_on_slot}
use Rattle.mp_near.specs.laws.Picking.{Picking, has_wire, has_module, placed_input, placed_wire, placed_output, placed, IsPicking, HasPicked}

-- ---- lists
pub index_map : {A B : Type 0} (f : A → B) (xs : List A) (i : ℕ) (d : A) → slice_index_or (map f xs) i (f d) ≡ f (slice_index_or xs i d)
index_map f [] i d = refl
index_map f (x ∷ xs) zero d = refl
index_map f (x ∷ xs) (suc i) d = index_map f xs i d

index_any : {A : Type 0} (xs : List A) (i : ℕ) (d e : A) → i < length xs → slice_index_or xs i d ≡ slice_index_or xs i e
index_any [] i d e within = absurd (omega arith)
index_any (x ∷ xs) zero d e within = refl
index_any (x ∷ xs) (suc i) d e within = index_any xs i d e (omega (arith, within))

pub element : {A : Type 0} (xs : List A) (i : ℕ) (d : A) → i < length xs → Contains xs (slice_index_or xs i d)
element xs i d within = (i, within, index_any xs i (slice_index_or xs i d) d within)

pub some_is : {A : Type 0} (slot : Option A) (x : A) → slot ≡ Some x → IsSome slot
some_is None x e = cc
some_is (Some y) x e = refl

-- ---- numbers
pub at_place : (pick : Picking) (w : ℕ) → has_wire pick w ≡ true → pick.wire_of (pick.place_of w) ≡ w
at_place pick w picked = eqb-true (pick.wire_of (pick.place_of w)) w picked

pub at_seat : (pick : Picking) (m : ℕ) → has_module pick m ≡ true → pick.module_of (pick.seat_of m) ≡ m
at_seat pick m picked = eqb-true (pick.module_of (pick.seat_of m)) m picked

pub wire_picked : (pick : Picking) (k : ℕ) → pick.place_of (pick.wire_of k) ≡ k → has_wire pick (pick.wire_of k) ≡ true
wire_picked pick k e = eq-eqb (pick.wire_of (pick.place_of (pick.wire_of k))) (pick.wire_of k) (ap (λ j. pick.wire_of j) e)

pub module_picked : (pick : Picking) (k : ℕ) → pick.seat_of (pick.module_of k) ≡ k → has_module pick (pick.module_of k) ≡ true
module_picked pick k e = eq-eqb (pick.module_of (pick.seat_of (pick.module_of k))) (pick.module_of k) (ap (λ j. pick.module_of j) e)

-- ---- records
pub output_placed : (place : ℕ → ℕ) (r : ModuleRecord) (p : ℕ) → output_at (placed place r) p ≡ placed_output place (output_at r p)
output_placed place r p = index_map (placed_output place) r.outputs p (record { wire = None; delay = 1 })

pub delay_placed : (place : ℕ → ℕ) (r : ModuleRecord) (p : ℕ) → delay_of (placed place r) p ≡ delay_of r p
delay_placed place r p = ap (λ (o : Output). o.delay) (output_placed place r p)

pub mapped_stands : {A B : Type 0} (f : A → B) (slot : Option A) → is_some (option_map f slot) ≡ is_some slot
mapped_stands f None = refl
mapped_stands f (Some x) = refl

-- ---- slots
module _ (n s : Circuit) (pick : Picking) (levels : ℕ → ℕ → ℕ) (is : IsPicking n pick) (has : HasPicked n s pick levels) where
  pub slot_given : (k : ℕ) → pick.given k ≡ true → wire_at s k ≡ set_on_slot n.horizon (levels (pick.wire_of k)) (wire_at n (pick.wire_of k))
  slot_given k given = has.wires k ∙ rw given refl

  pub slot_own : (k : ℕ) → pick.given k ≡ false → wire_at s k ≡ wire_at n (pick.wire_of k)
  slot_own k own = has.wires k ∙ rw own refl

  -- the slots hold the same, but for what is set
  same_by : {X : Type 0} (f : Option WireRecord → X) (k : ℕ) → f (set_on_slot n.horizon (levels (pick.wire_of k)) (wire_at n (pick.wire_of k))) ≡ f (wire_at n (pick.wire_of k))
      → f (wire_at s k) ≡ f (wire_at n (pick.wire_of k))
  same_by f k same = elim (cases_Bool (pick.given k)) as (λ _. f (wire_at s k) ≡ f (wire_at n (pick.wire_of k))) [
    | inl given ↦ ap f (slot_given k given) ∙ same
    | inr own ↦ ap f (slot_own k own)
  ]

  pub width_there : (k : ℕ) → width_of (wire_at s k) ≡ width_of (wire_at n (pick.wire_of k))
  width_there k = same_by width_of k (by (wire_at n (pick.wire_of k)))
    where
      by : (slot : Option WireRecord) → width_of (set_on_slot n.horizon (levels (pick.wire_of k)) slot) ≡ width_of slot
      by None = refl
      by (Some r) = refl

  pub initial_there : (k : ℕ) → initial_of (wire_at s k) ≡ initial_of (wire_at n (pick.wire_of k))
  initial_there k = same_by initial_of k (by (wire_at n (pick.wire_of k)))
    where
      by : (slot : Option WireRecord) → initial_of (set_on_slot n.horizon (levels (pick.wire_of k)) slot) ≡ initial_of slot
      by None = refl
      by (Some r) = refl

  pub stands_there : (k : ℕ) → is_some (wire_at s k) ≡ is_some (wire_at n (pick.wire_of k))
  stands_there k = same_by is_some k (by (wire_at n (pick.wire_of k)))
    where
      by : (slot : Option WireRecord) → is_some (set_on_slot n.horizon (levels (pick.wire_of k)) slot) ≡ is_some slot
      by None = refl
      by (Some r) = refl

  -- the new number of a picked wire
  pub width_placed : (w : ℕ) → has_wire pick w ≡ true → width_of (wire_at s (pick.place_of w)) ≡ width_of (wire_at n w)
  width_placed w picked = width_there (pick.place_of w) ∙ ap (λ v. width_of (wire_at n v)) (at_place pick w picked)

  pub initial_placed : (w : ℕ) → has_wire pick w ≡ true → initial_of (wire_at s (pick.place_of w)) ≡ initial_of (wire_at n w)
  initial_placed w picked = initial_there (pick.place_of w) ∙ ap (λ v. initial_of (wire_at n v)) (at_place pick w picked)

  pub stands_placed : (w : ℕ) → has_wire pick w ≡ true → is_some (wire_at s (pick.place_of w)) ≡ is_some (wire_at n w)
  stands_placed w picked = stands_there (pick.place_of w) ∙ ap (λ v. is_some (wire_at n v)) (at_place pick w picked)

  pub has_width_placed : (w width : ℕ) → has_wire pick w ≡ true → HasWidth n w width → HasWidth s (pick.place_of w) width
  has_width_placed w width picked wide = (stands_placed w picked ∙ wide.0, width_placed w picked ∙ wide.1)

  -- modules
  pub module_there : (k : ℕ) (r : ModuleRecord) → module_at n (pick.module_of k) ≡ Some r → module_at s k ≡ Some (placed pick.place_of r)
  module_there k r at = has.modules k ∙ ap (option_map (placed pick.place_of)) at

  pub module_stands : (k : ℕ) → is_some (module_at s k) ≡ is_some (module_at n (pick.module_of k))
  module_stands k = ap is_some (has.modules k) ∙ mapped_stands (placed pick.place_of) (module_at n (pick.module_of k))

  -- a module of the picked netlist
  pub record IsHere (k : ℕ) (r : ModuleRecord) : Type 0 where
    pub part : ModuleRecord
    pub stands : module_at n (pick.module_of k) ≡ Some part
    pub same : placed pick.place_of part ≡ r

  pub is_here : (k : ℕ) (r : ModuleRecord) → module_at s k ≡ Some r → IsHere k r
  is_here k r at = by (module_at n (pick.module_of k)) refl (sym (has.modules k) ∙ at)
    where
      by : (slot : Option ModuleRecord) → module_at n (pick.module_of k) ≡ slot → option_map (placed pick.place_of) slot ≡ Some r → IsHere k r
      by None stands e = let no : ⊥ = cc in absurd no
      by (Some part) stands e = let same : placed pick.place_of part ≡ r = cc in record { part = part; stands = stands; same = same }

  pub seat_is : (k : ℕ) (r : ModuleRecord) → module_at n (pick.module_of k) ≡ Some r → pick.seat_of (pick.module_of k) ≡ k
  seat_is k r at = is.seats k (some_is (module_at n (pick.module_of k)) r at)

  pub picked_there : (k : ℕ) (r : ModuleRecord) → module_at n (pick.module_of k) ≡ Some r → has_module pick (pick.module_of k) ≡ true
  picked_there k r at = module_picked pick k (seat_is k r at)

  -- what drives a wire
  pub drives_there : (k p v : ℕ) → Drives s k p v → Drives n (pick.module_of k) p (pick.wire_of v)
  drives_there k p v drives = by (output_at here.part p).wire refl output
    where
      here : IsHere k drives.part
      here = is_here k drives.part drives.stands

      output : option_map (placed_wire pick.place_of) (output_at here.part p).wire ≡ Some (record { 0 = v })
      output = ap (λ (o : Output). o.wire) (sym (output_placed pick.place_of here.part p)) ∙ ap (λ (r : ModuleRecord). (output_at r p).wire) here.same ∙ drives.output

      by : (wire : Option WireId) → (output_at here.part p).wire ≡ wire → option_map (placed_wire pick.place_of) wire ≡ Some (record { 0 = v }) → Drives n (pick.module_of k) p (pick.wire_of v)
      by None at e = let no : ⊥ = cc in absurd no
      by (Some w) at e =
          let number : pick.place_of w.0 ≡ v = ap (number_in v) e in
          let there : Drives n (pick.module_of k) p w.0 = record { part = here.part; stands = here.stands; output = at } in
          let picked = is.driven (pick.module_of k) p w.0 (picked_there k here.part here.stands) there in
          subst (Drives n (pick.module_of k) p) (sym (at_place pick w.0 picked) ∙ ap (λ j. pick.wire_of j) number) there
        where
          number_in : ℕ → Option WireId → ℕ
          number_in none None = none
          number_in none (Some x) = x.0

  pub drives_here : (k p w : ℕ) → Drives n (pick.module_of k) p w → Drives s k p (pick.place_of w)
  drives_here k p w drives = record {
    part = placed pick.place_of drives.part;
    stands = module_there k drives.part drives.stands;
    output = ap (λ (o : Output). o.wire) (output_placed pick.place_of drives.part p) ∙ ap (option_map (placed_wire pick.place_of)) drives.output;
  }

  -- what a module reads
  pub reads_picked : (k : ℕ) (r : ModuleRecord) (i : Input) → module_at n (pick.module_of k) ≡ Some r → Contains r.inputs i → has_wire pick i.wire.0 ≡ true
  reads_picked k r i at contains = is.read (pick.module_of k) i.wire.0 (picked_there k r at) (record { part = r; stands = at; port = i; input = contains; wire = refl })

  pub reads_at : (k : ℕ) (r : ModuleRecord) (p : ℕ) (i : Input) → module_at n (pick.module_of k) ≡ Some r → p < length r.inputs → has_wire pick (slice_index_or r.inputs p i).wire.0 ≡ true
  reads_at k r p i at within = reads_picked k r (slice_index_or r.inputs p i) at (element r.inputs p i within)

  -- a module has its width
  pub module_width_there : (k : ℕ) (r : ModuleRecord) → module_at n (pick.module_of k) ≡ Some r → IsModule n r → module_width s (placed pick.place_of r) ≡ module_width n r
  module_width_there k r at ok =
      let some : 0 < length r.inputs = omega (arith, ok.inputs, some_input r.kind) in
      let first : input_at (placed pick.place_of r) 0 ≡ placed_input pick.place_of (input_at r 0) = get_or-map (placed_input pick.place_of) r.inputs 0 no_input no_input some in
      ap (width_from r.kind)
      (ap (λ (i : Input). width_of (wire_at s i.wire.0)) first ∙ width_placed (input_at r 0).wire.0 (reads_at k r 0 no_input at some))

  pub built_there : (k : ℕ) (r : ModuleRecord) → module_at n (pick.module_of k) ≡ Some r → IsModule n r → built s (placed pick.place_of r) ≡ built n r
  built_there k r at ok = ap (λ width. any_part_of r.kind r.params width) (module_width_there k r at ok)
