-- Modules with data get their places, one after the other.
use Rattle.std.proofs.Common.{◌≡◌, ℕ, ◌+◌, ◌<◌, ◌≤◌, Bool, true, false, cond, List, [], ◌∷◌, ◌++◌, Option, Some, None, is_some, All, length, nat_lt, refl, sym, ap, ◌∙◌, arith, subst, inl, inr}
use Rattle.std.specs.Prelude.{◌&&◌, ◌⊎◌, slice_index_or}
use Rattle.std.specs.List.{count_by}
use Rattle.std.proofs.lemmas.Bool.{cases_eq, cases_lt}
use Rattle.std.proofs.lemmas.Bool.Decides.{nat_tests}
use Rattle.std.proofs.lemmas.List.{get_or_past, get_or_append_left, get_or_push, append-nil, length_push}
use Rattle.std.proofs.lemmas.List.Sums.{sum_by-append, sum_by-cons}
use Rattle.std.proofs.lemmas.Option.{none-some, same_Some}
use Rattle.mp_records.specs.declared.module_record.ModuleRecord.{ModuleRecord}
use Rattle.mp_netlist.specs.declared.driver.Driver.{Driver}
use Rattle.mp_netlist.specs.declared.driver.Driver.TheVariants.{Nothing, Stimulus, Port}
use Rattle.mp_netlist.specs.Circuit.{Circuit, IsCircuit, module_at}
use Rattle.mp_netlist.specs.Drivers.{driver}
use Rattle.mp_model.specs.Levels.{built}
use Rattle.mp_model.specs.Waves.{state}
use Rattle.mp_modules.specs.automata.Codes.{bit}
use Rattle.mp_kernel.specs.declared.events.output_port.OutputPort.{OutputPort}
use Rattle.mp_kernel.specs.declared.events.output_ports.OutputPorts.{OutputPorts}
use Rattle.mp_simulation.specs.bits.Beginnings.{is_first}
use Rattle.mp_kernel.specs.declared.datapath.level_change.LevelChange.{LevelChange}
use Rattle.mp_modules.specs.declared.storage.data_part.DataPart.{DataPart}
use Rattle.mp_kernel.specs.declared.datapath.data_module.DataModule.{DataModule}
use Rattle.mp_modules.specs.declared.storage.output_levels.OutputLevels.{OutputLevels}
use Rattle.mp_modules.specs.storage.DataParts.{data_part, outputs_in}
use Rattle.mp_kernel.specs.datapath.LevelWheels.{scheduled, entry_if}
use Rattle.mp_kernel.specs.datapath.DataFiring.{place_at, module_at as data_module_at, no_module}
use Rattle.mp_simulation.specs.units.DataLevels.{is_data, changes_of}
use Rattle.mp_simulation.specs.units.DataWheels.{data_slot}
use Rattle.mp_simulation.specs.units.DataSeats.{bit_ports_of, level_port_of}
use Rattle.mp_simulation.proofs.lemmas.units.LevelWheelLemmas.{is_change, changes_each, holds_scheduled}
use Rattle.mp_simulation.specs.declared.run.seating.Seating.{Seating}
use Rattle.mp_simulation.specs.run.Widths.{is_bit_module}
use Rattle.mp_simulation.specs.run.Settling.{is_below}
use Rattle.mp_simulation.specs.run.Seating.{level_departs, data_module, first_levels, seated_in, place_in, levels_in, Seats, IsSeatedAt, HasPlaceOf, IsFirstLevel, IsSeated}
use Rattle.mp_simulation.proofs.lemmas.run.PortLemmas.{by_driver, slot_levels}

-- ---- places

plus_zero : (k : ℕ) → k + 0 ≡ k
plus_zero k = omega arith

counted_push : (places : List (Option ℕ)) (place : Option ℕ) (k : ℕ) → cond (is_some place) 1 0 + 0 ≡ k + 0 → count_by is_some (places ++ place ∷ []) ≡ count_by is_some places + k
counted_push places place k is =
    let all = sum_by-append (λ (p : Option ℕ). cond (is_some p) 1 0) places (place ∷ []) in
    let last = sum_by-cons (λ (p : Option ℕ). cond (is_some p) 1 0) place [] in
    omega (arith, all, last, is)

-- a place more is that of a module with data
record Fresh (n : Circuit) (m k count : ℕ) : Type 0 where
  number : k ≡ count
  part : ModuleRecord
  stands : module_at n m ≡ Some part
  wide : is_bit_module n part ≡ false

fresh : (n : Circuit) (m k count : ℕ) (slot : Option ModuleRecord) → module_at n m ≡ slot → place_in n count slot ≡ Some k → Fresh n m k count
fresh n m k count None at is = absurd (none-some k is)
fresh n m k count (Some r) at is = by (is_bit_module n r) refl is
  where
    by : (b : Bool) → is_bit_module n r ≡ b → cond b None (Some count) ≡ Some k → Fresh n m k count
    by true bits e = absurd (none-some k e)
    by false bits e = record { number = sym (same_Some count k e); part = r; stands = at; wide = bits }

data Where (m : ℕ) (old : List (Option ℕ)) (place : Option ℕ) (q k : ℕ) : Type 0 where
  at_old : q < m → place_at old q ≡ Some k → Where m old place q k
  at_new : q ≡ m → place ≡ Some k → Where m old place q k

where_is : (m : ℕ) (old new : List (Option ℕ)) (place : Option ℕ) (q k : ℕ) → length old ≡ m → new ≡ old ++ place ∷ [] → place_at new q ≡ Some k → Where m old place q k
where_is m old new place q k long pushed is = elim (cases_lt q m) as (λ _. Where m old place q k) [
  | inl low ↦ at_old low (sym (get_or_append_left old (place ∷ []) None q (omega arith)) ∙ moved)
  | inr past ↦ elim (cases_eq q m) as (λ _. Where m old place q k) [
    | inl same ↦ at_new same (sym (get_or_push old place None q (long ∙ sym same)) ∙ moved)
    | inr other ↦
        absurd (none-some k (sym (get_or_past (old ++ place ∷ []) q None (let size = length_push old place in omega (arith, size, long, past, other))) ∙ moved))
  ]
]
  where
    moved : place_at (old ++ place ∷ []) q ≡ Some k
    moved = ap (λ (xs : List (Option ℕ)). place_at xs q) (sym pushed) ∙ is

module _ (n : Circuit) (ok : IsCircuit n) (m : ℕ) (inputs : List (List (Option ℕ))) (old new : Seating) (are : IsSeated n m inputs old)
    (adds : Seats n m (slice_index_or inputs m []) old new) where
  abbrev count : ℕ
  count = length old.modules.modules.items

  abbrev seat : Option ℕ
  seat = place_in n (length old.modules.modules.items) (module_at n m)

  where_at : (q k : ℕ) → place_at new.modules.places.items q ≡ Some k → Where m old.modules.places.items seat q k
  where_at q k is = where_is m old.modules.places.items new.modules.places.items seat q k are.long adds.places is

  -- how many modules there are now
  size_by : (slot : Option ModuleRecord) → (length (old.modules.modules.items ++ seated_in n m (slice_index_or inputs m []) slot) ≡ count) ⊎
      ((length (old.modules.modules.items ++ seated_in n m (slice_index_or inputs m []) slot) ≡ count + 1) × (place_in n count slot ≡ Some count))
  size_by None = inl (ap (length {A = DataModule}) (append-nil old.modules.modules.items))
  size_by (Some r) = by (is_bit_module n r)
    where
      by : (b : Bool) → (length (old.modules.modules.items ++ cond b [] (data_module n m r (slice_index_or inputs m []) ∷ [])) ≡ count) ⊎
          ((length (old.modules.modules.items ++ cond b [] (data_module n m r (slice_index_or inputs m []) ∷ [])) ≡ count + 1) × (cond b None (Some count) ≡ Some count))
      by true = inl (ap (length {A = DataModule}) (append-nil old.modules.modules.items))
      by false = inr (length_push old.modules.modules.items (data_module n m r (slice_index_or inputs m [])), refl)

  size : (length new.modules.modules.items ≡ count) ⊎ ((length new.modules.modules.items ≡ count + 1) × (seat ≡ Some count))
  size = subst (λ (xs : List DataModule). (length xs ≡ count) ⊎ ((length xs ≡ count + 1) × (seat ≡ Some count))) (sym adds.modules) (size_by (module_at n m))

  grown : count ≤ length new.modules.modules.items
  grown = elim size as (λ _. count ≤ length new.modules.modules.items) [ inl same ↦ omega arith | inr more ↦ (let e = more.0 in omega arith) ]

  -- there are as many modules as places that are some module's
  counted_by : (slot : Option ModuleRecord) → length (old.modules.modules.items ++ seated_in n m (slice_index_or inputs m []) slot) ≡ count_by is_some (old.modules.places.items ++ place_in n count slot ∷ [])
  counted_by None = ap (length {A = DataModule}) (append-nil old.modules.modules.items) ∙ are.counted ∙ sym (counted_push old.modules.places.items None 0 refl ∙ plus_zero (count_by is_some old.modules.places.items))
  counted_by (Some r) = by (is_bit_module n r)
    where
      by : (b : Bool) → length (old.modules.modules.items ++ cond b [] (data_module n m r (slice_index_or inputs m []) ∷ [])) ≡ count_by is_some (old.modules.places.items ++ cond b None (Some count) ∷ [])
      by true = ap (length {A = DataModule}) (append-nil old.modules.modules.items) ∙ are.counted ∙ sym (counted_push old.modules.places.items None 0 refl ∙ plus_zero (count_by is_some old.modules.places.items))
      by false =
          length_push old.modules.modules.items (data_module n m r (slice_index_or inputs m [])) ∙ ap (λ k. k + 1) are.counted ∙ sym (counted_push old.modules.places.items (Some count) 1 refl)

  counted_now : length new.modules.modules.items ≡ count_by is_some new.modules.places.items
  counted_now =
      ap (length {A = DataModule}) adds.modules ∙ counted_by (module_at n m) ∙ sym (ap (λ (xs : List (Option ℕ)). count_by is_some xs) adds.places)

  few_now : length new.modules.modules.items ≤ m + 1
  few_now = elim size as (λ _. length new.modules.modules.items ≤ m + 1) [
    | inl same ↦ (let few = are.few in omega arith)
    | inr more ↦ (let few = are.few in let e = more.0 in omega arith)
  ]

  seat_size : (k : ℕ) → seat ≡ Some k → length new.modules.modules.items ≡ count + 1
  seat_size k is = by (module_at n m) refl is
    where
      by : (slot : Option ModuleRecord) → module_at n m ≡ slot → place_in n count slot ≡ Some k → length new.modules.modules.items ≡ count + 1
      by None at e = absurd (none-some k e)
      by (Some r) at e = by_bits (is_bit_module n r) refl e
        where
          by_bits : (b : Bool) → is_bit_module n r ≡ b → cond b None (Some count) ≡ Some k → length new.modules.modules.items ≡ count + 1
          by_bits true bits f = absurd (none-some k f)
          by_bits false bits f =
              ap (length {A = DataModule}) (adds.modules ∙ ap (λ slot. old.modules.modules.items ++ seated_in n m (slice_index_or inputs m []) slot) at
              ∙ ap (λ b. old.modules.modules.items ++ cond b [] (data_module n m r (slice_index_or inputs m []) ∷ [])) bits)
              ∙ length_push old.modules.modules.items (data_module n m r (slice_index_or inputs m []))

  module_kept : (k : ℕ) → k < count → data_module_at new.modules.modules.items k ≡ data_module_at old.modules.modules.items k
  module_kept k low =
      ap (λ (xs : List DataModule). data_module_at xs k) adds.modules
      ∙ get_or_append_left old.modules.modules.items (seated_in n m (slice_index_or inputs m []) (module_at n m)) no_module k low

  module_new : (r : ModuleRecord) → module_at n m ≡ Some r → is_bit_module n r ≡ false → data_module_at new.modules.modules.items count ≡ data_module n m r (slice_index_or inputs m [])
  module_new r at wide =
      ap (λ (xs : List DataModule). data_module_at xs count) (adds.modules ∙ ap (λ slot. old.modules.modules.items ++ seated_in n m (slice_index_or inputs m []) slot) at
      ∙ ap (λ b. old.modules.modules.items ++ cond b [] (data_module n m r (slice_index_or inputs m []) ∷ [])) wide)
      ∙ get_or_push old.modules.modules.items (data_module n m r (slice_index_or inputs m [])) no_module count refl

  seat_at : (q k : ℕ) → Where m old.modules.places.items seat q k → IsSeatedAt n q (slice_index_or inputs q []) (data_module_at new.modules.modules.items k)
  seat_at q k (at_old low is) =
      subst (λ (d : DataModule). IsSeatedAt n q (slice_index_or inputs q []) d) (sym (module_kept k (are.placed.below q k is))) (are.seats q k is)
  seat_at q k (at_new same is) =
      let new_one = fresh n m k count (module_at n m) refl is in
      let own : IsSeatedAt n m (slice_index_or inputs m []) (data_module_at new.modules.modules.items count) =
      record { part = new_one.part; stands = new_one.stands; wide = new_one.wide; is = module_new new_one.part new_one.stands new_one.wide } in
      subst (λ x. IsSeatedAt n x (slice_index_or inputs x []) (data_module_at new.modules.modules.items k)) (sym same)
      (subst (λ j. IsSeatedAt n m (slice_index_or inputs m []) (data_module_at new.modules.modules.items j)) (sym new_one.number) own)

  below_at : (q k : ℕ) → Where m old.modules.places.items seat q k → k < length new.modules.modules.items
  below_at q k (at_old low is) = let a = are.placed.below q k is in let b = grown in omega arith
  below_at q k (at_new same is) = let a = (fresh n m k count (module_at n m) refl is).number in let b = seat_size k is in omega arith

  one_place : (q p k : ℕ) → Where m old.modules.places.items seat q k → Where m old.modules.places.items seat p k → q ≡ p
  one_place q p k (at_old low is) (at_old low2 is2) = are.placed.own q p k is is2
  one_place q p k (at_old low is) (at_new same2 is2) = absurd (let a = are.placed.below q k is in let b = (fresh n m k count (module_at n m) refl is2).number in omega arith)
  one_place q p k (at_new same is) (at_old low2 is2) = absurd (let a = are.placed.below p k is2 in let b = (fresh n m k count (module_at n m) refl is).number in omega arith)
  one_place q p k (at_new same is) (at_new same2 is2) = same ∙ sym same2

  place_kept : (q : ℕ) → q < m → place_at new.modules.places.items q ≡ place_at old.modules.places.items q
  place_kept q low =
      ap (λ (xs : List (Option ℕ)). place_at xs q) adds.places ∙ get_or_append_left old.modules.places.items (seat ∷ []) None q (let size = are.long in omega arith)

  place_new : place_at new.modules.places.items m ≡ seat
  place_new = ap (λ (xs : List (Option ℕ)). place_at xs m) adds.places ∙ get_or_push old.modules.places.items seat None m are.long

  old_place : (q k : ℕ) → place_at old.modules.places.items q ≡ Some k → q < m
  old_place q k is = elim (cases_lt q m) as (λ _. q < m) [
    | inl low ↦ low
    | inr past ↦ absurd (none-some k (sym (get_or_past old.modules.places.items q None (let size = are.long in omega arith)) ∙ is))
  ]

  each_now : (k : ℕ) → k < length new.modules.modules.items → HasPlaceOf new.modules.places.items k
  each_now k within = elim (cases_lt k count) as (λ _. HasPlaceOf new.modules.places.items k) [
    | inl low ↦
        let was = are.each k low in
        record { place = was.place; is = place_kept was.place (old_place was.place k was.is) ∙ was.is }
    | inr past ↦ elim size as (λ _. HasPlaceOf new.modules.places.items k) [
      | inl same ↦ absurd (omega arith)
      | inr more ↦
          let last : count ≡ k = (let e = more.0 in omega arith) in
          record { place = m; is = place_new ∙ more.1 ∙ ap (λ j. Some j) last }
    ]
  ]

  whole_now : (v : ℕ) (r : ModuleRecord) → v < m + 1 → module_at n v ≡ Some r → is_bit_module n r ≡ false → is_some (place_at new.modules.places.items v) ≡ true
  whole_now v r low at wide = elim (cases_eq v m) as (λ _. is_some (place_at new.modules.places.items v) ≡ true) [
    | inl same ↦
        let here : module_at n m ≡ Some r = ap (module_at n) (sym same) ∙ at in
        ap is_some (ap (place_at new.modules.places.items) same ∙ place_new ∙ ap (place_in n count) here ∙ ap (λ b. cond b None (Some count)) wide)
    | inr other ↦ let below : v < m = omega arith in ap is_some (place_kept v below) ∙ are.whole v r below at wide
  ]

  pub seated_next : IsSeated n (m + 1) inputs new
  seated_next = record {
    long = ap (length {A = Option ℕ}) adds.places ∙ length_push old.modules.places.items seat ∙ ap (λ k. k + 1) are.long;
    few = few_now;
    placed = record { below = λ q k is. below_at q k (where_at q k is); own = λ q p k one other. one_place q p k (where_at q k one) (where_at p k other) };
    seats = λ q k is. seat_at q k (where_at q k is);
    counted = counted_now;
    each = each_now;
    whole = whole_now;
    slots = λ w k within.
        let same = adds.units in
        let old_within : k < length old.wheel = omega arith in
        ap (λ (s : List (List LevelChange)). changes_of w (data_slot s k)) adds.wheel
        ∙ changes_each old.wheel (levels_in n m (module_at n m)) k w old_within
        ∙ ap (λ c. c + count_by (is_change k w) (levels_in n m (module_at n m))) (are.slots w k old_within)
        ∙ by_driver n ok m (module_at n m) refl w k (driver n w) refl;
    levels = subst (λ (s : List (List LevelChange)). (k : ℕ) → All (IsFirstLevel n k) (data_slot s k)) (sym adds.wheel)
        (holds_scheduled (IsFirstLevel n) old.wheel (levels_in n m (module_at n m)) are.levels (slot_levels n ok m (module_at n m) refl));
  }

nothing_yet : (n : Circuit) (w k : ℕ) (d : Driver) → 0 ≡ bit (is_below 0 d && (is_first n d w (k + 1) && is_data n w))
nothing_yet n w k Nothing = refl
nothing_yet n w k Stimulus = refl
nothing_yet n w k (Port m p) = let test : nat_lt m.0 0 ≡ false = grind (arith, nat_tests) in sym (ap (λ b. bit (b && (is_first n (Port m p) w (k + 1) && is_data n w))) test)

no_place : (places : List (Option ℕ)) (q k : ℕ) → places ≡ [] → place_at places q ≡ Some k → ⊥
no_place places q k none is = none-some k (ap (λ (xs : List (Option ℕ)). place_at xs q) (sym none) ∙ is)

pub seated_none : (n : Circuit) (inputs : List (List (Option ℕ))) (s : Seating) → s.modules.places.items ≡ [] → s.modules.modules.items ≡ [] → ((k : ℕ) → slice_index_or s.wheel k [] ≡ []) → IsSeated n 0 inputs s
seated_none n inputs s places modules empty = record {
  long = ap (length {A = Option ℕ}) places;
  few = let none = ap (length {A = DataModule}) modules in omega arith;
  placed = record { below = λ q k is. absurd (no_place s.modules.places.items q k places is); own = λ q p k one other. absurd (no_place s.modules.places.items q k places one) };
  seats = λ q k is. absurd (no_place s.modules.places.items q k places is);
  counted = ap (length {A = DataModule}) modules ∙ sym (ap (λ (xs : List (Option ℕ)). count_by is_some xs) places);
  each = λ k within. absurd (let none = ap (length {A = DataModule}) modules in omega arith);
  whole = λ m r low at wide. absurd (omega arith);
  slots = λ w k within. ap (changes_of w) (empty k) ∙ nothing_yet n w k (driver n w);
  levels = λ k. subst (λ (cs : List LevelChange). All (IsFirstLevel n k) cs) (sym (empty k)) (λ j d within. absurd (omega arith));
}

-- ---- one place more

pub same_ports : (p : OutputPorts) (a b c : OutputPort) → p.first ≡ a → p.second ≡ b → p.third ≡ c → p ≡ record { first = a; second = b; third = c }
same_ports p a b c first second third =
    ap (λ (x : OutputPort). let v : OutputPorts = record { first = x; second = p.second; third = p.third } in v) first
    ∙ ap (λ (x : OutputPort). let v : OutputPorts = record { first = a; second = x; third = p.third } in v) second
    ∙ ap (λ (x : OutputPort). let v : OutputPorts = record { first = a; second = b; third = x } in v) third

-- a module with data as it is made
pub record IsMade (n : Circuit) (m : ℕ) (r : ModuleRecord) (inputs : List (Option ℕ)) (d : DataModule) : Type 0 where
  pub part : d.part ≡ data_part (built n r)
  pub outputs : d.outputs ≡ outputs_in (state n m 0)
  pub inputs_are : d.inputs ≡ inputs
  pub level : d.ports.level ≡ level_port_of n r
  pub bits : d.ports.bits ≡ bit_ports_of n r

made_is : (n : Circuit) (m : ℕ) (r : ModuleRecord) (inputs : List (Option ℕ)) (d : DataModule) → IsMade n m r inputs d → d ≡ data_module n m r inputs
made_is n m r inputs d is =
    ap (λ (x : DataPart). let v : DataModule = record { part = x; outputs = d.outputs; inputs = d.inputs; ports = d.ports } in v) is.part
    ∙ ap (λ (x : OutputLevels). let v : DataModule = record { part = data_part (built n r); outputs = x; inputs = d.inputs; ports = d.ports } in v) is.outputs
    ∙ ap (λ (x : List (Option ℕ)). let v : DataModule = record { part = data_part (built n r); outputs = outputs_in (state n m 0); inputs = x; ports = d.ports } in v) is.inputs_are
    ∙ ap (λ (x : OutputPort). let v : DataModule = record { part = data_part (built n r); outputs = outputs_in (state n m 0); inputs = inputs; ports = record { level = x; bits = d.ports.bits } } in v) is.level
    ∙ ap (λ (x : OutputPorts). let v : DataModule = record { part = data_part (built n r); outputs = outputs_in (state n m 0); inputs = inputs; ports = record { level = level_port_of n r; bits = x } } in v) is.bits

pub seats_data : (n : Circuit) (m : ℕ) (r : ModuleRecord) (inputs : List (Option ℕ)) (old new : Seating) (d : DataModule) (l : ℕ) → module_at n m ≡ Some r → is_bit_module n r ≡ false → IsMade n m r inputs d →
    l ≡ d.outputs.first → new.modules.modules.items ≡ old.modules.modules.items ++ d ∷ [] →
    new.modules.places.items ≡ old.modules.places.items ++ Some (length old.modules.modules.items) ∷ [] →
    new.wheel ≡ scheduled old.wheel (entry_if (level_departs n d.ports.level l) d.ports.level l) → length new.wheel ≡ length old.wheel → Seats n m inputs old new
seats_data n m r inputs old new d l at wide is level_is modules places wheel units = record {
  modules = modules ∙ ap (λ (x : DataModule). old.modules.modules.items ++ x ∷ []) (made_is n m r inputs d is)
      ∙ ap (λ b. old.modules.modules.items ++ cond b [] (data_module n m r inputs ∷ [])) (sym wide)
      ∙ ap (λ slot. old.modules.modules.items ++ seated_in n m inputs slot) (sym at);
  places = places
      ∙ ap (λ b. old.modules.places.items ++ cond b None (Some (length old.modules.modules.items)) ∷ []) (sym wide)
      ∙ ap (λ slot. old.modules.places.items ++ place_in n (length old.modules.modules.items) slot ∷ []) (sym at);
  wheel = wheel
      ∙ ap (λ (x : OutputPort). scheduled old.wheel (entry_if (level_departs n x l) x l)) is.level
      ∙ ap (λ k. scheduled old.wheel (entry_if (level_departs n (level_port_of n r) k) (level_port_of n r) k)) (level_is ∙ ap (λ (x : OutputLevels). x.first) is.outputs)
      ∙ ap (λ b. scheduled old.wheel (cond b [] (first_levels n m r))) (sym wide)
      ∙ ap (λ slot. scheduled old.wheel (levels_in n m slot)) (sym at);
  units = units;
}
