-- Modules at time 0, one after the other.
use Rattle.std.proofs.Common.{◌≡◌, ◌≢◌, ℕ, zero, suc, ◌+◌, ◌-◌, ◌<◌, ◌≤◌, Bool, true, false, not, List, [], ◌∷◌, ◌++◌, Option, Some, None, IfSome, option_map, All, length, map, nat_lt, refl, sym, ap, ◌∙◌, arith, subst, inl, inr}
use Rattle.std.specs.Prelude.{◌==◌, ◌&&◌, slice_index_or}
use Rattle.std.specs.List.{count_by}
use Rattle.std.proofs.lemmas.Bool.{cases_eq, cases_lt, eq-eqb, ne_eqb}
use Rattle.std.proofs.lemmas.Bool.Decides.{nat_tests}
use Rattle.std.proofs.lemmas.List.{get_or_default, get_or_past, get_or_append_left, get_or_push, length_push}
use Rattle.std.proofs.lemmas.List.Elements.{All-map}
use Rattle.std.proofs.lemmas.Option.{none-some, same_Some}
use Rattle.mp_modules.specs.declared.memory.Memory.{Memory}
use Rattle.mp_modules.specs.Memories.{output_of}
use Rattle.mp_modules.specs.Kinds.{output_width}
use Rattle.mp_records.specs.declared.ids.WireId.{WireId}
use Rattle.mp_records.specs.declared.ids.ModuleId.{ModuleId}
use Rattle.mp_records.specs.declared.ports.Output.{Output}
use Rattle.mp_records.specs.declared.module_record.ModuleRecord.{ModuleRecord}
use Rattle.mp_records.specs.Outputs.{output_at, delay_of}
use Rattle.mp_netlist.specs.declared.driver.Driver.{Driver}
use Rattle.mp_netlist.specs.declared.driver.Driver.TheVariants.{Nothing, Stimulus, Port}
use Rattle.mp_netlist.specs.Circuit.{Circuit, IsCircuit, IsModule, HasWidth, Drives, wire_at, module_at, module_width}
use Rattle.mp_netlist.specs.Drivers.{driver}
use Rattle.mp_netlist.proofs.DriverLemmas.{finds_ports, finds_only_ports}
use Rattle.mp_modules.specs.declared.storage.any_module.AnyModule.{AnyModule}
use Rattle.mp_modules.specs.storage.AnyModules.{settle}
use Rattle.mp_records.specs.declared.ports.Input.{Input}
use Rattle.mp_model.specs.Levels.{initial_of, built, input_by}
use Rattle.mp_model.proofs.BehaviourLemmas.{satisfies}
use Rattle.mp_model.proofs.InputLemmas.{input_is}
use Rattle.mp_model.proofs.EndsLemmas.{first_level}
use Rattle.mp_model.specs.Evaluations.{delay_in}
use Rattle.mp_model.specs.Waves.{level, state}
use Rattle.mp_model.proofs.SlotLemmas.{some_within}
use Rattle.mp_modules.specs.declared.automata.automaton_state.AutomatonState.{AutomatonState}
use Rattle.mp_modules.specs.automata.Codes.{bit}
use Rattle.mp_kernel.specs.events.Adding.{state_at, listed}
use Rattle.mp_kernel.specs.events.Firing.{HasSlot, HaveSlots, no_port, is_entry, scheduled, number_of}
use Rattle.mp_kernel.proofs.lemmas.events.EntryLemmas.{schedules_each}
use Rattle.mp_simulation.specs.bits.Schedules.{output_port_of, output_ports_of, number_of as wire_number}
use Rattle.mp_simulation.specs.bits.Simulators.{IsBelow, AreBelow}
use Rattle.mp_simulation.specs.units.DataLevels.{is_data}
use Rattle.mp_simulation.proofs.lemmas.bits.ScheduleLemmas.{not_led, own_led, port_toggle, few_ports, same_part}
use Rattle.mp_simulation.specs.declared.run.delays.Delays.{Delays}
use Rattle.mp_simulation.specs.run.Delays.{IsWithin, AreWithin}
use Rattle.mp_simulation.specs.run.Settling.{IsShort, ports_of, departs_from, departing, first_unit, first_entries_in, first_entries, is_below, is_first_bit, IsSettled}

-- ---- outputs

no_output : Output
no_output = record { wire = None; delay = 1 }

standing : (n : Circuit) (w width : ℕ) → HasWidth n w width → w < length n.wires
standing n w width has = some_within n.wires w has.0

driven_low : (n : Circuit) (o : Option WireId) (width : ℕ) → IfSome o (λ w. HasWidth n w.0 width) → (w : WireId) → o ≡ Some w → w.0 < length n.wires
driven_low n None width driven w is = absurd (none-some w is)
driven_low n (Some v) width driven w is = subst (λ (x : WireId). x.0 < length n.wires) (same_Some v w is) (standing n v.0 width driven)

pub output_low : (n : Circuit) → IsCircuit n → (m p : ℕ) (r : ModuleRecord) (w : WireId) → module_at n m ≡ Some r → (output_at r p).wire ≡ Some w → w.0 < length n.wires
output_low n ok m p r w at is = driven_low n (output_at r p).wire (output_width r.kind (module_width n r) p) ((ok.modules_ok m r at).drives p) w is

pub short_module : (n : Circuit) (r : ModuleRecord) → IsModule n r → All IsShort r.outputs
short_module n r form k d within = let high = (form.delays k d within).1 in omega arith

pub short_outputs : (n : Circuit) → IsCircuit n → (m : ℕ) (r : ModuleRecord) → module_at n m ≡ Some r → All IsShort r.outputs
short_outputs n ok m r at = short_module n r (ok.modules_ok m r at)

-- a port has a slot where no output has a longer delay
pub slot_within : (n : Circuit) → IsCircuit n → (units m p : ℕ) (r : ModuleRecord) → module_at n m ≡ Some r → All (λ (o : Output). o.delay ≤ units) r.outputs → 0 < units →
    HasSlot units (output_port_of (output_at r p))
slot_within n ok units m p r at within some = elim (cases_lt p (length r.outputs)) as (λ _. HasSlot units (output_port_of (output_at r p))) [
  | inl inside ↦ record { some = ((ok.modules_ok m r at).delays p (record { wire = None; delay = 1 }) inside).0; room = within p (record { wire = None; delay = 1 }) inside }
  | inr past ↦
      let none : output_at r p ≡ record { wire = None; delay = 1 } = get_or_past r.outputs p (record { wire = None; delay = 1 }) past in
      subst (λ (o : Output). HasSlot units (output_port_of o)) (sym none) (record { some = omega arith; room = some_room some })
]
  where
    some_room : 0 < units → 1 ≤ units
    some_room is = omega arith

pub delay_is : (n : Circuit) → IsCircuit n → (d : Delays) → (m p : ℕ) (r : ModuleRecord) → module_at n m ≡ Some r → IsWithin d r → 0 < d.outputs → HasSlot d.outputs (output_port_of (output_at r p))
delay_is n ok d m p r at within some = slot_within n ok d.outputs m p r at within.outputs some

slots_by : (n : Circuit) → IsCircuit n → (d : Delays) → AreWithin n (length n.modules) d → 0 < d.outputs → (m : ℕ) → m < length n.modules → (slot : Option ModuleRecord) → module_at n m ≡ slot →
    HaveSlots d.outputs (ports_of slot)
slots_by n ok d within some m inside None at = record { first = one; second = one; third = one }
  where
    one : HasSlot d.outputs no_port
    one = record { some = omega arith; room = omega arith }
slots_by n ok d within some m inside (Some r) at =
    let is = within m r inside at in
    record { first = delay_is n ok d m 0 r at is some; second = delay_is n ok d m 1 r at is some; third = delay_is n ok d m 2 r at is some }

pub have_slots : (n : Circuit) → IsCircuit n → (d : Delays) → AreWithin n (length n.modules) d → 0 < d.outputs → All (HaveSlots d.outputs) (map ports_of n.modules)
have_slots n ok d within some =
    All-map (HaveSlots d.outputs) ports_of n.modules
    (λ m e inside. slots_by n ok d within some m inside (slice_index_or n.modules m e) (get_or_default n.modules m None e inside))

pub unmapped : (w : ℕ) (o : Option WireId) → option_map wire_number o ≡ Some w → o ≡ Some (record { 0 = w })
unmapped w None e = absurd (none-some w e)
unmapped w (Some v) e = let same : v.0 ≡ w = same_Some v.0 w e in ap (λ (k : ℕ). Some (let id : WireId = record { 0 = k } in id)) same

port_below : (n : Circuit) → IsCircuit n → (m p : ℕ) (r : ModuleRecord) → module_at n m ≡ Some r → IsBelow (length n.wires) (output_port_of (output_at r p))
port_below n ok m p r at w is = output_low n ok m p r (record { 0 = w }) at (unmapped w (output_at r p).wire is)

below_by : (n : Circuit) → IsCircuit n → (m : ℕ) (slot : Option ModuleRecord) → module_at n m ≡ slot → AreBelow (length n.wires) (ports_of slot)
below_by n ok m None at = record { first = λ w is. absurd (none-some w is); second = λ w is. absurd (none-some w is); third = λ w is. absurd (none-some w is) }
below_by n ok m (Some r) at = record { first = port_below n ok m 0 r at; second = port_below n ok m 1 r at; third = port_below n ok m 2 r at }

pub are_below : (n : Circuit) → IsCircuit n → All (AreBelow (length n.wires)) (map ports_of n.modules)
are_below n ok =
    All-map (AreBelow (length n.wires)) ports_of n.modules
    (λ m e inside. below_by n ok m (slice_index_or n.modules m e) (get_or_default n.modules m None e inside))

-- ---- states

first_inputs : (n : Circuit) → IsCircuit n → (inputs : List Input) → map (λ (i : Input). initial_of (wire_at n i.wire.0)) inputs ≡ map (λ (i : Input). input_by n (level n) i 0) inputs
first_inputs n ok [] = refl
first_inputs n ok (i ∷ inputs) =
    let past : 0 - i.delay ≡ 0 = omega arith in
    let here : initial_of (wire_at n i.wire.0) ≡ input_by n (level n) i 0 = sym (input_is n ok i 0 ∙ ap (level n i.wire.0) past ∙ first_level n ok i.wire.0) in
    ap (λ x. x ∷ map (λ (v : Input). initial_of (wire_at n v.wire.0)) inputs) here ∙ ap (λ xs. input_by n (level n) i 0 ∷ xs) (first_inputs n ok inputs)

-- a module that is settled by the initial levels of its wires
pub settled_is : (n : Circuit) → IsCircuit n → (m : ℕ) (r : ModuleRecord) (part : AnyModule) (levels : List ℕ) (memory : Memory) → module_at n m ≡ Some r → part ≡ built n r →
    levels ≡ map (λ (i : Input). initial_of (wire_at n i.wire.0)) r.inputs → memory ≡ settle part levels → memory ≡ state n m 0
settled_is n ok m r part levels memory at part_is levels_are is =
    is ∙ ap (λ (p : AnyModule). settle p levels) part_is ∙ ap (settle (built n r)) (levels_are ∙ first_inputs n ok r.inputs) ∙ sym ((satisfies n ok).settled m r at)

-- ---- the first changes

-- one port of a module
toggle_of : (n : Circuit) (w p : ℕ) → p < 3 → (r : ModuleRecord) (m : Memory) → (output_at r p).wire ≡ Some (record { 0 = w }) →
    port_toggle (departing n (output_ports_of r) m) p ≡ not (is_data n w) && not (initial_of (wire_at n w) == output_of m p)
toggle_of n w zero low r m is = ap (λ (o : Option WireId). departs_from n (option_map wire_number o) (output_of m 0)) is
toggle_of n w (suc zero) low r m is = ap (λ (o : Option WireId). departs_from n (option_map wire_number o) (output_of m 1)) is
toggle_of n w (suc (suc zero)) low r m is = ap (λ (o : Option WireId). departs_from n (option_map wire_number o) (output_of m 2)) is
toggle_of n w (suc (suc (suc p))) low r m is = absurd (omega arith)

swapped : (a b c d : Bool) → a ≡ b → bit ((d && c) && a) ≡ bit (true && ((b && c) && d))
swapped a true true true same = rw same refl
swapped a true true false same = refl
swapped a true false true same = refl
swapped a true false false same = refl
swapped a false true true same = rw same refl
swapped a false true false same = refl
swapped a false false true same = refl
swapped a false false false same = refl

pub same_delay : (d k : ℕ) → 0 < d → (d - 1 == k) ≡ (d == k + 1)
same_delay d k some = elim (cases_eq (d - 1) k) as (λ _. (d - 1 == k) ≡ (d == k + 1)) [
  | inl same ↦ eq-eqb (d - 1) k same ∙ sym (eq-eqb d (k + 1) (omega arith))
  | inr other ↦ ne_eqb (d - 1) k other ∙ sym (ne_eqb d (k + 1) (λ e. other (omega arith)))
]

pub still_below : (m k : ℕ) → m ≢ k → nat_lt m (k + 1) ≡ nat_lt m k
still_below m k other = grind (arith, nat_tests)

plus_none : (a b : ℕ) → a ≡ 0 → a + b ≡ b
plus_none a b none = omega arith

-- a port that drives a wire has a delay
pub delay_some : (n : Circuit) → IsCircuit n → (m p w : ℕ) (r : ModuleRecord) → module_at n m ≡ Some r → (output_at r p).wire ≡ Some (record { 0 = w }) → 0 < delay_of r p
delay_some n ok m p w r at output = elim (cases_lt p (length r.outputs)) as (λ _. 0 < delay_of r p) [
  | inl inside ↦ ((ok.modules_ok m r at).delays p (record { wire = None; delay = 1 }) inside).0
  | inr past ↦ let one = ap (λ (o : Output). o.delay) (get_or_past r.outputs p (record { wire = None; delay = 1 }) past) in omega arith
]

module _ (n : Circuit) (ok : IsCircuit n) (m : ℕ) where
  -- where no port of m drives the wire, nothing comes by m
  kept_by : (w k : ℕ) (d : Driver) → driver n w ≡ d → ((p : ℕ) → Drives n m p w → ⊥) → bit (is_below m d && is_first_bit n d w (k + 1)) ≡ bit (is_below (m + 1) d && is_first_bit n d w (k + 1))
  kept_by w k Nothing is never = refl
  kept_by w k Stimulus is never = refl
  kept_by w k (Port v p) is never =
      let drv = finds_only_ports n w p v is in
      let other : v.0 ≢ m = λ e. never p (subst (λ x. Drives n x p w) e drv) in
      ap (λ b. bit (b && is_first_bit n (Port v p) w (k + 1))) (sym (still_below v.0 m other))

  count_none : (r : ModuleRecord) → module_at n m ≡ Some r → (w k : ℕ) → ((p : ℕ) → Drives n m p w → ⊥) → count_by (is_entry k w) (first_entries_in n m (Some r)) ≡ 0
  count_none r at w k never = not_led r (departing n (output_ports_of r) (state n m 0)) k w (λ j e. never j (record { part = r; stands = at; output = e }))

  count_own : (r : ModuleRecord) → module_at n m ≡ Some r → (w k p : ℕ) (v : ModuleId) → v.0 ≡ m → driver n w ≡ Port v p → Drives n m p w →
      count_by (is_entry k w) (first_entries_in n m (Some r)) ≡ bit (is_below (m + 1) (Port v p) && is_first_bit n (Port v p) w (k + 1))
  count_own r at w k p v own is drv =
      let output : (output_at r p).wire ≡ Some (record { 0 = w }) = subst (λ (s : ModuleRecord). (output_at s p).wire ≡ Some (record { 0 = w })) (same_part n m drv.part r drv.stands at) drv.output in
      let low = few_ports n ok m p w r at output in
      let others : (j : ℕ) → j ≢ p → (output_at r j).wire ≢ Some (record { 0 = w }) = λ j other e. other (ok.one_port m j m p w (record { part = r; stands = at; output = e }) drv).1 in
      let some : 0 < delay_of r p = delay_some n ok m p w r at output in
      let test : nat_lt v.0 (m + 1) ≡ true = grind (arith, nat_tests) in
      own_led p low r (departing n (output_ports_of r) (state n m 0)) k w output others
      ∙ ap (λ b. bit (b && (delay_of r p - 1 == k))) (toggle_of n w p low r (state n m 0) output)
      ∙ swapped (delay_of r p - 1 == k) (delay_of r p == k + 1) (not (initial_of (wire_at n w) == output_of (state n m 0) p)) (not (is_data n w)) (same_delay (delay_of r p) k some)
      ∙ ap (λ b. bit (b && ((delay_of r p == k + 1 && not (initial_of (wire_at n w) == output_of (state n m 0) p)) && not (is_data n w)))) (sym test)
      ∙ ap (λ slot. bit (nat_lt v.0 (m + 1) && ((delay_in slot p == k + 1 && not (initial_of (wire_at n w) == output_of (state n m 0) p)) && not (is_data n w)))) (sym at)
      ∙ ap (λ x. bit (nat_lt v.0 (m + 1) && ((delay_in (module_at n x) p == k + 1 && not (initial_of (wire_at n w) == output_of (state n x 0) p)) && not (is_data n w)))) (sym own)

  own_before : (w k p : ℕ) (v : ModuleId) → v.0 ≡ m → bit (is_below m (Port v p) && is_first_bit n (Port v p) w (k + 1)) ≡ 0
  own_before w k p v own = let test : nat_lt v.0 m ≡ false = grind (arith, nat_tests) in ap (λ b. bit (b && is_first_bit n (Port v p) w (k + 1))) test

  by_driver : (r : ModuleRecord) → module_at n m ≡ Some r → (w k : ℕ) (d : Driver) → driver n w ≡ d →
      bit (is_below m d && is_first_bit n d w (k + 1)) + count_by (is_entry k w) (first_entries_in n m (Some r)) ≡ bit (is_below (m + 1) d && is_first_bit n d w (k + 1))
  by_driver r at w k Nothing is = plus_none 0 (count_by (is_entry k w) (first_entries_in n m (Some r))) refl ∙ count_none r at w k (λ p drv. no_port_drives p drv)
    where
      no_port_drives : (p : ℕ) → Drives n m p w → ⊥
      no_port_drives p drv = let e = sym is ∙ finds_ports n ok m p w drv in cc
  by_driver r at w k Stimulus is = plus_none 0 (count_by (is_entry k w) (first_entries_in n m (Some r))) refl ∙ count_none r at w k (λ p drv. no_port_drives p drv)
    where
      no_port_drives : (p : ℕ) → Drives n m p w → ⊥
      no_port_drives p drv = let e = sym is ∙ finds_ports n ok m p w drv in cc
  by_driver r at w k (Port v p) is = elim (cases_eq v.0 m) as (λ _. bit (is_below m (Port v p) && is_first_bit n (Port v p) w (k + 1)) + count_by (is_entry k w) (first_entries_in n m (Some r)) ≡
      bit (is_below (m + 1) (Port v p) && is_first_bit n (Port v p) w (k + 1))) [
        | inl own ↦
            let drv : Drives n m p w = subst (λ x. Drives n x p w) own (finds_only_ports n w p v is) in
            let before = own_before w k p v own in
            let now = count_own r at w k p v own is drv in
            omega arith
        | inr other ↦
            let never : (q : ℕ) → Drives n m q w → ⊥ = λ q drv. other (sym (ok.one_port m q v.0 p w drv (finds_only_ports n w p v is)).0) in
            let none = count_none r at w k never in
            let kept = kept_by w k (Port v p) is never in
            omega arith
      ]

  by_slot : (slot : Option ModuleRecord) → module_at n m ≡ slot → (w k : ℕ) →
      bit (is_below m (driver n w) && is_first_bit n (driver n w) w (k + 1)) + count_by (is_entry k w) (first_entries_in n m slot) ≡ bit (is_below (m + 1) (driver n w) && is_first_bit n (driver n w) w (k + 1))
  by_slot None at w k =
      add_none (bit (is_below m (driver n w) && is_first_bit n (driver n w) w (k + 1)))
      ∙ kept_by w k (driver n w) refl (λ p drv. none-some drv.part (sym at ∙ drv.stands))
    where
      add_none : (x : ℕ) → x + 0 ≡ x
      add_none x = omega arith
  by_slot (Some r) at w k = by_driver r at w k (driver n w) refl

pub settled_next : (n : Circuit) → IsCircuit n → (m : ℕ) (states new : List AutomatonState) (s : AutomatonState) (wheel after : List (List ℕ)) → IsSettled n m states wheel →
    new ≡ states ++ s ∷ [] → s.0 ≡ number_of (first_unit n m) → after ≡ scheduled wheel (first_entries n m) → length after ≡ length wheel → IsSettled n (m + 1) new after
settled_next n ok m states new s wheel after are pushed state scheduled_is long = record {
  places = ap (length {A = AutomatonState}) pushed ∙ length_push states s ∙ ap (λ k. k + 1) are.places;
  each = λ k low. ap (λ xs. state_at xs k) pushed ∙ by_place k low;
  slots = λ w k within.
      ap (λ (xs : List (List ℕ)). listed w (slice_index_or xs k [])) scheduled_is
      ∙ schedules_each wheel (first_entries n m) k w (omega arith)
      ∙ ap (λ x. x + count_by (is_entry k w) (first_entries n m)) (are.slots w k (omega arith))
      ∙ by_slot n ok m (module_at n m) refl w k;
}
  where
    by_place : (k : ℕ) → k < m + 1 → state_at (states ++ s ∷ []) k ≡ number_of (first_unit n k)
    by_place k low = elim (cases_eq k m) as (λ _. state_at (states ++ s ∷ []) k ≡ number_of (first_unit n k)) [
      | inl same ↦
          ap (λ (x : AutomatonState). x.0) (get_or_push states s (record { 0 = 0 }) k (let a = are.places in omega arith))
          ∙ state ∙ ap (λ j. number_of (first_unit n j)) (sym same)
      | inr other ↦
          ap (λ (x : AutomatonState). x.0) (get_or_append_left states (s ∷ []) (record { 0 = 0 }) k (let a = are.places in omega arith))
          ∙ are.each k (omega arith)
    ]
