-- What is taken out of the wheels are the changes of wires of modules that leave.
use Rattle.std.proofs.Common.{◌≡◌, ℕ, zero, suc, ◌+◌, ◌<◌, ◌≤◌, Bool, true, false, not, List, [], ◌∷◌, All, Option, Some, None, is_some, cond, length, map, nat_lt, refl, ap, sym, subst, ◌∙◌, arith, inl, inr}
use Rattle.std.specs.Prelude.{◌==◌, ◌&&◌, slice_index_or}
use Rattle.std.specs.List.{filter}
use Rattle.std.proofs.lemmas.Bool.{cases_Bool, cases_lt, eq-eqb, lt-ltb, le-ltb, and_right, both_ways}
use Rattle.std.proofs.lemmas.List.{get_or_past}
use Rattle.std.proofs.lemmas.List.Elements.{All-nil, All-append, All-map}
use Rattle.mp_records.specs.declared.ids.ModuleId.{ModuleId}
use Rattle.mp_records.specs.declared.module_record.ModuleRecord.{ModuleRecord}
use Rattle.mp_records.specs.Outputs.{output_at, delay_of}
use Rattle.mp_netlist.specs.declared.driver.Driver.{Driver}
use Rattle.mp_netlist.specs.declared.driver.Driver.TheVariants.{Nothing, Stimulus, Port}
use Rattle.mp_netlist.specs.Circuit.{Circuit, IsCircuit, Drives, module_at, wire_at, module_width}
use Rattle.mp_netlist.specs.Drivers.{driver}
use Rattle.mp_netlist.proofs.DriverLemmas.{finds_only_ports, driven_stands}
use Rattle.mp_model.specs.Evaluations.{delay_in}
use Rattle.mp_modules.specs.automata.Codes.{bit}
use Rattle.mp_kernel.specs.declared.events.output_port.OutputPort.{OutputPort}
use Rattle.mp_kernel.specs.events.Adding.{listed}
use Rattle.mp_kernel.specs.events.Firing.{HasSlot, no_port}
use Rattle.mp_simulation.specs.bits.Changes.{change_at, late_change}
use Rattle.mp_simulation.specs.bits.Schedules.{output_port_of}
use Rattle.mp_simulation.specs.bits.Simulators.{slot_at}
use Rattle.mp_simulation.proofs.lemmas.bits.ScheduleLemmas.{same_part}
use Rattle.mp_kernel.specs.declared.datapath.level_change.LevelChange.{LevelChange}
use Rattle.mp_kernel.specs.datapath.DataFiring.{place_at, module_at as data_module_at}
use Rattle.mp_simulation.specs.declared.units.netlist_simulation.NetlistSimulation.{NetlistSimulation}
use Rattle.mp_simulation.specs.units.DataLevels.{is_data, is_bit_wire, changes_of, late_level, IsLevelAt}
use Rattle.mp_simulation.specs.units.DataSeats.{drives_data}
use Rattle.mp_simulation.specs.units.DataWheels.{data_slot, driver_delay}
use Rattle.mp_simulation.proofs.lemmas.units.PresentLemmas.{at_once}
use Rattle.mp_active.specs.excerpt.Excerpts.{ArePortsOn}
use Rattle.mp_active.specs.excerpt.Numberings.{Numbering}
use Rattle.mp_active.specs.excerpt.Levels.{shown_change, shown_delay, shown_ahead}
use Rattle.mp_active.specs.excerpt.Showing.{Shows}
use Rattle.mp_active.specs.excerpt.Leaving.{is_port_in}
use Rattle.mp_active.proofs.lemmas.excerpt.KeptLemmas.{stands_within, bit_is}
use Rattle.mp_active.proofs.lemmas.excerpt.PlaceLemmas.{bit_driven, bit_parts, placeless}
use Rattle.mp_active.proofs.lemmas.excerpt.TestLemmas.{swapped}
use Rattle.mp_active.specs.steps.Ahead.{is_known}
use Rattle.mp_active.specs.steps.Taking.{AreGone, gone_changes, taken_toggle, taken_change, taken_at, taken_in}
use Rattle.mp_active.specs.steps.Tails.{IsTail, AreTails, TakesTails}
use Rattle.mp_active.proofs.lemmas.steps.AheadLemmas.{level_now}
use Rattle.mp_active.proofs.lemmas.steps.ListedLemmas.{lists_taken}
use Rattle.mp_active.proofs.lemmas.steps.GoneLemmas.{keyed, keyed_cons, counted_kept, all_filtered, nothing_resting, none_changes}

-- ---- what is there is counted
counted_here : {A : Type 0} (key : A → ℕ) (xs : List A) (k : ℕ) (d : A) → k < length xs → 0 < keyed key (key (slice_index_or xs k d)) xs
counted_here key [] k d within = let no : ⊥ = omega (arith, within) in absurd no
counted_here key (x ∷ xs) zero d within =
    let more = keyed_cons key (key x) x xs in
    let own = ap bit (eq-eqb (key x) (key x) refl) in
    omega (arith, more, own)
counted_here key (x ∷ xs) (suc k) d within =
    let more = keyed_cons key (key (slice_index_or xs k d)) x xs in
    let rest = counted_here key xs k d (omega (arith, within)) in
    omega (arith, more, rest)

-- where what fails a test isn't there, all that are there pass it
all_passing : {A : Type 0} (key : A → ℕ) (p : ℕ → Bool) (xs : List A) → ((u : ℕ) → p u ≡ false → keyed key u xs ≡ 0) → All (λ x. p (key x) ≡ true) xs
all_passing key p xs none k d within = elim (cases_Bool (p (key (slice_index_or xs k d)))) as (λ _. p (key (slice_index_or xs k d)) ≡ true) [
  | inl passes ↦ passes
  | inr fails ↦
      let some = counted_here key xs k d within in
      let nothing = none (key (slice_index_or xs k d)) fails in
      let no : ⊥ = omega (arith, some, nothing) in absurd no
]

some_is : (o : Option ℕ) → is_some o ≡ true → (j : ℕ) × (o ≡ Some j)
some_is None some = let no : ⊥ = cc in absurd no
some_is (Some j) some = (j, refl)

both_kinds : (known within wide : Bool) → within ≡ true → bit (known && (within && not wide)) + bit (known && wide) ≡ bit known
both_kinds true true true is = refl
both_kinds true true false is = refl
both_kinds false true wide is = refl
both_kinds known false wide is = let no : ⊥ = cc in absurd no

module _ (n : Circuit) (ok : IsCircuit n) (active on : ℕ → Bool) (ports : ArePortsOn n active on) (numbering : Numbering) (t : ℕ) (s : NetlistSimulation) (shown : Shows n active on numbering t s) where
  -- ---- what the wheels have of a wire that an active module drives
  module _ (w p : ℕ) (m : ModuleId) (drives : driver n w ≡ Port m p) (awake : active m.0 ≡ true) where
    drv : Drives n m.0 p w
    drv = finds_only_ports n w p m drives

    stands : w < length n.wires
    stands = stands_within n w (wire_at n w) refl (driven_stands n ok m.0 p w drv)

    below : w < length s.bits.simulator.fanout
    below = let low = stands in let same = shown.bits.wires in let rows = shown.bits.sound.simulator.rows in omega (arith, low, same, rows)

    delay_is : driver_delay n (driver n w) ≡ delay_of drv.part p
    delay_is = ap (driver_delay n) drives ∙ ap (λ (o : Option ModuleRecord). delay_in o p) drv.stands

    known_delay : shown_delay n active (driver n w) ≡ driver_delay n (driver n w)
    known_delay = ap (shown_delay n active) drives ∙ ap (λ b. cond b (delay_in (module_at n m.0) p) 0) awake ∙ sym (ap (driver_delay n) drives)

    bit_room : driver_delay n (driver n w) ≤ length s.bits.simulator.wheel
    bit_room = let room = shown.bits.room w p m drv.part drives awake drv.stands in let is = delay_is in omega (arith, room, is)

    width_is : is_data n w ≡ true → (module_width n drv.part == 1) ≡ false
    width_is wide = elim (cases_Bool (module_width n drv.part == 1)) as (λ _. (module_width n drv.part == 1) ≡ false) [
      | inl narrow ↦ absurd (both_ways (is_data n w) (bit_parts n w (bit_driven n ok m.0 p w drv.part drv.stands narrow drv)).1 wide)
      | inr other ↦ other
    ]

    wide_room : is_data n w ≡ true → driver_delay n (driver n w) ≤ length s.wires.wheel
    wide_room wide =
        let place = some_is (place_at s.modules.places.items m.0) (shown.modules.whole m.0 drv.part drv.stands awake (placeless n active m.0 drv.part drv.stands (width_is wide))) in
        let seat = (shown.modules.seats m.0 place.0 place.1).seat in
        let first : p ≡ 0 = seat.first w p drv wide in
        let same : drv.part ≡ seat.record_of = same_part n m.0 drv.part seat.record_of drv.stands seat.stands in
        let wire : (output_at seat.record_of 0).wire ≡ Some (record { 0 = w }) =
        subst (λ i. (output_at seat.record_of i).wire ≡ Some (record { 0 = w })) first (subst (λ (r : ModuleRecord). (output_at r p).wire ≡ Some (record { 0 = w })) same drv.output) in
        let is_wide : drives_data n (output_at seat.record_of 0).wire ≡ true = ap (drives_data n) wire ∙ wide in
        let port : (data_module_at s.modules.modules.items place.0).ports.level ≡ output_port_of (output_at seat.record_of 0) =
        seat.level ∙ ap (λ b. cond b (output_port_of (output_at seat.record_of 0)) no_port) is_wide in
        let slot : HasSlot (length s.wires.wheel) (output_port_of (output_at seat.record_of 0)) = subst (λ (o : OutputPort). HasSlot (length s.wires.wheel) o) port seat.fit.level in
        let low : delay_of seat.record_of 0 ≤ length s.wires.wheel = slot.room in
        let far : driver_delay n (driver n w) ≡ delay_of seat.record_of 0 = delay_is ∙ ap (λ (r : ModuleRecord). delay_of r p) same ∙ ap (delay_of seat.record_of) first in
        omega (arith, low, far)

    -- nothing is known beyond the wheel
    unknown : (k : ℕ) (kind : Bool) → driver_delay n (driver n w) ≤ k → 0 ≡ bit (is_known n t w k && kind)
    unknown k kind far = sym (ap (λ b. bit (b && kind)) (and_right (change_at n w (t + 1 + k)) (nat_lt k (driver_delay n (driver n w))) (le-ltb k (driver_delay n (driver n w)) far)))

    event_is : (k : ℕ) → listed w (slot_at s.bits.simulator k) ≡ bit (is_known n t w k && is_bit_wire n w)
    event_is k = elim (cases_lt k (length s.bits.simulator.wheel)) as (λ _. listed w (slot_at s.bits.simulator k) ≡ bit (is_known n t w k && is_bit_wire n w)) [
      | inl within ↦
          shown.bits.events w k within
          ∙ ap (λ d. bit ((change_at n w (t + 1 + k) && is_bit_wire n w) && nat_lt k d)) known_delay
          ∙ ap bit (swapped (change_at n w (t + 1 + k)) (is_bit_wire n w) (nat_lt k (driver_delay n (driver n w))))
      | inr beyond ↦ ap (listed w) (get_or_past s.bits.simulator.wheel k [] beyond) ∙ unknown k (is_bit_wire n w) (let room = bit_room in omega (arith, room, beyond))
    ]

    change_by : (k : ℕ) (wide : Bool) → is_data n w ≡ wide → changes_of w (data_slot s.wires.wheel k) ≡ bit (is_known n t w k && wide)
    change_by k true wide = elim (cases_lt k (length s.wires.wheel)) as (λ _. changes_of w (data_slot s.wires.wheel k) ≡ bit (is_known n t w k && true)) [
      | inl within ↦
          let own = shown.numbers.data_wires w wide in
          shown.wires.changes w k below within
          ∙ ap (λ (o : Option ℕ). bit ((shown_change n on (numbering.source w) (t + 1 + k) && is_data n (numbering.source w).0) && nat_lt k (shown_ahead n active s.wires.next.items w o))) own.1
          ∙ ap (λ (v : ℕ × ℕ). bit ((shown_change n on v (t + 1 + k) && is_data n v.0) && nat_lt k (shown_delay n active (driver n w)))) own.0
          ∙ ap (λ b. bit (((b && late_change n (w, 0) (t + 1 + k)) && is_data n w) && nat_lt k (shown_delay n active (driver n w)))) (ports.driven m.0 p w awake drv)
          ∙ ap (λ b. bit ((b && is_data n w) && nat_lt k (shown_delay n active (driver n w)))) (at_once n w (t + 1 + k) (omega arith))
          ∙ ap (λ d. bit ((change_at n w (t + 1 + k) && is_data n w) && nat_lt k d)) known_delay
          ∙ ap bit (swapped (change_at n w (t + 1 + k)) (is_data n w) (nat_lt k (driver_delay n (driver n w))))
          ∙ ap (λ b. bit (is_known n t w k && b)) wide
      | inr beyond ↦ ap (λ (cs : List LevelChange). changes_of w cs) (get_or_past s.wires.wheel k [] beyond) ∙ unknown k true (let room = wide_room wide in omega (arith, room, beyond))
    ]
    change_by k false narrow = elim (cases_lt k (length s.wires.wheel)) as (λ _. changes_of w (data_slot s.wires.wheel k) ≡ bit (is_known n t w k && false)) [
      | inl within ↦
          let own = shown.numbers.wires w (bit_is n w stands narrow) in
          let none : is_data n (numbering.source w).0 ≡ false = ap (λ (v : ℕ × ℕ). is_data n v.0) own ∙ narrow in
          shown.wires.changes w k below within
          ∙ ap (λ b. bit ((shown_change n on (numbering.source w) (t + 1 + k) && b) && nat_lt k (shown_ahead n active s.wires.next.items w (numbering.data_before w)))) none
          ∙ ap (λ b. bit (b && nat_lt k (shown_ahead n active s.wires.next.items w (numbering.data_before w)))) (and_right (shown_change n on (numbering.source w) (t + 1 + k)) false refl)
          ∙ sym (ap bit (and_right (is_known n t w k) false refl))
      | inr beyond ↦ ap (λ (cs : List LevelChange). changes_of w cs) (get_or_past s.wires.wheel k [] beyond) ∙ sym (ap bit (and_right (is_known n t w k) false refl))
    ]

    had_is : (k : ℕ) → listed w (slot_at s.bits.simulator k) + changes_of w (data_slot s.wires.wheel k) ≡ bit (is_known n t w k)
    had_is k =
        ap (λ j. j + changes_of w (data_slot s.wires.wheel k)) (event_is k)
        ∙ ap (λ j. bit (is_known n t w k && is_bit_wire n w) + j) (change_by k (is_data n w) refl)
        ∙ both_kinds (is_known n t w k) (nat_lt w (length n.wires)) (is_data n w) (lt-ltb w (length n.wires) stands)

  -- ---- of a wire that rests they have nothing
  module _ (leaving gone : ℕ → Bool) (units : ℕ) (inside : (m : ℕ) → leaving m ≡ true → active m ≡ true) (are : AreGone n active leaving gone units) where
    rests : (w k : ℕ) (known : Bool) → gone w ≡ true → is_port_in leaving (driver n w) ≡ false → bit (known && nat_lt k (shown_delay n active (driver n w))) ≡ 0
    rests w k known goes stays = nothing_resting n ok active on numbering leaving gone t units s are shown w k known goes stays

    none_events : (w k : ℕ) → gone w ≡ true → is_port_in leaving (driver n w) ≡ false → listed w (slot_at s.bits.simulator k) ≡ 0
    none_events w k goes stays = elim (cases_lt k (length s.bits.simulator.wheel)) as (λ _. listed w (slot_at s.bits.simulator k) ≡ 0) [
      | inl within ↦ shown.bits.events w k within ∙ rests w k (change_at n w (t + 1 + k) && is_bit_wire n w) goes stays
      | inr beyond ↦ ap (listed w) (get_or_past s.bits.simulator.wheel k [] beyond)
    ]

    none_left : (w k : ℕ) → gone w ≡ true → is_port_in leaving (driver n w) ≡ false → changes_of w (data_slot s.wires.wheel k) ≡ 0
    none_left w k goes stays = elim (cases_lt k (length s.wires.wheel)) as (λ _. changes_of w (data_slot s.wires.wheel k) ≡ 0) [
      | inl within ↦
          none_changes n ok active on numbering leaving gone t units s are shown w k (numbering.data_before w) refl
          (let low = are.stand w goes in let same = shown.bits.wires in let rows = shown.bits.sound.simulator.rows in omega (arith, low, same, rows)) within goes stays
      | inr beyond ↦ ap (λ (cs : List LevelChange). changes_of w cs) (get_or_past s.wires.wheel k [] beyond)
    ]

    -- ---- each change once
    port_had : (w k : ℕ) (d : Driver) → driver n w ≡ d → is_port_in leaving d ≡ true → listed w (slot_at s.bits.simulator k) + changes_of w (data_slot s.wires.wheel k) ≡ bit (is_known n t w k)
    port_had w k Nothing drives leaves = let no : ⊥ = cc in absurd no
    port_had w k Stimulus drives leaves = let no : ⊥ = cc in absurd no
    port_had w k (Port m p) drives leaves = had_is w p m drives (inside m.0 leaves) k

    none_or : (b : Bool) → ◌≡◌ {A = ℕ} (cond b 0 0) 0
    none_or true = refl
    none_or false = refl

    decided_all : (w k : ℕ) → is_port_in leaving (driver n w) ≡ true → cond (nat_lt k units && true) (bit (is_known n t w k)) 0 ≡ bit (is_known n t w k)
    decided_all w k leaves = elim (cases_lt k units) as (λ _. cond (nat_lt k units && true) (bit (is_known n t w k)) 0 ≡ bit (is_known n t w k)) [
      | inl early ↦ ap (λ b. cond (b && true) (bit (is_known n t w k)) 0) (lt-ltb k units early)
      | inr late ↦
          let all = are.decided w leaves in
          let none : is_known n t w k ≡ false = and_right (change_at n w (t + 1 + k)) (nat_lt k (driver_delay n (driver n w))) (le-ltb k (driver_delay n (driver n w)) (omega (arith, all, late))) in
          ap (λ b. cond (nat_lt k units && true) (bit b) 0) none ∙ none_or (nat_lt k units && true) ∙ sym (ap bit none)
    ]

    each_by : (w k : ℕ) (goes leaves : Bool) → gone w ≡ goes → is_port_in leaving (driver n w) ≡ leaves →
        cond (nat_lt k units && goes) (listed w (slot_at s.bits.simulator k) + changes_of w (data_slot s.wires.wheel k)) 0 ≡ bit (leaves && is_known n t w k)
    each_by w k true true goes leaves = ap (λ j. cond (nat_lt k units && true) j 0) (port_had w k (driver n w) refl leaves) ∙ decided_all w k leaves
    each_by w k true false goes stays =
        let none : listed w (slot_at s.bits.simulator k) + changes_of w (data_slot s.wires.wheel k) ≡ 0 = (let one = none_events w k goes stays in let other = none_left w k goes stays in omega (arith, one, other)) in
        ap (λ j. cond (nat_lt k units && true) j 0) none ∙ none_or (nat_lt k units && true)
    each_by w k false true goes leaves = absurd (both_ways (gone w) goes (are.left w leaves))
    each_by w k false false goes stays = ap (λ b. cond b (listed w (slot_at s.bits.simulator k) + changes_of w (data_slot s.wires.wheel k)) 0) (and_right (nat_lt k units) false refl)

    -- ---- as it is on its wire
    bits_only : (k : ℕ) → All (λ x. is_bit_wire n x ≡ true) (filter gone (slot_at s.bits.simulator k))
    bits_only k =
        all_passing (λ (x : ℕ). x) (is_bit_wire n) (filter gone (slot_at s.bits.simulator k)) (λ u wide.
        counted_kept (λ (x : ℕ). x) gone u (slot_at s.bits.simulator k) ∙ ap (λ j. cond (gone u) j 0) (none_there u wide) ∙ none_or (gone u))
      where
        none_there : (u : ℕ) → is_bit_wire n u ≡ false → listed u (slot_at s.bits.simulator k) ≡ 0
        none_there u wide = elim (cases_lt k (length s.bits.simulator.wheel)) as (λ _. listed u (slot_at s.bits.simulator k) ≡ 0) [
          | inl within ↦
              shown.bits.events u k within
              ∙ ap (λ b. bit ((change_at n u (t + 1 + k) && b) && nat_lt k (shown_delay n active (driver n u)))) wide
              ∙ ap (λ b. bit (b && nat_lt k (shown_delay n active (driver n u)))) (and_right (change_at n u (t + 1 + k)) false refl)
          | inr beyond ↦ ap (listed u) (get_or_past s.bits.simulator.wheel k [] beyond)
        ]

    data_only : (k : ℕ) → All (λ (c : LevelChange). is_data n c.number ≡ true) (gone_changes gone (data_slot s.wires.wheel k))
    data_only k =
        all_passing (λ (c : LevelChange). c.number) (is_data n) (gone_changes gone (data_slot s.wires.wheel k)) (λ u narrow.
        counted_kept (λ (c : LevelChange). c.number) gone u (data_slot s.wires.wheel k) ∙ by u narrow (gone u) refl)
      where
        none_there : (u : ℕ) → gone u ≡ true → is_data n u ≡ false → changes_of u (data_slot s.wires.wheel k) ≡ 0
        none_there u goes narrow = elim (cases_lt k (length s.wires.wheel)) as (λ _. changes_of u (data_slot s.wires.wheel k) ≡ 0) [
          | inl within ↦
              let low = are.stand u goes in
              let few : u < length s.bits.simulator.fanout = let same = shown.bits.wires in let rows = shown.bits.sound.simulator.rows in omega (arith, low, same, rows) in
              let none : is_data n (numbering.source u).0 ≡ false = ap (λ (v : ℕ × ℕ). is_data n v.0) (shown.numbers.wires u (bit_is n u low narrow)) ∙ narrow in
              shown.wires.changes u k few within
              ∙ ap (λ b. bit ((shown_change n on (numbering.source u) (t + 1 + k) && b) && nat_lt k (shown_ahead n active s.wires.next.items u (numbering.data_before u)))) none
              ∙ ap (λ b. bit (b && nat_lt k (shown_ahead n active s.wires.next.items u (numbering.data_before u)))) (and_right (shown_change n on (numbering.source u) (t + 1 + k)) false refl)
          | inr beyond ↦ ap (λ (cs : List LevelChange). changes_of u cs) (get_or_past s.wires.wheel k [] beyond)
        ]

        by : (u : ℕ) → is_data n u ≡ false → (b : Bool) → gone u ≡ b → cond b (changes_of u (data_slot s.wires.wheel k)) 0 ≡ 0
        by u narrow true goes = none_there u goes narrow
        by u narrow false goes = refl

    toggle_tails : (k : ℕ) → All (IsTail n t) (map (taken_toggle (t + 1 + k)) (filter gone (slot_at s.bits.simulator k)))
    toggle_tails k =
        All-map (IsTail n t) (taken_toggle (t + 1 + k)) (filter gone (slot_at s.bits.simulator k)) (λ j d low.
        record { later = omega arith; kind = sym (bit_parts n (slice_index_or (filter gone (slot_at s.bits.simulator k)) j d) (bits_only k j d low)).1; level = λ never. let no : ⊥ = cc in absurd no })

    level_tails : (k : ℕ) → All (IsTail n t) (map (taken_change (t + 1 + k)) (gone_changes gone (data_slot s.wires.wheel k)))
    level_tails k =
        All-map (IsTail n t) (taken_change (t + 1 + k)) (gone_changes gone (data_slot s.wires.wheel k)) (λ j d low.
        let c : LevelChange = slice_index_or (gone_changes gone (data_slot s.wires.wheel k)) j d in
        let wide : is_data n c.number ≡ true = data_only k j d low in
        record {
          later = omega arith;
          kind = sym wide;
          level = λ _.
              all_filtered (IsLevelAt n numbering.source (t + 1 + k)) (λ (c : LevelChange). gone c.number) (data_slot s.wires.wheel k) (shown.wires.change_levels k) j d low
              ∙ ap (λ (v : ℕ × ℕ). late_level n v (t + 1 + k)) (shown.numbers.data_wires c.number wide).0
              ∙ level_now n c.number (t + 1 + k);
        })

    own_by : (j : ℕ) → All (IsTail n t) (taken_in gone (t + 1) s j)
    own_by zero = All-nil (IsTail n t)
    own_by (suc j) =
        All-append (IsTail n t) (taken_in gone (t + 1) s j) (taken_at gone (t + 1) s j) (own_by j)
        (All-append (IsTail n t) (map (taken_toggle (t + 1 + j)) (filter gone (slot_at s.bits.simulator j))) (map (taken_change (t + 1 + j)) (gone_changes gone (data_slot s.wires.wheel j))) (toggle_tails j) (level_tails j))

    tails : AreTails n leaving t (taken_in gone (t + 1) s units)
    tails = record {
      each = λ w k. lists_taken gone (t + 1) units w k s ∙ each_by w k (gone w) (is_port_in leaving (driver n w)) refl refl;
      own = own_by units;
    }

pub takes_tails : TakesTails
takes_tails n ok active on ports numbering leaving gone t units s inside are shown = tails n ok active on ports numbering t s shown leaving gone units inside are
