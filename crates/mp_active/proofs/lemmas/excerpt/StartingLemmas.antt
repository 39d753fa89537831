-- A simulation before the first unit.
use Rattle.std.proofs.Common.{◌≡◌, ℕ, ◌+◌, ◌-◌, ◌<◌, ◌≤◌, ◌⊎◌, Bool, true, false, cond, nat_lt, List, [], ◌∷◌, Option, Some, None, length, refl, ap, sym, subst, ◌∙◌, arith, inl, inr}
use Rattle.std.specs.Prelude.{◌&&◌, ◌==◌}
use Rattle.std.proofs.lemmas.Bool.{cases_Bool, cases_lt, le-ltb, and_right}
use Rattle.mp_records.specs.declared.wire_record.WireRecord.{WireRecord}
use Rattle.mp_records.specs.declared.module_record.ModuleRecord.{ModuleRecord}
use Rattle.mp_netlist.specs.Circuit.{Circuit, IsCircuit, wire_at}
use Rattle.mp_netlist.specs.Drivers.{driver}
use Rattle.mp_model.specs.Levels.{initial_of}
use Rattle.mp_model.specs.Waves.{level}
use Rattle.mp_model.proofs.EndsLemmas.{first_level}
use Rattle.mp_modules.specs.automata.Codes.{bit}
use Rattle.mp_kernel.specs.events.Firing.{copy_at}
use Rattle.mp_kernel.specs.events.Toggling.{wave_at}
use Rattle.mp_simulation.specs.bits.Changes.{change_at, late_change}
use Rattle.mp_simulation.specs.bits.Copies.{later_by}
use Rattle.mp_simulation.specs.bits.Traces.{IsTrace}
use Rattle.mp_partition.specs.runs.Marks.{is_marked}
use Rattle.mp_partition.specs.regions.Regions.{partition_of, slots_at_home, set_on_slot, slots_heard}
use Rattle.mp_simulation.specs.declared.units.netlist_simulation.NetlistSimulation.{NetlistSimulation}
use Rattle.mp_simulation.specs.units.DataLevels.{is_data, is_bit_wire, late_level}
use Rattle.mp_active.specs.excerpt.Excerpts.{active_slots, is_followed, slot_on, slots_on, ArePortsOn}
use Rattle.mp_active.specs.excerpt.Numberings.{Numbering}
use Rattle.mp_active.specs.excerpt.Levels.{shown_level, shown_late, shown_change, shown_delay, shown_ahead, IsCopyShown, IsChangeShown}
use Rattle.mp_active.specs.excerpt.Showing.{Shows}
use Rattle.mp_active.specs.excerpt.Starting.{StartsShow, StartsAreSimulated, RegionsAreExcerpts}
use Rattle.mp_partition.proofs.lemmas.regions.PartLemmas.{same_wave}
use Rattle.mp_active.proofs.lemmas.excerpt.TraceLemmas.{same_trace}
use Rattle.mp_active.proofs.lemmas.excerpt.TestLemmas.{either, no_tests, swapped, cond_same}
use Rattle.mp_active.proofs.lemmas.excerpt.CopyLemmas.{later_far}
use Rattle.mp_active.proofs.lemmas.excerpt.ChangeLemmas.{shown_bit, known_ahead}
use Rattle.mp_active.proofs.lemmas.excerpt.PlaceLemmas.{bit_parts}
use Rattle.mp_active.proofs.lemmas.excerpt.ShownLemmas.{simulations_show}
use Rattle.mp_active.proofs.lemmas.excerpt.SimulatedLemmas.{showing_simulates}

module _ (n : Circuit) (ok : IsCircuit n) where
  first_shown : (on : ℕ → Bool) (w : ℕ) → shown_level n on w 0 ≡ initial_of (wire_at n w)
  first_shown on w = ap (λ v. cond (on w) v (initial_of (wire_at n w))) (first_level n ok w) ∙ cond_same (on w) (initial_of (wire_at n w))

  late_first : (s : ℕ × ℕ) → late_level n s 0 ≡ initial_of (wire_at n s.0)
  late_first s =
      let time : 0 - s.1 ≡ 0 = omega arith in
      ap (λ u. cond (nat_lt 0 s.1) (initial_of (wire_at n s.0)) (level n s.0 u)) time
      ∙ ap (cond (nat_lt 0 s.1) (initial_of (wire_at n s.0))) (first_level n ok s.0)
      ∙ cond_same (nat_lt 0 s.1) (initial_of (wire_at n s.0))

  late_shown : (on : ℕ → Bool) (s : ℕ × ℕ) → shown_late n on s 0 ≡ initial_of (wire_at n s.0)
  late_shown on s = ap (λ v. cond (on s.0) v (initial_of (wire_at n s.0))) (late_first s) ∙ cond_same (on s.0) (initial_of (wire_at n s.0))

  -- a copy has no change that comes of one up to time 0
  early : (c : Bool) (s : ℕ × ℕ) (k d : ℕ) → d ≤ s.1 → ((c && late_change n s (0 + 1 + k)) && nat_lt k d) ≡ false
  early c s k d far = elim (cases_lt k d) as (λ _. ((c && late_change n s (0 + 1 + k)) && nat_lt k d) ≡ false) [
    | inl known ↦
        let never : late_change n s (0 + 1 + k) ≡ false = ap (λ b. cond b (change_at n s.0 (0 + 1 + k - s.1)) false) (le-ltb s.1 (0 + 1 + k) (omega (arith, known, far))) in
        ap (λ b. (c && b) && nat_lt k d) never ∙ ap (λ b. b && nat_lt k d) (and_right c false refl)
    | inr past ↦ ap (λ b. (c && late_change n s (0 + 1 + k)) && b) (le-ltb k d past) ∙ and_right (c && late_change n s (0 + 1 + k)) false refl
  ]

  module _ (active on other : ℕ → Bool) (ports : ArePortsOn n active on) (too : ArePortsOn n active other) (numbering : Numbering) (s : NetlistSimulation) (shown : Shows n active on numbering 0 s) where
    abbrev numbers : ℕ
    numbers = length s.bits.simulator.fanout

    some_units : 0 < n.horizon
    some_units = let some = ok.horizon_low in omega (arith, some)

    first_level_same : (w u : ℕ) → u ≤ 0 → shown_level n on w u ≡ shown_level n other w u
    first_level_same w u before =
        let now : u ≡ 0 = omega (arith, before) in
        subst (λ k. shown_level n on w k ≡ shown_level n other w k) (sym now) (first_shown on w ∙ sym (first_shown other w))

    trace_first : (w : ℕ) → is_bit_wire n w ≡ true → IsTrace (shown_level n other w) 0 (wave_at s.bits.simulator.waves w)
    trace_first w narrow =
        same_trace (shown_level n on w) (shown_level n other w) 0 (wave_at s.bits.simulator.waves w) (first_level_same w) (λ u. shown_bit n ok on w u (bit_parts n w narrow).1)
        (shown.bits.traces w narrow)

    copy_first : (x k : ℕ) → k < length s.bits.copies.wheel → IsCopyShown n other numbering 0 s.bits.copies x k
    copy_first x k within =
        let far = later_far numbering.source numbering.before s.bits.copies.next.items shown.numbers.chained x (numbering.before x) refl in
        shown.bits.copies x k within
        ∙ ap bit (early (on (numbering.source x).0) (numbering.source x) k (later_by s.bits.copies.next.items (numbering.before x)) far
        ∙ sym (early (other (numbering.source x).0) (numbering.source x) k (later_by s.bits.copies.next.items (numbering.before x)) far))

    number_first : (x k : ℕ) (v : ℕ × ℕ) (o : Option ℕ) → later_by s.wires.next.items o ≤ v.1 → (is_data n v.0 ≡ true → o ≡ None → v ≡ (x, 0)) →
        ((shown_change n on v (0 + 1 + k) && is_data n v.0) && nat_lt k (shown_ahead n active s.wires.next.items x o))
        ≡ ((shown_change n other v (0 + 1 + k) && is_data n v.0) && nat_lt k (shown_ahead n active s.wires.next.items x o))
    number_first x k v (Some y) far own =
        let d = (copy_at s.wires.next.items y).delay in
        swapped (shown_change n on v (0 + 1 + k)) (is_data n v.0) (nat_lt k d)
        ∙ ap (λ b. b && is_data n v.0) (early (on v.0) v k d far ∙ sym (early (other v.0) v k d far))
        ∙ sym (swapped (shown_change n other v (0 + 1 + k)) (is_data n v.0) (nat_lt k d))
    number_first x k v None far own = elim (cases_Bool (is_data n v.0)) as (λ _.
        ((shown_change n on v (0 + 1 + k) && is_data n v.0) && nat_lt k (shown_delay n active (driver n x))) ≡ ((shown_change n other v (0 + 1 + k) && is_data n v.0) && nat_lt k (shown_delay n active (driver n x)))) [
          | inl wide ↦ subst (λ (v : ℕ × ℕ).
              ((shown_change n on v (0 + 1 + k) && is_data n v.0) && nat_lt k (shown_delay n active (driver n x)))
              ≡ ((shown_change n other v (0 + 1 + k) && is_data n v.0) && nat_lt k (shown_delay n active (driver n x)))) (sym (own wide refl)) (own_first (cases_lt k (shown_delay n active (driver n x))))
          | inr narrow ↦
              no_tests (shown_change n on v (0 + 1 + k)) (is_data n v.0) (nat_lt k (shown_delay n active (driver n x)))
              (shown_change n other v (0 + 1 + k)) (is_data n v.0) (nat_lt k (shown_delay n active (driver n x))) narrow narrow
        ]
      where
        own_first : (k < shown_delay n active (driver n x)) ⊎ (shown_delay n active (driver n x) ≤ k) →
            ((shown_change n on (x, 0) (0 + 1 + k) && is_data n x) && nat_lt k (shown_delay n active (driver n x)))
            ≡ ((shown_change n other (x, 0) (0 + 1 + k) && is_data n x) && nat_lt k (shown_delay n active (driver n x)))
        own_first (inl known) =
            let is = (known_ahead n ok active on ports 0 some_units x k known).is in
            let also = (known_ahead n ok active other too 0 some_units x k known).is in
            ap (λ b. ((b && late_change n (x, 0) (0 + 1 + k)) && is_data n x) && nat_lt k (shown_delay n active (driver n x))) (is ∙ sym also)
        own_first (inr past) =
            either (shown_change n on (x, 0) (0 + 1 + k) && is_data n x) (shown_change n other (x, 0) (0 + 1 + k) && is_data n x) (nat_lt k (shown_delay n active (driver n x)))
            (le-ltb k (shown_delay n active (driver n x)) past)

    change_first : (x k : ℕ) → x < numbers → k < length s.wires.wheel → IsChangeShown n active other numbering s.wires.next.items 0 s.wires.wheel x k
    change_first x k low within =
        shown.wires.changes x k low within
        ∙ ap bit (number_first x k (numbering.source x) (numbering.data_before x)
        (later_far numbering.source numbering.data_before s.wires.next.items shown.wires.chained x (numbering.data_before x) refl) (shown.numbers.with_data x low))

    starting : Shows n active other numbering 0 s
    starting = record {
      numbers = shown.numbers;
      bits = record {
        sound = shown.bits.sound;
        places = shown.bits.places;
        wires = shown.bits.wires;
        idle = shown.bits.idle;
        seats = shown.bits.seats;
        asleep = shown.bits.asleep;
        traces = trace_first;
        room = shown.bits.room;
        events = shown.bits.events;
        copies = copy_first;
      };
      wires = record {
        places = shown.wires.places;
        next = shown.wires.next;
        chained = shown.wires.chained;
        below = shown.wires.below;
        within = shown.wires.within;
        some = shown.wires.some;
        numbered = shown.wires.numbered;
        changes = change_first;
        change_levels = shown.wires.change_levels;
        levels = λ x low. shown.wires.levels x low ∙ late_shown on (numbering.source x) ∙ sym (late_shown other (numbering.source x));
        wires = shown.wires.wires;
        waves = λ w wide. shown.wires.waves w wide ∙ same_wave (shown_level n on w) (shown_level n other w) 0 (first_level_same w);
        over = shown.wires.over;
      };
      modules = shown.modules;
    }

pub starts_show : StartsShow
starts_show n ok active on other ports too numbering s shown = starting n ok active on other ports too numbering s shown

pub starts_are_simulated : StartsAreSimulated
starts_are_simulated n ok active on other ports too s is =
    let some : 0 < n.horizon = let one = ok.horizon_low in omega (arith, one) in
    let found = simulations_show n ok active on ports 0 s some is in
    showing_simulates n ok active other too found.0 0 s some (starts_show n ok active on other ports too found.0 s found.1)

-- ---- parts

same_modules : (homes : List ℕ) (part m : ℕ) (slots : List (Option ModuleRecord)) → slots_at_home homes part m slots ≡ active_slots (λ k. partition_of homes k == part) m slots
same_modules homes part m [] = refl
same_modules homes part m (slot ∷ slots) = ap (λ (rest : List (Option ModuleRecord)). cond (partition_of homes m == part) slot None ∷ rest) (same_modules homes part (m + 1) slots)

same_wires : (n : Circuit) (active : ℕ → Bool) (heard : List Bool) → ((w : ℕ) → is_marked heard w ≡ is_followed active (driver n w)) → (w : ℕ) (slots : List (Option WireRecord)) →
    slots_heard n heard w slots ≡ slots_on n active (λ v. true) w slots
same_wires n active heard marks w [] = refl
same_wires n active heard marks w (slot ∷ slots) =
    ap (λ b. cond b (set_on_slot n.horizon (level n w) slot) slot ∷ slots_heard n heard (w + 1) slots) (marks w)
    ∙ ap (λ (rest : List (Option WireRecord)). slot_on n active w slot ∷ rest) (same_wires n active heard marks (w + 1) slots)

pub regions_are_excerpts : RegionsAreExcerpts
regions_are_excerpts n homes part heard marks =
    ap (λ (wires : List (Option WireRecord)). let seen : Circuit = record n { wires = wires; modules = slots_at_home homes part 0 n.modules } in seen)
    (same_wires n (λ m. partition_of homes m == part) heard marks 0 n.wires)
    ∙ ap (λ (modules : List (Option ModuleRecord)). let seen : Circuit = record n { wires = slots_on n (λ m. partition_of homes m == part) (λ w. true) 0 n.wires; modules = modules } in seen)
    (same_modules homes part 0 n.modules)
