-- What the simulation of a part knows ahead of the wires that another part hears.
use Rattle.std.proofs.Common.{◌≡◌, ◌⊎◌, ℕ, ◌+◌, ◌-◌, ◌<◌, ◌≤◌, Bool, true, false, not, cond, nat_lt, List, [], ◌∷◌, ◌++◌, None, is_some, All, length, slice_index_or, refl, sym, ap, ◌∙◌, arith, subst, inl, inr}
use Rattle.std.specs.Prelude.{◌==◌, ◌&&◌}
use Rattle.std.specs.List.{count_by}
use Rattle.std.proofs.lemmas.Bool.{cases_lt, eq-eqb, eqb-true, and_parts}
use Rattle.std.proofs.lemmas.Bool.Decides.{nat_tests}
use Rattle.std.proofs.lemmas.List.{get_or_past}
use Rattle.std.proofs.lemmas.List.Elements.{All-append}
use Rattle.std.proofs.lemmas.List.Sums.{sum_by-append, sum_by-cons}
use Rattle.mp_records.specs.declared.ids.ModuleId.{ModuleId}
use Rattle.mp_records.specs.Outputs.{delay_of}
use Rattle.mp_netlist.specs.declared.driver.Driver.{Driver}
use Rattle.mp_netlist.specs.declared.driver.Driver.TheVariants.{Nothing, Stimulus, Port}
use Rattle.mp_netlist.specs.Circuit.{Circuit, IsCircuit, Drives, wire_at, module_at, stimulus_at}
use Rattle.mp_netlist.specs.Drivers.{driver, stimulus_driver}
use Rattle.mp_netlist.proofs.DriverLemmas.{finds_ports, finds_only_ports, driven_by}
use Rattle.mp_model.specs.Evaluations.{delay_in}
use Rattle.mp_model.specs.Waves.{level}
use Rattle.mp_modules.specs.automata.Codes.{bit}
use Rattle.mp_kernel.specs.events.Adding.{listed}
use Rattle.mp_simulation.specs.bits.Changes.{change_at}
use Rattle.mp_simulation.specs.bits.Simulators.{slot_at}
use Rattle.mp_simulation.proofs.lemmas.bits.ListedLemmas.{listed_here as listed_at}
use Rattle.mp_simulation.proofs.lemmas.bits.WholeLemmas.{undriven}
use Rattle.mp_kernel.specs.declared.datapath.level_change.LevelChange.{LevelChange}
use Rattle.mp_simulation.specs.declared.units.netlist_simulation.NetlistSimulation.{NetlistSimulation}
use Rattle.mp_simulation.specs.units.DataLevels.{is_data, is_bit_wire, has_data, changes_of}
use Rattle.mp_simulation.specs.units.DataWheels.{data_slot, driver_delay}
use Rattle.mp_simulation.specs.units.NetlistSimulations.{IsSimulated}
use Rattle.mp_simulation.proofs.lemmas.units.KnownLemmas.{toggles, changes, levels}
use Rattle.mp_simulation.proofs.lemmas.units.PresentLemmas.{change_here}
use Rattle.mp_simulation.specs.declared.run.stimuli.StimulusChange.{StimulusChange}
use Rattle.mp_simulation.specs.run.Stimuli.{is_change, IsSetting}
use Rattle.mp_partition.specs.runs.Marks.{is_marked}
use Rattle.mp_partition.specs.regions.Regions.{partition_of, region, slots_heard}
use Rattle.mp_partition.specs.regions.Divisions.{heard_by, IsCrossing, IsDivision}
use Rattle.mp_partition.proofs.lemmas.regions.DivisionLemmas.{divided_apart, divided_closed}
use Rattle.mp_partition.proofs.lemmas.regions.PartLemmas.{IsSeen, region_level}
use Rattle.mp_partition.proofs.lemmas.regions.RegionLemmas.{length_heard, module_here, drives_here, drives_there, drives_home, region_is, has_stimuli}
use Rattle.mp_engine.specs.messages.Messages.{toggles_told, levels_told}
use Rattle.mp_engine.proofs.lemmas.messages.MessageLemmas.{AreToldAt, toggles_all, levels_all, toggles_counted, levels_counted}
use Rattle.mp_engine.proofs.lemmas.messages.CountLemmas.{some_bit}
use Rattle.mp_engine.proofs.lemmas.region_runs.OwnStimuliLemmas.{by_width}

last_true : (a : Bool) → a ≡ (a && true)
last_true true = refl
last_true false = refl

last_false : (a : Bool) → false ≡ (a && false)
last_false true = refl
last_false false = refl

none_last : (a : Bool) → bit (a && false) ≡ 0
none_last true = refl
none_last false = refl

-- of a wire that stands both sorts together are its changes
both_sorts : (c low data_too known : Bool) → low ≡ true → known ≡ true → bit ((c && (low && not data_too)) && known) + bit ((c && data_too) && known) ≡ bit c
both_sorts true true true true l k = refl
both_sorts true true false true l k = refl
both_sorts false true true true l k = refl
both_sorts false true false true l k = refl
both_sorts c false data_too known l k = absurd (let no : ⊥ = cc in no)
both_sorts true true data_too false l k = absurd (let no : ⊥ = cc in no)
both_sorts false true data_too false l k = absurd (let no : ⊥ = cc in no)

no_delay : (n : Circuit) (d : Driver) → ((m p : ℕ) → d ≡ Port (record { 0 = m }) p → ⊥) → driver_delay n d ≡ 0
no_delay n Nothing never = refl
no_delay n Stimulus never = refl
no_delay n (Port m p) never = absurd (never m.0 p refl)

module _ (n : Circuit) (ok : IsCircuit n) (homes wires : List ℕ) (heards : List (List Bool)) (parts : ℕ) (is : IsDivision n homes wires heards parts) (by to t span : ℕ) (s : NetlistSimulation)
    (at : IsSimulated (region n homes by (heard_by heards by)) t s) (delay : ℕ) (crossing : IsCrossing n heards delay) (short : span ≤ delay) (within_horizon : t + 1 + span ≤ n.horizon) where
  abbrev r : Circuit
  r = region n homes by (heard_by heards by)

  form : IsCircuit (region n homes by (heard_by heards by))
  form = region_is n homes by (heard_by heards by) ok (divided_apart n homes wires heards parts by is)

  known_later : (w k : ℕ) → k < span → IsSeen n homes by w → change_at (region n homes by (heard_by heards by)) w (t + 1 + k) ≡ change_at n w (t + 1 + k)
  known_later w k near seen =
      let at_level = λ (u : ℕ) (low : u < n.horizon). region_level n ok homes by (heard_by heards by) (divided_apart n homes wires heards parts by is) (divided_closed n homes wires heards parts by is) w u (inr seen) low in
      ap (λ v. not (v == level (region n homes by (heard_by heards by)) w (t + 1 + k))) (at_level (t + 1 + k - 1) (omega (arith, near, within_horizon)))
      ∙ ap (λ v. not (level n w (t + 1 + k - 1) == v)) (at_level (t + 1 + k) (omega (arith, near, within_horizon)))

  -- nothing is known of a wire that no port drives there
  nothing_known : (w k : ℕ) → w < length (region n homes by (heard_by heards by)).wires → driver_delay (region n homes by (heard_by heards by)) (driver (region n homes by (heard_by heards by)) w) ≡ 0
      → listed w (slot_at s.bits.simulator k) + changes_of w (data_slot s.wires.wheel k) ≡ 0
  nothing_known w k stands none =
      let late : nat_lt k (driver_delay r (driver r w)) ≡ false = grind (arith, nat_tests, none) in
      let one = toggles r form t s at w k ∙ ap (λ b. bit ((change_at r w (t + 1 + k) && is_bit_wire r w) && b)) late ∙ none_last (change_at r w (t + 1 + k) && is_bit_wire r w) in
      let other = changes r form t s at w k stands ∙ ap (λ b. bit ((change_at r w (t + 1 + k) && is_data r w) && b)) late ∙ none_last (change_at r w (t + 1 + k) && is_data r w) in
      omega (arith, one, other)

  all_known : (w k m p : ℕ) → k < span → w < length (region n homes by (heard_by heards by)).wires → partition_of wires w ≡ by → is_marked (heard_by heards to) w ≡ true → Drives n m p w
      → listed w (slot_at s.bits.simulator k) + changes_of w (data_slot s.wires.wheel k) ≡ bit (change_at n w (t + 1 + k))
  all_known w k m p near stands home marked drives =
      let home_m : partition_of homes m ≡ by = sym ((is.at_home m).driven p w drives) ∙ home in
      let here : Drives (region n homes by (heard_by heards by)) m p w = drives_here n homes by (heard_by heards by) m p w home_m drives in
      let driven : driver r w ≡ Port (record { 0 = m }) p = finds_ports r form m p w here in
      let least : delay ≤ delay_of drives.part p = crossing.least to m p w drives marked in
      let slot : delay_in (module_at r m) p ≡ delay_of drives.part p = ap (λ o. delay_in o p) (module_here n homes by (heard_by heards by) m home_m ∙ drives.stands) in
      let slow : driver_delay r (driver r w) ≡ delay_of drives.part p = ap (driver_delay r) driven ∙ slot in
      let soon : nat_lt k (driver_delay r (driver r w)) ≡ true = grind (arith, nat_tests, slow, least, short, near) in
      let low : nat_lt w (length r.wires) ≡ true = grind (arith, nat_tests) in
      let seen : IsSeen n homes by w = λ q x other. ap (partition_of homes) (ok.one_port q x m p w other drives).0 ∙ home_m in
      ap (λ c. c + changes_of w (data_slot s.wires.wheel k)) (toggles r form t s at w k)
      ∙ ap (λ c. bit ((change_at r w (t + 1 + k) && is_bit_wire r w) && nat_lt k (driver_delay r (driver r w))) + c) (changes r form t s at w k stands)
      ∙ both_sorts (change_at r w (t + 1 + k)) (nat_lt w (length r.wires)) (is_data r w) (nat_lt k (driver_delay r (driver r w))) low soon
      ∙ ap bit (known_later w k near seen)

  undriven_here : (w : ℕ) → ((m p : ℕ) → Drives (region n homes by (heard_by heards by)) m p w → ⊥) → driver_delay (region n homes by (heard_by heards by)) (driver (region n homes by (heard_by heards by)) w) ≡ 0
  undriven_here w never = no_delay r (driver r w) (λ m p drives. never m p (finds_only_ports r w p (record { 0 = m }) drives))

  stands_here : (w : ℕ) → is_marked (heard_by heards to) w ≡ true → w < length (region n homes by (heard_by heards by)).wires
  stands_here w marked =
      let some : is_some (wire_at n w) ≡ true = (is.heard to w marked).stands in
      let places = length_heard n (heard_by heards by) 0 n.wires in
      some_within (cases_lt w (length n.wires)) some places
    where
      some_within : (w < length n.wires) ⊎ (length n.wires ≤ w) → is_some (wire_at n w) ≡ true → length (slots_heard n (heard_by heards by) 0 n.wires) ≡ length n.wires → w < length (slots_heard n (heard_by heards by) 0 n.wires)
      some_within (inl low) some places = omega (arith, low, places)
      some_within (inr past) some places = absurd (let none = get_or_past n.wires w None past in let no : ⊥ = cc in no)

  listed_here : (w : ℕ) (here : Bool) → (by == partition_of wires w) ≡ here → listed (partition_of wires w) (by ∷ []) ≡ bit here
  listed_here w here at = sum_by-cons (λ d. cond (d == partition_of wires w) 1 0) by [] ∙ ap (λ b. cond b 1 0 + 0) at ∙ plain here
    where
      plain : (b : Bool) → cond b 1 0 + 0 ≡ bit b
      plain true = refl
      plain false = refl

  none_of : (c : Bool) → 0 ≡ cond c (bit false) 0
  none_of true = refl
  none_of false = refl

  one_of : (c : Bool) → bit c ≡ cond c (bit true) 0
  one_of true = refl
  one_of false = refl

  -- so many units ahead just those wires that are heard are known to change that are at home here
  told_ahead : (w k : ℕ) → k < span → is_marked (heard_by heards to) w ≡ true
      → listed w (slot_at s.bits.simulator k) + changes_of w (data_slot s.wires.wheel k) ≡ cond (change_at n w (t + 1 + k)) (listed (partition_of wires w) (by ∷ [])) 0
  told_ahead w k near marked = at_home (by == partition_of wires w) refl
    where
      at_home : (here : Bool) → (by == partition_of wires w) ≡ here → listed w (slot_at s.bits.simulator k) + changes_of w (data_slot s.wires.wheel k) ≡ cond (change_at n w (t + 1 + k)) (listed (partition_of wires w) (by ∷ [])) 0
      at_home false elsewhere =
          nothing_known w k (stands_here w marked) (undriven_here w (λ m p drives.
          let home = (is.at_home m).driven p w (drives_there n homes by (heard_by heards by) m p w drives) ∙ drives_home n homes by (heard_by heards by) m p w drives in
          let same : (by == partition_of wires w) ≡ true = eq-eqb by (partition_of wires w) (sym home) in
          let no : ⊥ = cc in no))
          ∙ none_of (change_at n w (t + 1 + k))
          ∙ sym (ap (λ l. cond (change_at n w (t + 1 + k)) l 0) (listed_here w false elsewhere))
      at_home true here =
          driven (driven_by n w) ∙ one_of (change_at n w (t + 1 + k)) ∙ sym (ap (λ l. cond (change_at n w (t + 1 + k)) l 0) (listed_here w true here))
        where
          driven : ((m p : ℕ) × Drives n m p w) ⊎ (driver n w ≡ stimulus_driver (stimulus_at n w)) → listed w (slot_at s.bits.simulator k) + changes_of w (data_slot s.wires.wheel k) ≡ bit (change_at n w (t + 1 + k))
          driven (inl found) = all_known w k found.0 found.1 near (stands_here w marked) (sym (eqb-true by (partition_of wires w) here)) marked found.2
          driven (inr none) =
              let nothing : driver n w ≡ Nothing = none ∙ ap stimulus_driver (is.heard to w marked).unset in
              let still : change_at n w (t + 1 + k) ≡ false = undriven n ok w (t + 1 + k) nothing in
              nothing_known w k (stands_here w marked) (undriven_here w (λ m p drives.
              let port = finds_ports n ok m p w (drives_there n homes by (heard_by heards by) m p w drives) in
              let no : ⊥ = cc in no))
              ∙ sym (ap bit still)

  same_data : (w : ℕ) → is_data (region n homes by (heard_by heards by)) w ≡ is_data n w
  same_data w = by_width (wire_at r w) (wire_at n w) ((has_stimuli n homes by (heard_by heards by)).widths w)

  not_of : (a b : Bool) → (a && not b) ≡ true → b ≡ false
  not_of true false all = refl
  not_of true true all = absurd (let no : ⊥ = cc in no)
  not_of false b all = absurd (let no : ⊥ = cc in no)

  -- what toggles has width 1
  toggles_set : (k : ℕ) → All (λ (w : ℕ). is_marked (heard_by heards to) w ≡ true → IsSetting n (record { time = t + 1 + k; wire = w; has_data = false; level = 0 })) (slot_at s.bits.simulator k)
  toggles_set k i d within marked =
      let w = slice_index_or (slot_at s.bits.simulator k) i d in
      let some : 0 < bit ((change_at r w (t + 1 + k) && is_bit_wire r w) && nat_lt k (driver_delay r (driver r w))) =
      subst (λ c. 0 < c) (toggles r form t s at w k) (listed_at (slot_at s.bits.simulator k) i d within) in
      let changes_now = (and_parts (change_at r w (t + 1 + k) && is_bit_wire r w) (nat_lt k (driver_delay r (driver r w))) (some_bit ((change_at r w (t + 1 + k) && is_bit_wire r w) && nat_lt k (driver_delay r (driver r w))) some)).0 in
      let narrow = (and_parts (change_at r w (t + 1 + k)) (is_bit_wire r w) changes_now).1 in
      record {
        sort = sym (sym (same_data w) ∙ not_of (nat_lt w (length r.wires)) (is_data r w) narrow);
        level = λ has. absurd (let no : ⊥ = cc in no);
      }

  known_driver : (d : Driver) (k : ℕ) → nat_lt k (driver_delay (region n homes by (heard_by heards by)) d) ≡ true → (m : ModuleId) × (p : ℕ) × (d ≡ Port m p)
  known_driver Nothing k known = absurd (let no : ⊥ = grind (arith, nat_tests, known) in no)
  known_driver Stimulus k known = absurd (let no : ⊥ = grind (arith, nat_tests, known) in no)
  known_driver (Port m p) k known = (m, p, refl)

  -- what changes with data gets its level
  levels_set : (k : ℕ) → k < span → All (λ (c : LevelChange). is_marked (heard_by heards to) c.number ≡ true → IsSetting n (record { time = t + 1 + k; wire = c.number; has_data = true; level = c.level })) (data_slot s.wires.wheel k)
  levels_set k near i d within marked =
      let c = slice_index_or (data_slot s.wires.wheel k) i d in
      let w = c.number in
      let some : 0 < bit ((change_at r w (t + 1 + k) && is_data r w) && nat_lt k (driver_delay r (driver r w))) =
      subst (λ j. 0 < j) (changes r form t s at w k (stands_here w marked)) (change_here (data_slot s.wires.wheel k) i d within) in
      let parts_are = and_parts (change_at r w (t + 1 + k) && is_data r w) (nat_lt k (driver_delay r (driver r w))) (some_bit ((change_at r w (t + 1 + k) && is_data r w) && nat_lt k (driver_delay r (driver r w))) some) in
      let wide = (and_parts (change_at r w (t + 1 + k)) (is_data r w) parts_are.0).1 in
      let port = known_driver (driver r w) k parts_are.1 in
      let drives = finds_only_ports r w port.1 port.0 port.2 in
      let there = drives_there n homes by (heard_by heards by) port.0.0 port.1 w drives in
      let home = drives_home n homes by (heard_by heards by) port.0.0 port.1 w drives in
      let seen : IsSeen n homes by w = λ q x other. ap (partition_of homes) (ok.one_port q x port.0.0 port.1 w other there).0 ∙ home in
      record {
        sort = sym (sym (same_data w) ∙ wide);
        level = λ has. levels r form t s at k i d within wide
            ∙ region_level n ok homes by (heard_by heards by) (divided_apart n homes wires heards parts by is) (divided_closed n homes wires heards parts by is) w (t + 1 + k) (inr seen) (omega (arith, near, within_horizon));
      }

  -- what a message tells of a unit
  pub told_then : (k time : ℕ) → time ≡ t + 1 + k → k < span →
      AreToldAt n wires (heard_by heards to) (by ∷ []) time (toggles_told (heard_by heards to) time (slot_at s.bits.simulator k) ++ levels_told (heard_by heards to) time (data_slot s.wires.wheel k))
  told_then k time is_then near =
      subst (λ u. AreToldAt n wires (heard_by heards to) (by ∷ []) u (toggles_told (heard_by heards to) u (slot_at s.bits.simulator k) ++ levels_told (heard_by heards to) u (data_slot s.wires.wheel k))) (sym is_then) (record {
        now = both_all (λ (x : StimulusChange). x.time ≡ t + 1 + k) (λ i d within marked. refl) (λ i d within marked. refl);
        heard_alone = both_all (λ (x : StimulusChange). is_marked (heard_by heards to) x.wire ≡ true) (λ i d within marked. marked) (λ i d within marked. marked);
        each = λ w.
            sum_by-append (λ (x : StimulusChange). cond (is_change w (t + 1 + k) x) 1 0) (toggles_told (heard_by heards to) (t + 1 + k) (slot_at s.bits.simulator k)) (levels_told (heard_by heards to) (t + 1 + k) (data_slot s.wires.wheel k))
            ∙ ap (λ j. j + count_by (is_change w (t + 1 + k)) (levels_told (heard_by heards to) (t + 1 + k) (data_slot s.wires.wheel k))) (toggles_counted (heard_by heards to) w (t + 1 + k) (slot_at s.bits.simulator k))
            ∙ ap (λ j. cond (is_marked (heard_by heards to) w) (listed w (slot_at s.bits.simulator k)) 0 + j) (levels_counted (heard_by heards to) w (t + 1 + k) (data_slot s.wires.wheel k))
            ∙ by_mark w (is_marked (heard_by heards to) w) refl;
        set = both_all (IsSetting n) (toggles_set k) (levels_set k near);
      })
    where
      both_all : (P : StimulusChange → Type 0)
          → All (λ (w : ℕ). is_marked (heard_by heards to) w ≡ true → P (record { time = t + 1 + k; wire = w; has_data = false; level = 0 })) (slot_at s.bits.simulator k)
          → All (λ (c : LevelChange). is_marked (heard_by heards to) c.number ≡ true → P (record { time = t + 1 + k; wire = c.number; has_data = true; level = c.level })) (data_slot s.wires.wheel k)
          → All P (toggles_told (heard_by heards to) (t + 1 + k) (slot_at s.bits.simulator k) ++ levels_told (heard_by heards to) (t + 1 + k) (data_slot s.wires.wheel k))
      both_all P ones twos =
          All-append P (toggles_told (heard_by heards to) (t + 1 + k) (slot_at s.bits.simulator k)) (levels_told (heard_by heards to) (t + 1 + k) (data_slot s.wires.wheel k))
          (toggles_all P (heard_by heards to) (t + 1 + k) (slot_at s.bits.simulator k) ones) (levels_all P (heard_by heards to) (t + 1 + k) (data_slot s.wires.wheel k) twos)

      by_mark : (w : ℕ) (mark : Bool) → is_marked (heard_by heards to) w ≡ mark
          → cond mark (listed w (slot_at s.bits.simulator k)) 0 + cond mark (changes_of w (data_slot s.wires.wheel k)) 0 ≡ cond (change_at n w (t + 1 + k) && mark) (listed (partition_of wires w) (by ∷ [])) 0
      by_mark w true marked = told_ahead w k near marked ∙ ap (λ b. cond b (listed (partition_of wires w) (by ∷ [])) 0) (last_true (change_at n w (t + 1 + k)))
      by_mark w false marked = ap (λ b. cond b (listed (partition_of wires w) (by ∷ [])) 0) (last_false (change_at n w (t + 1 + k)))
