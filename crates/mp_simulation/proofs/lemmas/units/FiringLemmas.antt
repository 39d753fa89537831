-- Modules with data fire: their states are those of the next unit, and the wheels get what their outputs change.
use Rattle.std.proofs.Common.{◌≡◌, ◌≢◌, ℕ, ◌+◌, ◌-◌, ◌<◌, ◌≤◌, Bool, true, false, not, cond, List, [], Option, Some, None, option_map, All, length, map, refl, sym, ap, ◌∙◌, arith, subst}
use Rattle.std.specs.Prelude.{◌==◌, ◌&&◌, slice_index, slice_index_or, is_some}
use Rattle.std.specs.List.{count_by, sum_by}
use Rattle.std.proofs.lemmas.Bool.{eqb-true}
use Rattle.std.proofs.lemmas.List.{get_or_default}
use Rattle.std.proofs.lemmas.List.Elements.{All-nil, All-cons}
use Rattle.mp_modules.specs.declared.memory.Memory.{Memory}
use Rattle.mp_modules.specs.Memories.{output_of}
use Rattle.mp_modules.specs.Quiet.{unchanged}
use Rattle.mp_records.specs.declared.ids.WireId.{WireId}
use Rattle.mp_records.specs.declared.ids.ModuleId.{ModuleId}
use Rattle.mp_records.specs.declared.module_record.ModuleRecord.{ModuleRecord}
use Rattle.mp_records.specs.Outputs.{output_at, delay_of}
use Rattle.mp_netlist.specs.declared.driver.Driver.TheVariants.{Port}
use Rattle.mp_netlist.specs.Circuit.{Circuit, IsCircuit, module_at, Drives}
use Rattle.mp_netlist.specs.Drivers.{driver}
use Rattle.mp_netlist.proofs.DriverLemmas.{finds_ports, finds_only_ports}
use Rattle.mp_model.specs.Waves.{state}
use Rattle.mp_modules.specs.automata.BitModules.{toggles_between}
use Rattle.mp_modules.specs.automata.Codes.{bit}
use Rattle.mp_kernel.specs.declared.events.fanout_entry.FanoutEntry.{FanoutEntry}
use Rattle.mp_kernel.specs.declared.events.output_port.OutputPort.{OutputPort}
use Rattle.mp_kernel.specs.declared.events.output_ports.OutputPorts.{OutputPorts}
use Rattle.mp_kernel.specs.events.Adding.{listed}
use Rattle.mp_kernel.specs.events.Ports.{HasPorts}
use Rattle.mp_kernel.specs.events.Firing.{HasSlot, HaveSlots, no_port, fired_at, is_entry}
use Rattle.mp_simulation.specs.bits.Changes.{change_at, late_change}
use Rattle.mp_simulation.specs.bits.PortEvents.{source_of}
use Rattle.mp_simulation.specs.bits.Schedules.{number_of, output_port_of}
use Rattle.mp_simulation.specs.bits.Scopes.{Scope}
use Rattle.mp_simulation.specs.bits.Simulators.{AreOnlyDue}
use Rattle.mp_simulation.proofs.lemmas.bits.ChangeLemmas.{ports_change, reached}
use Rattle.mp_simulation.proofs.lemmas.bits.ScheduleLemmas.{few_ports, same_part, toggle_between, counted_flat as events_flat}
use Rattle.mp_kernel.specs.declared.datapath.level_change.LevelChange.{LevelChange}
use Rattle.mp_kernel.specs.declared.datapath.data_ports.DataPorts.{DataPorts}
use Rattle.mp_kernel.specs.declared.datapath.data_module.DataModule.{DataModule}
use Rattle.mp_modules.specs.declared.storage.output_levels.OutputLevels.{OutputLevels}
use Rattle.mp_modules.specs.storage.DataParts.{any_part, outputs_in}
use Rattle.mp_kernel.specs.datapath.LevelWheels.{entry_at as level_entry_at, entry_if as level_entry_if}
use Rattle.mp_kernel.specs.datapath.DataModules.{CanFire, stepped, outputs_after, differing}
use Rattle.mp_kernel.specs.datapath.DataFiring.{place_at, module_at as data_module_at, no_module, ArePlaced, HasKept, HaveStepped, events_in, changes_in, fired_by, changed_by}
use Rattle.mp_simulation.specs.declared.units.data_modules.DataModules.{DataModules}
use Rattle.mp_simulation.specs.units.DataLevels.{is_data, late_level, IsLevelAt}
use Rattle.mp_simulation.specs.units.DataSeats.{drives_data, bit_ports_of, level_port_of, number_at, AreDataModules}
use Rattle.mp_simulation.proofs.lemmas.units.LateLemmas.{own_level}
use Rattle.mp_simulation.proofs.lemmas.units.LevelWheelLemmas.{is_change, counted_flat, HoldsOf}
use Rattle.mp_simulation.proofs.lemmas.units.LevelCopyLemmas.{sum_zero, all_flat}
use Rattle.mp_simulation.proofs.lemmas.units.StepLemmas.{steps, rests}
use Rattle.mp_simulation.proofs.lemmas.units.FiredLemmas.{both, bits_none, bits_own, bits_data, level_none, level_own, one_place}

pub some_is : (o : Option ℕ) → is_some o ≡ true → (k : ℕ) × (o ≡ Some k)
some_is None is = absurd (both (is_some (let none : Option ℕ = None in none)) is refl)
some_is (Some k) is = (k, refl)

one_bit : (c b : Bool) → c ≡ false → bit (c && b) ≡ 0
one_bit c b is = ap (λ e. bit (e && b)) is

-- where the states are the same, no output changes
same_output : (s u : Memory) (p : ℕ) → u ≡ s → not (output_of s p == output_of u p) ≡ false
same_output s u p is = ap (λ (k : Memory). not (output_of s p == output_of k p)) is ∙ unchanged (output_of s p)

abbrev option_number : Option WireId → Option ℕ
option_number o = option_map number_of o

eqb_zero : (k : ℕ) → (k == 0) ≡ true → k ≡ 0
eqb_zero k is = eqb-true k 0 is

module _ (n : Circuit) (ok : IsCircuit n) (scope : Scope) (numbers places events changes t : ℕ) (s : DataModules) (are : AreDataModules n scope numbers places events changes t s)
    (levels : List ℕ) (right : (x : ℕ) → x < numbers → slice_index levels x ≡ late_level n (scope.source x) (t + 1))
    (rows : List (List FanoutEntry)) (ports : (q : ℕ) → HasPorts rows q (scope.inputs q)) (heard due : List ℕ)
    (each : (x : ℕ) → x < numbers → listed x heard ≡ bit (late_change n (scope.source x) (t + 1))) (only : AreOnlyDue rows heard due) (once : (q : ℕ) → listed q due ≤ 1) where
  after_is : (q k : ℕ) → place_at s.places.items q ≡ Some k → outputs_after levels (data_module_at s.modules.items k) ≡ outputs_in (state n q (t + 1))
  after_is q k at =
      let seat = are.seats q k at in
      steps n ok q t seat.record_of seat.stands scope.source (scope.inputs q) seat.sources (data_module_at s.modules.items k) numbers levels seat.does seat.outputs seat.reads seat.low right

  pub idle_stays : (q k : ℕ) → place_at s.places.items q ≡ Some k → listed q due ≡ 0 → state n q (t + 1) ≡ state n q t
  idle_stays q k at idle =
      let seat = are.seats q k at in
      rests n ok q t seat.record_of seat.stands scope.source (scope.inputs q) seat.sources rows heard due (ports q)
      (λ j d within. each (slice_index_or (scope.inputs q) j d) (seat.low j d within)) only idle

  -- ---- events of wires of width 1

  events_are : (q k : ℕ) (at : place_at s.places.items q ≡ Some k) →
      events_in levels s.modules.items (place_at s.places.items q) ≡ fired_at (bit_ports_of n (are.seats q k at).record_of) (toggles_between (state n q t) (state n q (t + 1)))
  events_are q k at =
      let seat = are.seats q k at in
      let m = data_module_at s.modules.items k in
      ap (events_in levels s.modules.items) at
      ∙ ap (λ (o : OutputPorts). fired_at o (differing m.outputs (outputs_after levels m))) seat.bits
      ∙ ap (λ (x : OutputLevels). fired_at (bit_ports_of n seat.record_of) (differing x (outputs_after levels m))) seat.outputs
      ∙ ap (λ (x : OutputLevels). fired_at (bit_ports_of n seat.record_of) (differing (outputs_in (state n q t)) x)) (after_is q k at)

  abbrev events_at : ℕ → ℕ → ℕ → ℕ
  events_at k w q = count_by (is_entry k w) (events_in levels s.modules.items (place_at s.places.items q))

  -- where no module with data at a place has an output at the wire
  none_at : (k w q : ℕ) (o : Option ℕ) → place_at s.places.items q ≡ o → ((j p : ℕ) → place_at s.places.items q ≡ Some j → Drives n q p w → ⊥) → events_at k w q ≡ 0
  none_at k w q None at never = ap (λ (o : Option ℕ). count_by (is_entry k w) (events_in levels s.modules.items o)) at
  none_at k w q (Some j) at never =
      let seat = are.seats q j at in
      ap (λ xs. count_by (is_entry k w) xs) (events_are q j at)
      ∙ bits_none n seat.record_of (toggles_between (state n q t) (state n q (t + 1))) k w
      (λ p wire. never j p at (record { part = seat.record_of; stands = seat.stands; output = wire }))

  data_at : (k w q : ℕ) (o : Option ℕ) → place_at s.places.items q ≡ o → is_data n w ≡ true → events_at k w q ≡ 0
  data_at k w q None at wide = ap (λ (o : Option ℕ). count_by (is_entry k w) (events_in levels s.modules.items o)) at
  data_at k w q (Some j) at wide =
      let seat = are.seats q j at in
      ap (λ xs. count_by (is_entry k w) xs) (events_are q j at) ∙ bits_data n seat.record_of (toggles_between (state n q t) (state n q (t + 1))) k w wide

  counted : (k w : ℕ) → count_by (is_entry k w) (fired_by levels s.places.items s.modules.items due) ≡ sum_by (events_at k w) due
  counted k w = events_flat k w (λ q. events_in levels s.modules.items (place_at s.places.items q)) due

  pub events_none : (k w : ℕ) → ((q j p : ℕ) → place_at s.places.items q ≡ Some j → Drives n q p w → ⊥) → count_by (is_entry k w) (fired_by levels s.places.items s.modules.items due) ≡ 0
  events_none k w never = counted k w ∙ sum_zero (events_at k w) due (λ q. none_at k w q (place_at s.places.items q) refl (never q))

  pub events_data : (k w : ℕ) → is_data n w ≡ true → count_by (is_entry k w) (fired_by levels s.places.items s.modules.items due) ≡ 0
  events_data k w wide = counted k w ∙ sum_zero (events_at k w) due (λ q. data_at k w q (place_at s.places.items q) refl wide)

  pub events_driven : (k w p j : ℕ) (m : ModuleId) (r : ModuleRecord) → driver n w ≡ Port m p → module_at n m.0 ≡ Some r → place_at s.places.items m.0 ≡ Some j → is_data n w ≡ false →
      0 < delay_of r p → count_by (is_entry k w) (fired_by levels s.places.items s.modules.items due) ≡ bit (change_at n w (t + 1 + delay_of r p) && (delay_of r p - 1 == k))
  events_driven k w p j m r drives stands at narrow some =
      let q = m.0 in
      let seat = are.seats m.0 j at in
      let own_part : seat.record_of ≡ r = same_part n m.0 seat.record_of r seat.stands stands in
      let drv = finds_only_ports n w p m drives in
      let wire : (output_at r p).wire ≡ Some (record { 0 = w }) =
      subst (λ (x : ModuleRecord). (output_at x p).wire ≡ Some (record { 0 = w })) (same_part n m.0 drv.part r drv.stands stands) drv.output in
      let low = few_ports n ok m.0 p w r stands wire in
      let others : (i : ℕ) → i ≢ p → (output_at r i).wire ≡ Some (record { 0 = w }) → ⊥ =
      λ i other e. other (ok.one_port m.0 i m.0 p w (record { part = r; stands = stands; output = e }) drv).1 in
      let change : not (output_of (state n m.0 t) p == output_of (state n m.0 (t + 1)) p) ≡ change_at n w (t + 1 + delay_of r p) = sym (ports_change n ok w p t m r drives stands some) in
      let own : events_at k w m.0 ≡ bit (change_at n w (t + 1 + delay_of r p) && (delay_of r p - 1 == k)) =
      ap (λ xs. count_by (is_entry k w) xs) (events_are m.0 j at)
      ∙ ap (λ (x : ModuleRecord). count_by (is_entry k w) (fired_at (bit_ports_of n x) (toggles_between (state n m.0 t) (state n m.0 (t + 1))))) own_part
      ∙ bits_own p low n r (toggles_between (state n m.0 t) (state n m.0 (t + 1))) k w wire narrow others
      ∙ ap (λ b. bit (b && (delay_of r p - 1 == k))) (toggle_between p low (state n m.0 t) (state n m.0 (t + 1)) ∙ change) in
      let elsewhere : All (λ x. x ≢ q → events_at k w x ≡ 0) due =
      λ i d within other. none_at k w (slice_index_or due i d) (place_at s.places.items (slice_index_or due i d)) refl
      (λ j2 p2 at2 drv2. other (ok.one_port (slice_index_or due i d) p2 m.0 p w drv2 drv).0) in
      counted k w
      ∙ one_place (events_at k w) m.0 due (once m.0) elsewhere
      (λ idle. own ∙ one_bit (change_at n w (t + 1 + delay_of r p)) (delay_of r p - 1 == k) (sym change ∙ same_output (state n m.0 t) (state n m.0 (t + 1)) p (idle_stays m.0 j at idle)))
      ∙ own

  -- ---- changes of wires with data

  changes_are : (q k : ℕ) (at : place_at s.places.items q ≡ Some k) →
      changes_in levels s.modules.items (place_at s.places.items q) ≡
      level_entry_if (not (output_of (state n q t) 0 == output_of (state n q (t + 1)) 0)) (level_port_of n (are.seats q k at).record_of) (output_of (state n q (t + 1)) 0)
  changes_are q k at =
      let seat = are.seats q k at in
      let m = data_module_at s.modules.items k in
      ap (changes_in levels s.modules.items) at
      ∙ ap (λ (o : OutputPort). level_entry_if (not (m.outputs.first == (outputs_after levels m).first)) o (outputs_after levels m).first) seat.level
      ∙ ap (λ (x : OutputLevels). level_entry_if (not (x.first == (outputs_after levels m).first)) (level_port_of n seat.record_of) (outputs_after levels m).first) seat.outputs
      ∙ ap (λ (x : OutputLevels). level_entry_if (not (output_of (state n q t) 0 == x.first)) (level_port_of n seat.record_of) x.first) (after_is q k at)

  abbrev changes_at : ℕ → ℕ → ℕ → ℕ
  changes_at k x q = count_by (is_change k x) (changes_in levels s.modules.items (place_at s.places.items q))

  no_change_at : (k x q : ℕ) (o : Option ℕ) → place_at s.places.items q ≡ o → (Drives n q 0 x → is_data n x ≡ true → ⊥) → changes_at k x q ≡ 0
  no_change_at k x q None at never = ap (λ (o : Option ℕ). count_by (is_change k x) (changes_in levels s.modules.items o)) at
  no_change_at k x q (Some j) at never =
      let seat = are.seats q j at in
      ap (λ (es : List (ℕ × LevelChange)). count_by (is_change k x) es) (changes_are q j at)
      ∙ level_none n seat.record_of k x (output_of (state n q (t + 1)) 0) (not (output_of (state n q t) 0 == output_of (state n q (t + 1)) 0))
      (λ wire wide. never (record { part = seat.record_of; stands = seat.stands; output = wire }) wide)

  all_counted : (k x : ℕ) → count_by (is_change k x) (changed_by levels s.places.items s.modules.items due) ≡ sum_by (changes_at k x) due
  all_counted k x = counted_flat k x (λ q. changes_in levels s.modules.items (place_at s.places.items q)) due

  pub changes_none : (k x : ℕ) → ((m : ModuleId) (p : ℕ) → driver n x ≡ Port m p → is_data n x ≡ true → ⊥) → count_by (is_change k x) (changed_by levels s.places.items s.modules.items due) ≡ 0
  changes_none k x never =
      all_counted k x
      ∙ sum_zero (changes_at k x) due
      (λ q. no_change_at k x q (place_at s.places.items q) refl (λ drv wide. never (record { 0 = q }) 0 (finds_ports n ok q 0 x drv) wide))

  pub changes_driven : (k x p j : ℕ) (m : ModuleId) (r : ModuleRecord) → driver n x ≡ Port m p → module_at n m.0 ≡ Some r → place_at s.places.items m.0 ≡ Some j → is_data n x ≡ true →
      0 < delay_of r p → count_by (is_change k x) (changed_by levels s.places.items s.modules.items due) ≡ bit (change_at n x (t + 1 + delay_of r p) && (delay_of r p - 1 == k))
  changes_driven k x p j m r drives stands at wide some =
      let q = m.0 in
      let seat = are.seats m.0 j at in
      let own_part : seat.record_of ≡ r = same_part n m.0 seat.record_of r seat.stands stands in
      let drv = finds_only_ports n x p m drives in
      let first : p ≡ 0 = seat.first x p drv wide in
      let wire : (output_at r p).wire ≡ Some (record { 0 = x }) =
      subst (λ (y : ModuleRecord). (output_at y p).wire ≡ Some (record { 0 = x })) (same_part n m.0 drv.part r drv.stands stands) drv.output in
      let first_wire : (output_at r 0).wire ≡ Some (record { 0 = x }) = subst (λ i. (output_at r i).wire ≡ Some (record { 0 = x })) first wire in
      let change : not (output_of (state n m.0 t) p == output_of (state n m.0 (t + 1)) p) ≡ change_at n x (t + 1 + delay_of r p) = sym (ports_change n ok x p t m r drives stands some) in
      let own : changes_at k x m.0 ≡ bit (change_at n x (t + 1 + delay_of r p) && (delay_of r p - 1 == k)) =
      ap (λ (es : List (ℕ × LevelChange)). count_by (is_change k x) es) (changes_are m.0 j at)
      ∙ ap (λ (y : ModuleRecord). count_by (is_change k x) (level_entry_if (not (output_of (state n m.0 t) 0 == output_of (state n m.0 (t + 1)) 0)) (level_port_of n y) (output_of (state n m.0 (t + 1)) 0))) own_part
      ∙ level_own n r k x (output_of (state n m.0 (t + 1)) 0) (not (output_of (state n m.0 t) 0 == output_of (state n m.0 (t + 1)) 0)) first_wire wide
      ∙ ap (λ i. bit (not (output_of (state n m.0 t) i == output_of (state n m.0 (t + 1)) i) && (delay_of r i - 1 == k))) (sym first)
      ∙ ap (λ b. bit (b && (delay_of r p - 1 == k))) change in
      let elsewhere : All (λ y. y ≢ q → changes_at k x y ≡ 0) due =
      λ i d within other. no_change_at k x (slice_index_or due i d) (place_at s.places.items (slice_index_or due i d)) refl
      (λ drv2 wide2. other (ok.one_port (slice_index_or due i d) 0 m.0 p x drv2 drv).0) in
      all_counted k x
      ∙ one_place (changes_at k x) m.0 due (once m.0) elsewhere
      (λ idle. own ∙ one_bit (change_at n x (t + 1 + delay_of r p)) (delay_of r p - 1 == k) (sym change ∙ same_output (state n m.0 t) (state n m.0 (t + 1)) p (idle_stays m.0 j at idle)))
      ∙ own

  entry_holds : (P : ℕ → LevelChange → Type 0) (q j : ℕ) (at : place_at s.places.items q ≡ Some j) (o : Option WireId) → (output_at (are.seats q j at).record_of 0).wire ≡ o → drives_data n o ≡ true →
      ((w : ℕ) → Drives n q 0 w → is_data n w ≡ true → P (delay_of (are.seats q j at).record_of 0 - 1) (record { number = w; level = output_of (state n q (t + 1)) 0 })) →
      All (HoldsOf P) (level_entry_at (option_number o) (delay_of (are.seats q j at).record_of 0) (output_of (state n q (t + 1)) 0))
  entry_holds P q j at None is wide holds = absurd (both (drives_data n (let none : Option WireId = None in none)) wide refl)
  entry_holds P q j at (Some w) is wide holds =
      let seat = are.seats q j at in
      let drv : Drives n q 0 w.0 = record { part = seat.record_of; stands = seat.stands; output = is } in
      All-cons (HoldsOf P) (delay_of seat.record_of 0 - 1, record { number = w.0; level = output_of (state n q (t + 1)) 0 }) [] (holds w.0 drv wide) (All-nil (HoldsOf P))

  entries_hold : (P : ℕ → LevelChange → Type 0) (q j : ℕ) (at : place_at s.places.items q ≡ Some j) (b is_wide : Bool) → drives_data n (output_at (are.seats q j at).record_of 0).wire ≡ is_wide →
      ((w : ℕ) → Drives n q 0 w → is_data n w ≡ true → P (delay_of (are.seats q j at).record_of 0 - 1) (record { number = w; level = output_of (state n q (t + 1)) 0 })) →
      All (HoldsOf P) (level_entry_if b (cond is_wide (output_port_of (output_at (are.seats q j at).record_of 0)) no_port) (output_of (state n q (t + 1)) 0))
  entries_hold P q j at false is_wide is holds = All-nil (HoldsOf P)
  entries_hold P q j at true false is holds = All-nil (HoldsOf P)
  entries_hold P q j at true true is holds = entry_holds P q j at (output_at (are.seats q j at).record_of 0).wire refl is holds

  place_holds : (P : ℕ → LevelChange → Type 0) → ((q w : ℕ) (r : ModuleRecord) → module_at n q ≡ Some r → Drives n q 0 w → is_data n w ≡ true →
      P (delay_of r 0 - 1) (record { number = w; level = output_of (state n q (t + 1)) 0 })) → (q : ℕ) (o : Option ℕ) → place_at s.places.items q ≡ o →
      All (HoldsOf P) (changes_in levels s.modules.items (place_at s.places.items q))
  place_holds P holds q None at = subst (λ (x : Option ℕ). All (HoldsOf P) (changes_in levels s.modules.items x)) (sym at) (All-nil (HoldsOf P))
  place_holds P holds q (Some j) at =
      let seat = are.seats q j at in
      subst (λ (es : List (ℕ × LevelChange)). All (HoldsOf P) es) (sym (changes_are q j at))
      (entries_hold P q j at (not (output_of (state n q t) 0 == output_of (state n q (t + 1)) 0)) (drives_data n (output_at seat.record_of 0).wire) refl
      (λ w drv wide. holds q w seat.record_of seat.stands drv wide))

  -- what holds of each change that modules with data make
  pub changes_hold : (P : ℕ → LevelChange → Type 0) → ((q w : ℕ) (r : ModuleRecord) → module_at n q ≡ Some r → Drives n q 0 w → is_data n w ≡ true →
      P (delay_of r 0 - 1) (record { number = w; level = output_of (state n q (t + 1)) 0 })) → All (HoldsOf P) (changed_by levels s.places.items s.modules.items due)
  changes_hold P holds =
      all_flat (HoldsOf P) (λ q. changes_in levels s.modules.items (place_at s.places.items q)) (λ q. q ≡ q) due
      (λ q same. place_holds P holds q (place_at s.places.items q) refl) (λ k d within. refl)

  pub changed_levels : ((w : ℕ) → is_data n w ≡ true → scope.source w ≡ (w, 0)) → ((q : ℕ) (r : ModuleRecord) → module_at n q ≡ Some r → 0 < delay_of r 0) →
      All (HoldsOf (λ k. IsLevelAt n scope.source (t + 1 + 1 + k))) (changed_by levels s.places.items s.modules.items due)
  changed_levels wires positive =
      changes_hold (λ k. IsLevelAt n scope.source (t + 1 + 1 + k))
      (λ q w r stands drv wide.
      let d = delay_of r 0 in
      let some : 0 < delay_of r 0 = positive q r stands in
      let time : t + 1 + 1 + (d - 1) ≡ t + 1 + d = omega arith in
      sym (ap (λ u. late_level n (scope.source w) u) time
      ∙ ap (λ (x : ℕ × ℕ). late_level n x (t + 1 + d)) (wires w wide)
      ∙ own_level n w (t + 1 + d)
      ∙ reached n ok w 0 d (t + 1) (record { 0 = q }) r (finds_ports n ok q 0 w drv) stands refl))

  -- ---- states

  outputs_when : (q k : ℕ) (new : DataModule) (idle : Bool) → place_at s.places.items q ≡ Some k → (listed q due == 0) ≡ idle →
      new ≡ cond idle (data_module_at s.modules.items k) (stepped levels (data_module_at s.modules.items k)) → new.outputs ≡ outputs_in (state n q (t + 1))
  outputs_when q k new true at is same =
      ap (λ (m : DataModule). m.outputs) same ∙ (are.seats q k at).outputs ∙ ap outputs_in (sym (idle_stays q k at (eqb_zero (listed q due) is)))
  outputs_when q k new false at is same = ap (λ (m : DataModule). m.outputs) same ∙ after_is q k at

  can_fire : (new : DataModule) (old : DataModule) → HasKept old new → CanFire numbers events changes old → CanFire numbers events changes new
  can_fire new old kept was = record {
    reads = subst (λ (xs : List (Option ℕ)). (p x : ℕ) → slice_index_or xs p None ≡ Some x → x < numbers) (sym kept.inputs) was.reads;
    bits = subst (λ (o : DataPorts). HaveSlots events o.bits) (sym kept.ports) was.bits;
    level = subst (λ (o : DataPorts). HasSlot changes o.level) (sym kept.ports) was.level;
  }

  pub stepped_next : (later : Scope) (new : DataModules) → later.place ≡ scope.place → later.source ≡ scope.source → later.inputs ≡ scope.inputs → new.places.items ≡ s.places.items →
      HaveStepped levels s.places.items due s.modules.items new.modules.items → AreDataModules n later numbers places events changes (t + 1) new
  stepped_next later new same_place same_source same_inputs same have = record {
    long = ap (length {A = Option ℕ}) same ∙ are.long;
    placed = subst (λ (xs : List (Option ℕ)). ArePlaced xs (length new.modules.items)) (sym same) (subst (λ k. ArePlaced s.places.items k) (sym have.placed) are.placed);
    fit = λ k d within.
        let long = have.placed in
        let was : CanFire numbers events changes (data_module_at s.modules.items k) = are.fit k no_module (omega arith) in
        subst (CanFire numbers events changes) (get_or_default new.modules.items k no_module d within)
        (can_fire (data_module_at new.modules.items k) (data_module_at s.modules.items k) (have.kept k) was);
    seats = λ q k here.
        let at : place_at s.places.items q ≡ Some k = sym (ap (λ (xs : List (Option ℕ)). place_at xs q) same) ∙ here in
        let seat = are.seats q k at in
        let kept = have.kept k in
        record {
          record_of = seat.record_of;
          stands = seat.stands;
          inactive = ap (λ (f : ℕ → Option ℕ). f q) same_place ∙ seat.inactive;
          does = ap any_part kept.part ∙ seat.does;
          outputs = outputs_when q k (data_module_at new.modules.items k) (listed q due == 0) at refl (have.fired q k at);
          sources = subst (λ (f : ℕ → ℕ × ℕ). map f (later.inputs q) ≡ map source_of seat.record_of.inputs) (sym same_source)
              (subst (λ (f : ℕ → List ℕ). map scope.source (f q) ≡ map source_of seat.record_of.inputs) (sym same_inputs) seat.sources);
          reads = λ p. ap (λ (xs : List (Option ℕ)). slice_index_or xs p None) kept.inputs ∙ seat.reads p ∙ sym (ap (λ (f : ℕ → List ℕ). number_at (f q) p) same_inputs);
          low = subst (λ (f : ℕ → List ℕ). All (λ x. x < numbers) (f q)) (sym same_inputs) seat.low;
          bits = ap (λ (o : DataPorts). o.bits) kept.ports ∙ seat.bits;
          level = ap (λ (o : DataPorts). o.level) kept.ports ∙ seat.level;
          first = seat.first;
          fit = can_fire (data_module_at new.modules.items k) (data_module_at s.modules.items k) kept seat.fit;
        };
    whole = λ m r stands none.
        ap (λ (xs : List (Option ℕ)). is_some (place_at xs m)) same ∙ are.whole m r stands (sym (ap (λ (f : ℕ → Option ℕ). f m) same_place) ∙ none);
  }
