-- What is heard in a unit: wires of width 1, their copies, and what changes of wires with data and their copies.
use Rattle.std.proofs.Common.{◌≡◌, ℕ, ◌+◌, ◌<◌, ◌≤◌, Bool, true, false, not, nat_lt, List, ◌++◌, Option, Some, None, All, length, map, refl, sym, ap, ◌∙◌, arith}
use Rattle.std.specs.Prelude.{◌&&◌, ◌||◌, slice_index_or, is_some}
use Rattle.std.proofs.lemmas.Bool.Decides.{nat_tests}
use Rattle.std.proofs.lemmas.List.Elements.{All-append, All-map}
use Rattle.mp_records.specs.declared.ids.ModuleId.{ModuleId}
use Rattle.mp_netlist.specs.declared.driver.Driver.TheVariants.{Port}
use Rattle.mp_netlist.specs.Circuit.{Circuit, IsCircuit}
use Rattle.mp_netlist.specs.Drivers.{driver}
use Rattle.mp_model.proofs.EvaluationLemmas.{delay_positive}
use Rattle.mp_modules.specs.automata.Codes.{bit}
use Rattle.mp_kernel.specs.events.Adding.{listed}
use Rattle.mp_simulation.specs.bits.Changes.{change_at, late_change}
use Rattle.mp_simulation.specs.bits.Simulators.{next_slot, CanApply}
use Rattle.mp_simulation.specs.bits.Units.{AreDue}
use Rattle.mp_simulation.specs.bits.Copies.{later_by}
use Rattle.mp_simulation.specs.bits.Simulations.{copy_slot}
use Rattle.mp_simulation.specs.bits.WholeRuns.{is_number, is_stimulus, AreSet, IsAll}
use Rattle.mp_simulation.proofs.lemmas.bits.ListedLemmas.{listed_append, all_below}
use Rattle.mp_simulation.proofs.lemmas.bits.DueLemmas.{can_apply}
use Rattle.mp_simulation.proofs.lemmas.bits.SimulationLemmas.{all_numbers, all_changes_now, heard_now}
use Rattle.mp_kernel.specs.declared.datapath.level_change.LevelChange.{LevelChange}
use Rattle.mp_simulation.specs.declared.units.netlist_simulation.NetlistSimulation.{NetlistSimulation}
use Rattle.mp_simulation.specs.units.DataLevels.{is_data, number_of_change, changes_of, IsLevelAt}
use Rattle.mp_simulation.specs.units.DataWheels.{data_slot, driver_delay}
use Rattle.mp_simulation.specs.units.NetlistSimulations.{IsSimulated, AreStimuli}
use Rattle.mp_simulation.proofs.lemmas.units.AheadLemmas.{has_change}
use Rattle.mp_simulation.proofs.lemmas.units.FiredLemmas.{both}
use Rattle.mp_simulation.proofs.lemmas.units.PresentLemmas.{listed_numbers, none_beyond, present_each, present_levels, present_below}

-- a copy is of width 1 or has data, and no other sort
never_both : (wide : Bool) (o : Option ℕ) → wide ≡ true → ((y : ℕ) → o ≡ Some y → wide ≡ false) → o ≡ None
never_both wide None is narrow = refl
never_both wide (Some y) is narrow = absurd (both wide is (narrow y refl))

last_part : (a b : Bool) → (a && not b) ≡ true → b ≡ false
last_part true true is = sym is
last_part true false is = refl
last_part false true is = absurd (both (false && not true) is refl)
last_part false false is = refl

untraced : (traces wide : Bool) → wide ≡ true → (traces ≡ true → wide ≡ false) → traces ≡ false
untraced true wide is narrow = absurd (both wide is (narrow refl))
untraced false wide is narrow = refl

no_bit : (c : Bool) → bit (c && false) ≡ 0
no_bit true = refl
no_bit false = refl

one_bit : (c : Bool) → bit (c && true) ≡ bit c
one_bit true = refl
one_bit false = refl

no_part : (c d : Bool) → bit (c && d && false) ≡ 0
no_part true true = refl
no_part true false = refl
no_part false d = refl

low_bit : (c d : Bool) → bit (c && d) ≤ 1
low_bit true true = omega arith
low_bit true false = omega arith
low_bit false d = omega arith

module _ (n : Circuit) (ok : IsCircuit n) (t : ℕ) (s : NetlistSimulation) (is : IsSimulated n t s) (set : List ℕ) (levels : List LevelChange) (sets : AreStimuli n set levels (t + 1)) where
  bit_sets : AreSet n is.scope set (t + 1)
  bit_sets = sets.bits is.scope is.traces

  pub delays : (x p : ℕ) (m : ModuleId) → driver n x ≡ Port m p → 0 < driver_delay n (Port m p)
  delays x p m drives = delay_positive n ok m.0 p

  pub number : (x : ℕ) → x < length s.wires.next.items → x < length s.bits.simulator.fanout
  number x within = let same = is.wires.next in omega arith

  pub enough : length n.wires ≤ length s.bits.simulator.fanout
  enough = let a = is.sound.simulator.rows in let b = is.waves in omega arith

  pub data_own : (x : ℕ) → x < length s.wires.next.items → is_data n (is.scope.source x).0 ≡ true → is.data_before x ≡ None → is.scope.source x ≡ (x, 0)
  data_own x within = is.split.with_data x (number x within)

  -- ---- wires with data

  pub each : (x : ℕ) → x < length s.wires.next.items → changes_of x (data_slot s.wires.wheel 0 ++ levels) ≡ bit (has_change n is.scope.source x (t + 1))
  each x within =
      present_each n ok is.scope.source is.data_before s.wires.next.items t s.wires.wheel is.wires.some is.wires.changes is.wires.chained levels sets.levels data_own is.split.wires delays x within

  pub right : All (IsLevelAt n is.scope.source (t + 1)) (data_slot s.wires.wheel 0 ++ levels)
  right = present_levels n ok is.scope.source is.data_before s.wires.next.items t s.wires.wheel is.wires.some is.wires.changes is.wires.chained levels sets.levels data_own is.split.wires delays

  pub below : All (λ (c : LevelChange). c.number < length s.bits.simulator.fanout) (data_slot s.wires.wheel 0 ++ levels)
  below =
      present_below n ok is.scope.source is.data_before s.wires.next.items t s.wires.wheel is.wires.some is.wires.changes is.wires.chained levels sets.levels data_own is.split.wires delays
      (length s.bits.simulator.fanout) enough is.wires.numbered

  in_when : (x : ℕ) (low : Bool) → nat_lt x (length s.bits.simulator.fanout) ≡ low → is_data n (is.scope.source x).0 ≡ false → changes_of x (data_slot s.wires.wheel 0 ++ levels) ≡ 0
  in_when x true low narrow =
      let inside : x < length s.bits.simulator.fanout = grind (arith, nat_tests) in
      let same = is.wires.next in
      let within : x < length s.wires.next.items = omega arith in
      each x within ∙ ap (λ b. bit (late_change n (is.scope.source x) (t + 1) && b)) narrow ∙ no_bit (late_change n (is.scope.source x) (t + 1))
  in_when x false low narrow =
      let beyond : length s.bits.simulator.fanout ≤ x = grind (arith, nat_tests) in
      none_beyond (length s.bits.simulator.fanout) x (data_slot s.wires.wheel 0 ++ levels) below beyond

  -- what has no data isn't among the changes of what has
  quiet : (x : ℕ) → is_data n (is.scope.source x).0 ≡ false → changes_of x (data_slot s.wires.wheel 0 ++ levels) ≡ 0
  quiet x narrow = in_when x (nat_lt x (length s.bits.simulator.fanout)) refl narrow

  few_when : (x : ℕ) (low : Bool) → nat_lt x (length s.bits.simulator.fanout) ≡ low → changes_of x (data_slot s.wires.wheel 0 ++ levels) ≤ 1
  few_when x true low =
      let inside : x < length s.bits.simulator.fanout = grind (arith, nat_tests) in
      let same = is.wires.next in
      let within : x < length s.wires.next.items = omega arith in
      let is_bit = each x within in
      let few = low_bit (late_change n (is.scope.source x) (t + 1)) (is_data n (is.scope.source x).0) in
      omega arith
  few_when x false low =
      let beyond : length s.bits.simulator.fanout ≤ x = grind (arith, nat_tests) in
      let none = none_beyond (length s.bits.simulator.fanout) x (data_slot s.wires.wheel 0 ++ levels) below beyond in
      omega arith

  pub few : (x : ℕ) → changes_of x (data_slot s.wires.wheel 0 ++ levels) ≤ 1
  few x = few_when x (nat_lt x (length s.bits.simulator.fanout)) refl

  -- ---- wires of width 1

  pub all : IsAll n is.scope is.before t (next_slot s.bits.simulator ++ set) (copy_slot s.bits.copies 0)
  all = all_changes_now n ok is.scope is.before t s.bits set is.sound is.running is.whole bit_sets

  traced_narrow : (x : ℕ) → is.scope.traces x ≡ true → is_data n (is.scope.source x).0 ≡ false
  traced_narrow x traced =
      ap (λ (r : ℕ × ℕ). is_data n r.0) (is.whole.source x traced) ∙ last_part (nat_lt x (length n.wires)) (is_data n x) (sym (is.traces x) ∙ traced)

  narrow_when : (x : ℕ) (traced : Bool) (o : Option ℕ) → is.scope.traces x ≡ traced → is.before x ≡ o → (traced || is_some o) ≡ true → is_data n (is.scope.source x).0 ≡ false
  narrow_when x true o traced after is_one = traced_narrow x traced
  narrow_when x false (Some y) traced after is_one = is.split.bit_copies x y after
  narrow_when x false None traced after is_one = absurd (both (false || is_some (let none : Option ℕ = None in none)) is_one refl)

  pub narrow_number : (x : ℕ) → is_number is.scope is.before x ≡ true → is_data n (is.scope.source x).0 ≡ false
  narrow_number x is_one = narrow_when x (is.scope.traces x) (is.before x) refl refl is_one

  pub bits_heard : (x : ℕ) → x < length s.bits.simulator.fanout → is_data n (is.scope.source x).0 ≡ false →
      listed x (next_slot s.bits.simulator ++ set) + listed x (copy_slot s.bits.copies 0) ≡ bit (late_change n (is.scope.source x) (t + 1))
  bits_heard x within narrow = heard_now n ok is.scope is.before t s.bits set is.sound is.running is.whole bit_sets x (is.split.bits x within narrow)

  pub data_quiet : (x : ℕ) → is_data n (is.scope.source x).0 ≡ true → listed x (next_slot s.bits.simulator ++ set) + listed x (copy_slot s.bits.copies 0) ≡ 0
  data_quiet x wide =
      let next = s.bits.copies.next.items in
      let none = never_both (is_data n (is.scope.source x).0) (is.before x) wide (is.split.bit_copies x) in
      let other = untraced (is.scope.traces x) (is_data n (is.scope.source x).0) wide (traced_narrow x) in
      let first : listed x (next_slot s.bits.simulator ++ set) ≡ 0 = all.due.toggled x ∙ ap (λ b. bit (change_at n x (t + 1) && b)) other ∙ no_bit (change_at n x (t + 1)) in
      let second : listed x (copy_slot s.bits.copies 0) ≡ 0 =
      is.running.copies x 0 is.sound.copies.some ∙ ap (λ (o : Option ℕ). bit (late_change n (is.scope.source x) (t + 1 + 0) && nat_lt 0 (later_by next o))) none
      ∙ no_bit (late_change n (is.scope.source x) (t + 1 + 0)) in
      omega arith

  -- ---- all that is heard

  count_of : (x : ℕ) → listed x ((next_slot s.bits.simulator ++ set) ++ (copy_slot s.bits.copies 0 ++ map number_of_change (data_slot s.wires.wheel 0 ++ levels))) ≡
      (listed x (next_slot s.bits.simulator ++ set) + listed x (copy_slot s.bits.copies 0)) + changes_of x (data_slot s.wires.wheel 0 ++ levels)
  count_of x =
      let sum = listed_append x (next_slot s.bits.simulator ++ set) (copy_slot s.bits.copies 0 ++ map number_of_change (data_slot s.wires.wheel 0 ++ levels)) in
      let rest = listed_append x (copy_slot s.bits.copies 0) (map number_of_change (data_slot s.wires.wheel 0 ++ levels)) in
      let last = listed_numbers x (data_slot s.wires.wheel 0 ++ levels) in
      omega arith

  heard_when : (x : ℕ) (wide : Bool) → is_data n (is.scope.source x).0 ≡ wide → x < length s.bits.simulator.fanout →
      (listed x (next_slot s.bits.simulator ++ set) + listed x (copy_slot s.bits.copies 0)) + changes_of x (data_slot s.wires.wheel 0 ++ levels) ≡ bit (late_change n (is.scope.source x) (t + 1))
  heard_when x false narrow within =
      let first = bits_heard x within narrow in
      let second = quiet x narrow in
      omega arith
  heard_when x true wide within =
      let first = data_quiet x wide in
      let same = is.wires.next in
      let second : changes_of x (data_slot s.wires.wheel 0 ++ levels) ≡ bit (late_change n (is.scope.source x) (t + 1)) =
      each x (omega arith) ∙ ap (λ b. bit (late_change n (is.scope.source x) (t + 1) && b)) wide ∙ one_bit (late_change n (is.scope.source x) (t + 1)) in
      omega arith

  pub heard_each : (x : ℕ) → x < length s.bits.simulator.fanout →
      listed x ((next_slot s.bits.simulator ++ set) ++ (copy_slot s.bits.copies 0 ++ map number_of_change (data_slot s.wires.wheel 0 ++ levels))) ≡ bit (late_change n (is.scope.source x) (t + 1))
  heard_each x within = count_of x ∙ heard_when x (is_data n (is.scope.source x).0) refl within

  once_when : (x : ℕ) (wide : Bool) → is_data n (is.scope.source x).0 ≡ wide →
      (listed x (next_slot s.bits.simulator ++ set) + listed x (copy_slot s.bits.copies 0)) + changes_of x (data_slot s.wires.wheel 0 ++ levels) ≤ 1
  once_when x true wide =
      let first = data_quiet x wide in
      let second = few x in
      omega arith
  once_when x false narrow =
      let none = quiet x narrow in
      let sum = listed_append x (next_slot s.bits.simulator ++ set) (copy_slot s.bits.copies 0) in
      let most = all.due.once x in
      omega arith

  pub due : AreDue n is.scope t (next_slot s.bits.simulator ++ set) (copy_slot s.bits.copies 0 ++ map number_of_change (data_slot s.wires.wheel 0 ++ levels))
  due = record {
    toggled = all.due.toggled;
    once = λ x. let sum = count_of x in let most = once_when x (is_data n (is.scope.source x).0) refl in omega arith;
    heard = λ q active k d within.
        let x = slice_index_or (is.scope.inputs q) k d in
        let sum = count_of x in
        let none = quiet x (narrow_number x (is.whole.inputs q active k d within)) in
        let both_lists = listed_append x (next_slot s.bits.simulator ++ set) (copy_slot s.bits.copies 0) in
        let old = all.due.heard q active k d within in
        omega arith;
  }

  not_past : (w : ℕ) (low : Bool) → nat_lt w (length n.wires) ≡ low → length n.wires ≤ w → listed w set ≡ 0
  not_past w true low past = absurd (let within : w < length n.wires = grind (arith, nat_tests) in omega arith)
  not_past w false low past =
      bit_sets w
      ∙ ap (λ b. bit (change_at n w (t + 1) && is_stimulus (driver n w) && b)) (is.traces w ∙ ap (λ b. b && not (is_data n w)) low)
      ∙ no_part (change_at n w (t + 1)) (is_stimulus (driver n w))

  pub waved : All (λ w. w < length s.bits.simulator.waves) set
  waved =
      all_below (length s.bits.simulator.waves) set (λ w high. not_past w (nat_lt w (length n.wires)) refl (let same = is.waves in omega arith))

  pub rowed : All (λ x. x < length s.bits.simulator.fanout) (copy_slot s.bits.copies 0 ++ map number_of_change (data_slot s.wires.wheel 0 ++ levels))
  rowed =
      All-append (λ x. x < length s.bits.simulator.fanout) (copy_slot s.bits.copies 0) (map number_of_change (data_slot s.wires.wheel 0 ++ levels))
      (all_numbers (length s.bits.simulator.fanout) s.bits.copies is.sound.copies)
      (All-map (λ x. x < length s.bits.simulator.fanout) number_of_change (data_slot s.wires.wheel 0 ++ levels) below)

  -- so the unit can begin
  pub fit : CanApply s.bits.simulator set (copy_slot s.bits.copies 0 ++ map number_of_change (data_slot s.wires.wheel 0 ++ levels)) (t + 1)
  fit =
      can_apply n ok is.scope t s.bits.simulator set (copy_slot s.bits.copies 0 ++ map number_of_change (data_slot s.wires.wheel 0 ++ levels)) is.sound.simulator is.running.simulator due waved rowed
