-- What changes in a unit of wires with data and of their copies, and who hears of it.
use Rattle.std.proofs.Common.{◌≡◌, ℕ, zero, suc, ◌+◌, ◌-◌, ◌<◌, ◌≤◌, Bool, true, false, cond, nat_lt, List, [], ◌∷◌, ◌++◌, Option, Some, None, All, length, map, refl, sym, ap, ◌∙◌, arith, eq-eqb, subst}
use Rattle.std.specs.Prelude.{◌==◌, ◌&&◌, slice_index_or}
use Rattle.std.proofs.lemmas.Bool.{eqb-true}
use Rattle.std.proofs.lemmas.Bool.Decides.{nat_tests}
use Rattle.std.proofs.lemmas.List.Elements.{All-append}
use Rattle.std.proofs.lemmas.List.Sums.{sum_by-cons}
use Rattle.std.proofs.Math.ListN.{get_or-eq_default}
use Rattle.mp_records.specs.declared.wire_record.WireRecord.{WireRecord}
use Rattle.mp_records.specs.declared.ids.ModuleId.{ModuleId}
use Rattle.mp_netlist.specs.declared.driver.Driver.{Driver}
use Rattle.mp_netlist.specs.declared.driver.Driver.TheVariants.{Nothing, Stimulus, Port}
use Rattle.mp_netlist.specs.Circuit.{Circuit, IsCircuit}
use Rattle.mp_netlist.specs.Drivers.{driver}
use Rattle.mp_modules.specs.automata.Codes.{bit}
use Rattle.mp_kernel.specs.declared.events.output_port.OutputPort.{OutputPort}
use Rattle.mp_kernel.specs.events.Adding.{listed}
use Rattle.mp_kernel.specs.events.Firing.{copy_at}
use Rattle.mp_simulation.specs.bits.Changes.{change_at, late_change}
use Rattle.mp_simulation.specs.bits.Copies.{AreChained}
use Rattle.mp_simulation.specs.bits.WholeRuns.{is_stimulus}
use Rattle.mp_simulation.proofs.lemmas.bits.ScheduleLemmas.{none_some}
use Rattle.mp_simulation.proofs.lemmas.bits.WholeLemmas.{undriven}
use Rattle.mp_kernel.specs.declared.datapath.level_change.LevelChange.{LevelChange}
use Rattle.mp_simulation.specs.units.DataLevels.{has_data, is_data, late_level, number_of_change, changes_of, IsLevelAt}
use Rattle.mp_simulation.specs.units.DataWheels.{data_slot, driver_delay, ahead_by, ahead, HaveLevels, AreChangesBelow, AreLevelsSet}
use Rattle.mp_simulation.proofs.lemmas.units.LateLemmas.{own_level}
use Rattle.mp_simulation.proofs.lemmas.units.LevelWheelLemmas.{changes_append}
use Rattle.mp_simulation.proofs.lemmas.units.AheadLemmas.{has_change}
use Rattle.mp_simulation.proofs.lemmas.units.FiredLemmas.{both}

change_cons : (x : ℕ) (c : LevelChange) (cs : List LevelChange) → changes_of x (c ∷ cs) ≡ bit (c.number == x) + changes_of x cs
change_cons x c cs = sum_by-cons (λ (d : LevelChange). cond (d.number == x) 1 0) c cs

-- the numbers of changes are listed as often
pub listed_numbers : (x : ℕ) (cs : List LevelChange) → listed x (map number_of_change cs) ≡ changes_of x cs
listed_numbers x [] = refl
listed_numbers x (c ∷ cs) =
    sum_by-cons (λ d. cond (d == x) 1 0) c.number (map number_of_change cs) ∙ ap (λ k. bit (c.number == x) + k) (listed_numbers x cs) ∙ sym (change_cons x c cs)

pub change_here : (cs : List LevelChange) (k : ℕ) (d : LevelChange) → k < length cs → 0 < changes_of (slice_index_or cs k d).number cs
change_here [] k d within = absurd (omega arith)
change_here (c ∷ cs) zero d within =
    let more = change_cons c.number c cs in
    let own : bit (c.number == c.number) ≡ 1 = ap bit (eq-eqb c.number c.number refl) in
    omega arith
change_here (c ∷ cs) (suc k) d within =
    let more = change_cons (slice_index_or cs k d).number c cs in
    let rest = change_here cs k d (omega arith) in
    omega arith

other_when : (b x y : ℕ) (same : Bool) → (x == y) ≡ same → x < b → b ≤ y → bit (x == y) ≡ 0
other_when b x y true is low high = let e = eqb-true x y is in absurd (omega arith)
other_when b x y false is low high = ap bit is

other_number : (b x y : ℕ) → x < b → b ≤ y → bit (x == y) ≡ 0
other_number b x y low high = other_when b x y (x == y) refl low high

-- no number from a bound on changes, where all that change are below it
pub none_beyond : (bound y : ℕ) (cs : List LevelChange) → All (λ (c : LevelChange). c.number < bound) cs → bound ≤ y → changes_of y cs ≡ 0
none_beyond bound y [] low high = refl
none_beyond bound y (c ∷ cs) low high =
    let more = change_cons y c cs in
    let here = other_number bound c.number y (low 0 c (omega arith)) high in
    let rest = none_beyond bound y cs (λ k d within. low (suc k) d (omega arith)) high in
    omega arith

pub at_once : (n : Circuit) (w u : ℕ) → 0 < u → late_change n (w, 0) u ≡ change_at n w u
at_once n w u some =
    let test : nat_lt 0 u ≡ true = grind (arith, nat_tests) in
    let time : u - 0 ≡ u = omega arith in
    ap (λ b. cond b (change_at n w (u - 0)) false) test ∙ ap (change_at n w) time

wire_when : (slots : List (Option WireRecord)) (w : ℕ) (low : Bool) → nat_lt w (length slots) ≡ low → has_data (slice_index_or slots w None) ≡ true → w < length slots
wire_when slots w true is wide = grind (arith, nat_tests)
wire_when slots w false is wide =
    let beyond : length slots ≤ w = grind (arith, nat_tests) in
    absurd (both (has_data (slice_index_or slots w None)) wide (ap has_data (get_or-eq_default slots None beyond)))

-- a wire with data is a wire
pub data_wire : (n : Circuit) (w : ℕ) → is_data n w ≡ true → w < length n.wires
data_wire n w wide = wire_when n.wires w (nat_lt w (length n.wires)) refl wide

last_false : (a : Bool) → bit (a && false) ≡ 0
last_false true = refl
last_false false = refl

by_set : (c : Bool) → bit ((c && true) && nat_lt 0 0) + bit ((c && true) && true) ≡ bit (c && true)
by_set true = refl
by_set false = refl

stimulus_bits : (l c d e : Bool) → l ≡ c → d ≡ true → e ≡ true → bit ((l && d) && nat_lt 0 0) + bit ((c && true) && e) ≡ bit (l && d)
stimulus_bits l c d e same wide here = rw (same, wide, here) (by_set c)

nothing_bits : (l c d e a b : Bool) → l ≡ false → c ≡ false → bit ((l && d) && a) + bit ((c && b) && e) ≡ bit (l && d)
nothing_bits l c d e a b none other = rw (none, other) refl

by_slot : (c d e : Bool) → bit (c && true) + bit ((d && false) && e) ≡ bit c
by_slot true true e = refl
by_slot true false e = refl
by_slot false true e = refl
by_slot false false e = refl

only_slot : (c : Bool) → bit (c && true) + 0 ≡ bit c
only_slot true = refl
only_slot false = refl

no_slot : (c d : Bool) → bit ((c && false) && d) + 0 ≡ bit (c && false)
no_slot true d = refl
no_slot false d = refl

module _ (n : Circuit) (ok : IsCircuit n) (source : ℕ → ℕ × ℕ) (before : ℕ → Option ℕ) (next : List OutputPort) (t : ℕ) (slots : List (List LevelChange)) (some : 0 < length slots)
    (have : HaveLevels n source before next t slots) (chained : AreChained source before next) (set : List LevelChange) (sets : AreLevelsSet n set (t + 1))
    (own_source : (x : ℕ) → x < length next → is_data n (source x).0 ≡ true → before x ≡ None → source x ≡ (x, 0))
    (wires : (w : ℕ) → is_data n w ≡ true → (source w ≡ (w, 0)) × (before w ≡ None))
    (delays : (x p : ℕ) (m : ModuleId) → driver n x ≡ Port m p → 0 < driver_delay n (Port m p)) where
  abbrev now : List LevelChange
  now = data_slot slots 0 ++ set

  first_slot : (x : ℕ) → x < length next → changes_of x (data_slot slots 0) ≡ bit (has_change n source x (t + 1) && nat_lt 0 (ahead n before next x))
  first_slot x number =
      let time : t + 1 + 0 ≡ t + 1 = omega arith in
      have.each x 0 number some ∙ ap (λ u. bit (has_change n source x u && nat_lt 0 (ahead n before next x))) time

  -- what isn't a wire with data isn't set
  not_set : (x : ℕ) → is_data n x ≡ false → changes_of x set ≡ 0
  not_set x none = sets.each x ∙ ap (λ b. bit ((change_at n x (t + 1) && is_stimulus (driver n x)) && b)) none ∙ last_false (change_at n x (t + 1) && is_stimulus (driver n x))

  narrow_wire : (x : ℕ) (wide : Bool) → is_data n x ≡ wide → is_data n (source x).0 ≡ false → is_data n x ≡ false
  narrow_wire x true is none = absurd (both (is_data n x) is (sym (ap (λ (r : ℕ × ℕ). is_data n r.0) (wires x is).0) ∙ none))
  narrow_wire x false is none = is

  copy_wire : (x y : ℕ) (wide : Bool) → is_data n x ≡ wide → before x ≡ Some y → is_data n x ≡ false
  copy_wire x y true is after = absurd (none_some y (sym (wires x is).1 ∙ after))
  copy_wire x y false is after = is

  by_driver : (x : ℕ) (d : Driver) → x < length next → driver n x ≡ d → is_data n (source x).0 ≡ true → before x ≡ None → source x ≡ (x, 0) → is_data n x ≡ true →
      bit (has_change n source x (t + 1) && nat_lt 0 (driver_delay n d)) + bit ((change_at n x (t + 1) && is_stimulus d) && is_data n x) ≡ bit (has_change n source x (t + 1))
  by_driver x Nothing number drives wide none own here =
      let still : late_change n (source x) (t + 1) ≡ false = ap (λ (r : ℕ × ℕ). late_change n r (t + 1)) own ∙ at_once n x (t + 1) (omega arith) ∙ undriven n ok x (t + 1) drives in
      let same : change_at n x (t + 1) ≡ false = undriven n ok x (t + 1) drives in
      nothing_bits (late_change n (source x) (t + 1)) (change_at n x (t + 1)) (is_data n (source x).0) (is_data n x) (nat_lt 0 0) false still same
  by_driver x Stimulus number drives wide none own here =
      let same : late_change n (source x) (t + 1) ≡ change_at n x (t + 1) = ap (λ (r : ℕ × ℕ). late_change n r (t + 1)) own ∙ at_once n x (t + 1) (omega arith) in
      stimulus_bits (late_change n (source x) (t + 1)) (change_at n x (t + 1)) (is_data n (source x).0) (is_data n x) same wide here
  by_driver x (Port m p) number drives wide none own here =
      let positive = delays x p m drives in
      let test : nat_lt 0 (driver_delay n (Port m p)) ≡ true = grind (arith, nat_tests) in
      ap (λ b. bit (has_change n source x (t + 1) && b) + bit ((change_at n x (t + 1) && false) && is_data n x)) test
      ∙ by_slot (has_change n source x (t + 1)) (change_at n x (t + 1)) (is_data n x)

  by_before : (x : ℕ) (o : Option ℕ) → x < length next → before x ≡ o → is_data n (source x).0 ≡ true →
      bit (has_change n source x (t + 1) && nat_lt 0 (ahead_by n next x o)) + changes_of x set ≡ bit (has_change n source x (t + 1))
  by_before x (Some y) number after wide =
      let positive = chained.some x y after in
      let test : nat_lt 0 (copy_at next y).delay ≡ true = grind (arith, nat_tests) in
      let none = not_set x (copy_wire x y (is_data n x) refl after) in
      ap (λ b. bit (has_change n source x (t + 1) && b) + changes_of x set) test ∙ ap (λ k. bit (has_change n source x (t + 1) && true) + k) none
      ∙ only_slot (has_change n source x (t + 1))
  by_before x None number after wide =
      let own = own_source x number wide after in
      let here : is_data n x ≡ true = sym (ap (λ (r : ℕ × ℕ). is_data n r.0) own) ∙ wide in
      ap (λ k. bit (has_change n source x (t + 1) && nat_lt 0 (driver_delay n (driver n x))) + k) (sets.each x)
      ∙ by_driver x (driver n x) number refl wide after own here

  by_width : (x : ℕ) (wide : Bool) → x < length next → is_data n (source x).0 ≡ wide →
      bit (has_change n source x (t + 1) && nat_lt 0 (ahead n before next x)) + changes_of x set ≡ bit (has_change n source x (t + 1))
  by_width x true number wide = by_before x (before x) number refl wide
  by_width x false number narrow =
      let none = not_set x (narrow_wire x (is_data n x) refl narrow) in
      ap (λ k. bit (has_change n source x (t + 1) && nat_lt 0 (ahead n before next x)) + k) none
      ∙ ap (λ b. bit ((late_change n (source x) (t + 1) && b) && nat_lt 0 (ahead n before next x)) + 0) narrow
      ∙ no_slot (late_change n (source x) (t + 1)) (nat_lt 0 (ahead n before next x))
      ∙ sym (ap (λ b. bit (late_change n (source x) (t + 1) && b)) narrow)

  -- in the unit a number changes where its source has data and changes
  pub present_each : (x : ℕ) → x < length next → changes_of x (data_slot slots 0 ++ set) ≡ bit (has_change n source x (t + 1))
  present_each x number =
      changes_append x (data_slot slots 0) set
      ∙ ap (λ k. k + changes_of x set) (first_slot x number)
      ∙ by_width x (is_data n (source x).0) number refl

  set_when : (w count : ℕ) (wide : Bool) → is_data n w ≡ wide → 0 < count → count ≡ bit ((change_at n w (t + 1) && is_stimulus (driver n w)) && is_data n w) → is_data n w ≡ true
  set_when w count true is positive each = is
  set_when w count false is positive each =
      let none = each ∙ ap (λ b. bit ((change_at n w (t + 1) && is_stimulus (driver n w)) && b)) is ∙ last_false (change_at n w (t + 1) && is_stimulus (driver n w)) in
      absurd (omega arith)

  -- what is set are wires with data
  pub set_wide : (k : ℕ) (d : LevelChange) → k < length set → is_data n (slice_index_or set k d).number ≡ true
  set_wide k d within =
      let c = slice_index_or set k d in
      set_when c.number (changes_of c.number set) (is_data n c.number) refl (change_here set k d within) (sets.each c.number)

  set_levels : All (IsLevelAt n source (t + 1)) set
  set_levels k d within =
      let c = slice_index_or set k d in
      sets.levels k d within ∙ sym (ap (λ (r : ℕ × ℕ). late_level n r (t + 1)) (wires c.number (set_wide k d within)).0 ∙ own_level n c.number (t + 1))

  -- and it has the level then
  pub present_levels : All (IsLevelAt n source (t + 1)) (data_slot slots 0 ++ set)
  present_levels =
      let time : t + 1 + 0 ≡ t + 1 = omega arith in
      All-append (IsLevelAt n source (t + 1)) (data_slot slots 0) set (subst (λ u. All (IsLevelAt n source u) (data_slot slots 0)) time (have.levels 0)) set_levels

  pub present_below : (numbers : ℕ) → length n.wires ≤ numbers → AreChangesBelow numbers slots → All (λ (c : LevelChange). c.number < numbers) (data_slot slots 0 ++ set)
  present_below numbers enough low =
      All-append (λ (c : LevelChange). c.number < numbers) (data_slot slots 0) set (low 0)
      (λ k d within. let wire = data_wire n (slice_index_or set k d).number (set_wide k d within) in omega arith)
