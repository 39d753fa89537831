-- The outputs of a module with data, and what it brings into the level wheel.
use Rattle.std.proofs.Common.{◌≡◌, ◌≢◌, ℕ, zero, suc, ◌+◌, ◌-◌, ◌<◌, ◌≤◌, Bool, true, false, not, cond, [], ◌∷◌, Option, Some, None, option_map, All, nat_lt, refl, sym, ap, ◌∙◌, arith, subst, inl, inr}
use Rattle.std.specs.Prelude.{◌==◌, ◌&&◌}
use Rattle.std.specs.List.{count_by}
use Rattle.std.proofs.lemmas.Bool.{cases_eq}
use Rattle.std.proofs.lemmas.Bool.Decides.{nat_tests}
use Rattle.std.proofs.lemmas.Option.{none-some}
use Rattle.mp_modules.specs.Memories.{output_of}
use Rattle.mp_records.specs.declared.ids.WireId.{WireId}
use Rattle.mp_records.specs.declared.ids.ModuleId.{ModuleId}
use Rattle.mp_records.specs.declared.ports.Output.{Output}
use Rattle.mp_records.specs.declared.module_record.ModuleRecord.{ModuleRecord}
use Rattle.mp_records.specs.Outputs.{output_at, delay_of}
use Rattle.mp_netlist.specs.declared.driver.Driver.{Driver}
use Rattle.mp_netlist.specs.declared.driver.Driver.TheVariants.{Nothing, Stimulus, Port}
use Rattle.mp_netlist.specs.Circuit.{Circuit, IsCircuit, Drives, wire_at, module_at}
use Rattle.mp_netlist.specs.Drivers.{driver}
use Rattle.mp_netlist.proofs.DriverLemmas.{finds_ports, finds_only_ports}
use Rattle.mp_model.specs.Levels.{initial_of, driven_level, port_level}
use Rattle.mp_model.specs.Evaluations.{delay_in}
use Rattle.mp_model.specs.Waves.{level, state}
use Rattle.mp_model.proofs.BehaviourLemmas.{satisfies}
use Rattle.mp_modules.specs.automata.Codes.{bit}
use Rattle.mp_kernel.specs.declared.events.output_port.OutputPort.{OutputPort}
use Rattle.mp_kernel.specs.events.Firing.{HasSlot, HaveSlots, no_port}
use Rattle.mp_simulation.specs.bits.Schedules.{output_port_of, number_of as wire_number}
use Rattle.mp_simulation.specs.bits.Beginnings.{is_first}
use Rattle.mp_simulation.proofs.lemmas.bits.ScheduleLemmas.{same_part}
use Rattle.mp_kernel.specs.datapath.LevelWheels.{entry_at}
use Rattle.mp_simulation.specs.units.DataLevels.{is_data}
use Rattle.mp_simulation.specs.units.DataSeats.{drives_data, bit_port_of, bit_ports_of, level_port_of}
use Rattle.mp_simulation.proofs.lemmas.units.LevelWheelLemmas.{is_change, HoldsOf}
use Rattle.mp_simulation.proofs.lemmas.units.AheadLemmas.{counted_entry, no_entry}
use Rattle.mp_simulation.specs.run.Widths.{is_bit_module}
use Rattle.mp_simulation.specs.run.Settling.{is_below}
use Rattle.mp_simulation.specs.run.Seating.{level_departs_from, level_departs, first_levels, levels_in, IsFirstLevel}
use Rattle.mp_simulation.proofs.lemmas.run.SettlingLemmas.{unmapped, same_delay, still_below, delay_some, output_low, slot_within}
use Rattle.mp_simulation.proofs.lemmas.run.WidthLemmas.{bit_drives, data_first}

-- ---- ports

slot_if : (b : Bool) (units : ℕ) (port : OutputPort) → 0 < units → HasSlot units port → HasSlot units (cond b port no_port)
slot_if true units port some has = has
slot_if false units port some has = record { some = omega arith; room = omega arith }

slot_unless : (b : Bool) (units : ℕ) (port : OutputPort) → 0 < units → HasSlot units port → HasSlot units (cond b no_port port)
slot_unless true units port some has = record { some = omega arith; room = omega arith }
slot_unless false units port some has = has

pub level_slot : (n : Circuit) → IsCircuit n → (units m : ℕ) (r : ModuleRecord) → module_at n m ≡ Some r → All (λ (o : Output). o.delay ≤ units) r.outputs → 0 < units → HasSlot units (level_port_of n r)
level_slot n ok units m r at within some =
    slot_if (drives_data n (output_at r 0).wire) units (output_port_of (output_at r 0)) some (slot_within n ok units m 0 r at within some)

pub bit_slots : (n : Circuit) → IsCircuit n → (units m : ℕ) (r : ModuleRecord) → module_at n m ≡ Some r → All (λ (o : Output). o.delay ≤ units) r.outputs → 0 < units → HaveSlots units (bit_ports_of n r)
bit_slots n ok units m r at within some = record { first = one 0; second = one 1; third = one 2 }
  where
    one : (p : ℕ) → HasSlot units (bit_port_of n (output_at r p))
    one p = slot_unless (drives_data n (output_at r p).wire) units (output_port_of (output_at r p)) some (slot_within n ok units m p r at within some)

-- ---- what a module brings into the level wheel

plus_none : (a b : ℕ) → a ≡ 0 → a + b ≡ b
plus_none a b none = omega arith

none_if : (b : Bool) (k w delay l : ℕ) (wire : Option ℕ) → (wire ≡ Some w → ⊥) → count_by (is_change k w) (cond b (entry_at wire delay l) []) ≡ 0
none_if true k w delay l wire other = no_entry k w delay l wire other
none_if false k w delay l wire other = refl

led_if : (b : Bool) (k w d l : ℕ) → count_by (is_change k w) (cond b (entry_at (Some w) d l) []) ≡ bit (b && (d - 1 == k))
led_if true k w d l = counted_entry k w d l
led_if false k w d l = refl

level_wire : (n : Circuit) (b : Bool) (o : Output) (w : ℕ) → (cond b (output_port_of o) no_port).wire ≡ Some w → o.wire ≡ Some (record { 0 = w })
level_wire n true o w is = unmapped w o.wire is
level_wire n false o w is = absurd (none-some w is)

first_swapped : (a b c : Bool) → a ≡ b → bit (c && a) ≡ bit (true && ((b && c) && true))
first_swapped a true true same = rw same refl
first_swapped a true false same = refl
first_swapped a false true same = rw same refl
first_swapped a false false same = refl

never_level : (a b c : Bool) → c ≡ false → 0 ≡ bit (a && (b && c))
never_level true true c none = sym (ap bit none)
never_level true false c none = refl
never_level false b c none = refl

module _ (n : Circuit) (ok : IsCircuit n) (m : ℕ) where
  -- of a wire that isn't that of the first output
  levels_none : (r : ModuleRecord) (k w : ℕ) → ((output_at r 0).wire ≡ Some (record { 0 = w }) → ⊥) → count_by (is_change k w) (first_levels n m r) ≡ 0
  levels_none r k w other =
      none_if (level_departs n (level_port_of n r) (output_of (state n m 0) 0)) k w (level_port_of n r).delay (output_of (state n m 0) 0) (level_port_of n r).wire
      (λ is. other (level_wire n (drives_data n (output_at r 0).wire) (output_at r 0) w is))

  -- of the wire of the first output, which has data
  levels_own : (r : ModuleRecord) (k w : ℕ) → (output_at r 0).wire ≡ Some (record { 0 = w }) → is_data n w ≡ true →
      count_by (is_change k w) (first_levels n m r) ≡ bit (not (initial_of (wire_at n w) == output_of (state n m 0) 0) && (delay_of r 0 - 1 == k))
  levels_own r k w is has =
      let test : drives_data n (output_at r 0).wire ≡ true = ap (drives_data n) is ∙ has in
      let port : level_port_of n r ≡ output_port_of (output_at r 0) = ap (λ b. cond b (output_port_of (output_at r 0)) no_port) test in
      let wire : (level_port_of n r).wire ≡ Some w = ap (λ (p : OutputPort). p.wire) port ∙ ap (option_map wire_number) is in
      let delay : (level_port_of n r).delay ≡ delay_of r 0 = ap (λ (p : OutputPort). p.delay) port in
      let l = output_of (state n m 0) 0 in
      ap (λ (o : Option ℕ). count_by (is_change k w) (cond (level_departs_from n o l) (entry_at o (level_port_of n r).delay l) [])) wire
      ∙ ap (λ d. count_by (is_change k w) (cond (not (initial_of (wire_at n w) == l)) (entry_at (Some w) d l) [])) delay
      ∙ led_if (not (initial_of (wire_at n w) == l)) k w (delay_of r 0) l

  slot_none : (slot : Option ModuleRecord) → module_at n m ≡ slot → (w k : ℕ) → ((p : ℕ) → Drives n m p w → is_data n w ≡ true → ⊥) → count_by (is_change k w) (levels_in n m slot) ≡ 0
  slot_none None at w k never = refl
  slot_none (Some r) at w k never = by (is_bit_module n r)
    where
      by_data : (b : Bool) → is_data n w ≡ b → count_by (is_change k w) (first_levels n m r) ≡ 0
      by_data true has = levels_none r k w (λ is. never 0 (record { part = r; stands = at; output = is }) has)
      by_data false has =
          none_if (level_departs n (level_port_of n r) (output_of (state n m 0) 0)) k w (level_port_of n r).delay (output_of (state n m 0) 0) (level_port_of n r).wire
          (λ is.
          let wire = level_wire n (drives_data n (output_at r 0).wire) (output_at r 0) w is in
          let test : drives_data n (output_at r 0).wire ≡ false = ap (drives_data n) wire ∙ has in
          none-some w (sym (ap (λ b. (cond b (output_port_of (output_at r 0)) no_port).wire) test) ∙ is))

      by : (b : Bool) → count_by (is_change k w) (cond b [] (first_levels n m r)) ≡ 0
      by true = refl
      by false = by_data (is_data n w) refl

  -- where no port of m drives the wire, nothing comes by m
  level_kept : (w k : ℕ) (d : Driver) → driver n w ≡ d → ((p : ℕ) → Drives n m p w → ⊥) → bit (is_below m d && (is_first n d w (k + 1) && is_data n w)) ≡ bit (is_below (m + 1) d && (is_first n d w (k + 1) && is_data n w))
  level_kept w k Nothing is never = refl
  level_kept w k Stimulus is never = refl
  level_kept w k (Port v p) is never =
      let drv = finds_only_ports n w p v is in
      let other : v.0 ≢ m = λ e. never p (subst (λ x. Drives n x p w) e drv) in
      ap (λ b. bit (b && (is_first n (Port v p) w (k + 1) && is_data n w))) (sym (still_below v.0 m other))

  no_bits : (slot : Option ModuleRecord) (p w : ℕ) → module_at n m ≡ slot → Drives n m p w → is_data n w ≡ true → (r : ModuleRecord) → slot ≡ Some r → is_bit_module n r ≡ false
  no_bits slot p w at drv has r is = by (is_bit_module n r) refl
    where
      by : (b : Bool) → is_bit_module n r ≡ b → b ≡ false
      by true bits = let none = bit_drives n ok m p w r (at ∙ is) bits drv in cc
      by false bits = refl

  own_level : (slot : Option ModuleRecord) → module_at n m ≡ slot → (w k p : ℕ) (v : ModuleId) → v.0 ≡ m → driver n w ≡ Port v p → Drives n m p w → (b : Bool) → is_data n w ≡ b →
      count_by (is_change k w) (levels_in n m slot) ≡ bit (is_below (m + 1) (Port v p) && (is_first n (Port v p) w (k + 1) && is_data n w))
  own_level slot at w k p v own is drv false has =
      slot_none slot at w k (λ q other too. let e = sym has ∙ too in cc) ∙ never_level (is_below (m + 1) (Port v p)) (is_first n (Port v p) w (k + 1)) (is_data n w) has
  own_level None at w k p v own is drv true has = absurd (none-some drv.part (sym at ∙ drv.stands))
  own_level (Some r) at w k p v own is drv true has =
      let first : p ≡ 0 = data_first n ok m p w drv has in
      let wide : is_bit_module n r ≡ false = no_bits (Some r) p w at drv has r refl in
      let output : (output_at r p).wire ≡ Some (record { 0 = w }) = subst (λ (s : ModuleRecord). (output_at s p).wire ≡ Some (record { 0 = w })) (same_part n m drv.part r drv.stands at) drv.output in
      let output_first : (output_at r 0).wire ≡ Some (record { 0 = w }) = subst (λ q. (output_at r q).wire ≡ Some (record { 0 = w })) first output in
      let test : nat_lt v.0 (m + 1) ≡ true = grind (arith, nat_tests) in
      let some : 0 < delay_of r 0 = delay_some n ok m 0 w r at output_first in
      ap (λ b. count_by (is_change k w) (cond b [] (first_levels n m r))) wide
      ∙ levels_own r k w output_first has
      ∙ first_swapped (delay_of r 0 - 1 == k) (delay_of r 0 == k + 1) (not (initial_of (wire_at n w) == output_of (state n m 0) 0)) (same_delay (delay_of r 0) k some)
      ∙ ap (λ b. bit (true && ((delay_of r 0 == k + 1 && not (initial_of (wire_at n w) == output_of (state n m 0) 0)) && b))) (sym has)
      ∙ ap (λ b. bit (b && ((delay_of r 0 == k + 1 && not (initial_of (wire_at n w) == output_of (state n m 0) 0)) && is_data n w))) (sym test)
      ∙ ap (λ o. bit (nat_lt v.0 (m + 1) && ((delay_in o 0 == k + 1 && not (initial_of (wire_at n w) == output_of (state n m 0) 0)) && is_data n w))) (sym at)
      ∙ ap (λ x. bit (nat_lt v.0 (m + 1) && ((delay_in (module_at n x) 0 == k + 1 && not (initial_of (wire_at n w) == output_of (state n x 0) 0)) && is_data n w))) (sym own)
      ∙ ap (λ q. bit (nat_lt v.0 (m + 1) && ((delay_in (module_at n v.0) q == k + 1 && not (initial_of (wire_at n w) == output_of (state n v.0 0) q)) && is_data n w))) (sym first)

  before_own : (w k p : ℕ) (v : ModuleId) → v.0 ≡ m → bit (is_below m (Port v p) && (is_first n (Port v p) w (k + 1) && is_data n w)) ≡ 0
  before_own w k p v own = let test : nat_lt v.0 m ≡ false = grind (arith, nat_tests) in ap (λ b. bit (b && (is_first n (Port v p) w (k + 1) && is_data n w))) test

  pub by_driver : (slot : Option ModuleRecord) → module_at n m ≡ slot → (w k : ℕ) (d : Driver) → driver n w ≡ d →
      bit (is_below m d && (is_first n d w (k + 1) && is_data n w)) + count_by (is_change k w) (levels_in n m slot) ≡ bit (is_below (m + 1) d && (is_first n d w (k + 1) && is_data n w))
  by_driver slot at w k Nothing is = plus_none 0 (count_by (is_change k w) (levels_in n m slot)) refl ∙ slot_none slot at w k (λ p drv has. (let e = sym is ∙ finds_ports n ok m p w drv in cc))
  by_driver slot at w k Stimulus is = plus_none 0 (count_by (is_change k w) (levels_in n m slot)) refl ∙ slot_none slot at w k (λ p drv has. (let e = sym is ∙ finds_ports n ok m p w drv in cc))
  by_driver slot at w k (Port v p) is = elim (cases_eq v.0 m) as (λ _. bit (is_below m (Port v p) && (is_first n (Port v p) w (k + 1) && is_data n w)) + count_by (is_change k w) (levels_in n m slot) ≡
      bit (is_below (m + 1) (Port v p) && (is_first n (Port v p) w (k + 1) && is_data n w))) [
        | inl own ↦
            let drv : Drives n m p w = subst (λ x. Drives n x p w) own (finds_only_ports n w p v is) in
            let before = before_own w k p v own in
            let now = own_level slot at w k p v own is drv (is_data n w) refl in
            omega arith
        | inr other ↦
            let never : (q : ℕ) → Drives n m q w → ⊥ = λ q drv. other (sym (ok.one_port m q v.0 p w drv (finds_only_ports n w p v is)).0) in
            let none = slot_none slot at w k (λ q drv has. never q drv) in
            let kept = level_kept w k (Port v p) is never in
            omega arith
      ]

  -- ---- the levels

  driven_first : (r : ModuleRecord) (w : ℕ) → module_at n m ≡ Some r → (output_at r 0).wire ≡ Some (record { 0 = w }) → output_of (state n m 0) 0 ≡ level n w (delay_of r 0)
  driven_first r w at output =
      let drives = finds_ports n ok m 0 w (record { part = r; stands = at; output = output }) in
      let test : nat_lt (delay_of r 0) (delay_of r 0) ≡ false = grind (arith, nat_tests) in
      let past : delay_of r 0 - delay_of r 0 ≡ 0 = omega arith in
      sym ((satisfies n ok).levels w (delay_of r 0)
      ∙ ap (λ d. driven_level d n (state n) w (delay_of r 0)) drives
      ∙ ap (λ o. port_level (state n) o m 0 (initial_of (wire_at n w)) (delay_of r 0)) at
      ∙ ap (λ b. cond b (initial_of (wire_at n w)) (output_of (state n m (delay_of r 0 - delay_of r 0)) 0)) test
      ∙ ap (λ t. output_of (state n m t) 0) past)

  entry_level : (r : ModuleRecord) → module_at n m ≡ Some r → (b c : Bool) → drives_data n (output_at r 0).wire ≡ c → (o : Option WireId) → (output_at r 0).wire ≡ o →
      All (HoldsOf (IsFirstLevel n)) (cond b (entry_at (cond c (output_port_of (record { wire = o; delay = delay_of r 0 })) no_port).wire (cond c (output_port_of (record { wire = o; delay = delay_of r 0 })) no_port).delay (output_of (state n m 0) 0)) [])
  entry_level r at false c test o is = λ k d within. absurd (omega arith)
  entry_level r at true false test o is = λ k d within. absurd (omega arith)
  entry_level r at true true test None is = λ k d within. absurd (omega arith)
  entry_level r at true true test (Some w) is = one
    where
      time : delay_of r 0 ≡ delay_of r 0 - 1 + 1
      time = let some = delay_some n ok m 0 w.0 r at is in omega arith

      one : All (HoldsOf (IsFirstLevel n)) ((delay_of r 0 - 1, record { number = w.0; level = output_of (state n m 0) 0 }) ∷ [])
      one zero d within = record { level = driven_first r w.0 at is ∙ ap (level n w.0) time; wire = output_low n ok m 0 r w at is }
      one (suc k) d within = absurd (omega arith)

  pub slot_levels : (slot : Option ModuleRecord) → module_at n m ≡ slot → All (HoldsOf (IsFirstLevel n)) (levels_in n m slot)
  slot_levels None at = λ k d within. absurd (omega arith)
  slot_levels (Some r) at = by (is_bit_module n r)
    where
      by : (b : Bool) → All (HoldsOf (IsFirstLevel n)) (cond b [] (first_levels n m r))
      by true = λ k d within. absurd (omega arith)
      by false = entry_level r at (level_departs n (level_port_of n r) (output_of (state n m 0) 0)) (drives_data n (output_at r 0).wire) refl (output_at r 0).wire refl
