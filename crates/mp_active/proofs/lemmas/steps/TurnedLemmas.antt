-- What a simulation has when the delayed copies of a wire are turned on, one after the other.
use Rattle.std.proofs.Common.{◌≡◌, ℕ, ◌+◌, ◌-◌, ◌<◌, ◌≤◌, Bool, true, false, List, [], ◌∷◌, All, Option, cond, length, nat_lt, refl, ap, sym, subst, ◌∙◌, arith, inl, inr, get_or-set_same, get_or-set_other}
use Rattle.std.specs.Prelude.{◌==◌, ◌&&◌, ◌||◌, slice_index, slice_index_or, slice_set}
use Rattle.std.specs.List.{count_by}
use Rattle.std.proofs.lemmas.Bool.{cases_Bool, eqb-true, eqb-false}
use Rattle.std.proofs.lemmas.List.{length-set}
use Rattle.std.proofs.lemmas.List.Elements.{All-map}
use Rattle.mp_wave.specs.Waveform.{Waveform, IsWaveform, level_of, between}
use Rattle.mp_netlist.specs.Circuit.{Circuit}
use Rattle.mp_model.specs.Waves.{level}
use Rattle.mp_modules.specs.automata.Codes.{bit}
use Rattle.mp_kernel.specs.declared.events.output_port.OutputPort.{OutputPort}
use Rattle.mp_kernel.specs.events.Adding.{listed}
use Rattle.mp_kernel.specs.events.Firing.{copy_at, scheduled}
use Rattle.mp_kernel.proofs.lemmas.events.EntryLemmas.{schedules_each}
use Rattle.mp_simulation.specs.declared.bits.simulation.Simulation.{Simulation}
use Rattle.mp_simulation.specs.bits.Changes.{late_change}
use Rattle.mp_simulation.specs.bits.Copies.{AreChained, later_by}
use Rattle.mp_simulation.specs.bits.Simulators.{IsBelow}
use Rattle.mp_simulation.specs.bits.Simulations.{copy_slot}
use Rattle.mp_kernel.specs.declared.datapath.level_change.LevelChange.{LevelChange}
use Rattle.mp_kernel.specs.datapath.LevelWheels.{scheduled as levels_scheduled}
use Rattle.mp_simulation.specs.declared.units.data_wires.DataWires.{DataWires}
use Rattle.mp_simulation.specs.declared.units.netlist_simulation.NetlistSimulation.{NetlistSimulation}
use Rattle.mp_simulation.specs.units.DataLevels.{IsLevelAt, changes_of}
use Rattle.mp_simulation.specs.units.DataWheels.{data_slot}
use Rattle.mp_simulation.proofs.lemmas.units.LevelWheelLemmas.{changes_each, holds_scheduled, HoldsIn, HoldsOf}
use Rattle.mp_active.proofs.lemmas.excerpt.CopyLemmas.{next_below}
use Rattle.mp_active.specs.declared.steps.copying.Copied.{Copied}
use Rattle.mp_active.specs.steps.Putting.{entry_of, toggles_of}
use Rattle.mp_active.specs.steps.Ahead.{is_entry_of}
use Rattle.mp_active.specs.steps.Copying.{HasTurnedCopy, delayed, in_flight}
use Rattle.mp_active.specs.steps.Chains.{AreBehind, AreTurned}
use Rattle.mp_active.proofs.lemmas.steps.PutLemmas.{toggle_units, level_units}
use Rattle.mp_active.proofs.lemmas.steps.AheadLemmas.{counted_toggles}
use Rattle.mp_active.proofs.lemmas.steps.FlightLemmas.{counted_flight, held_flight}
use Rattle.mp_active.proofs.lemmas.steps.ReachedLemmas.{is_among, next_is, next_later, among_later}

-- ---- one copy, and others

-- a number is the one or one of the others, never both
joined : (e a : Bool) (amount : ℕ) → (e ≡ true → a ≡ false) → cond (e || false) amount 0 + cond a amount 0 ≡ cond (e || a) amount 0
joined true true amount apart = let no : ⊥ = (let never = apart refl in cc) in absurd no
joined true false amount apart = omega arith
joined false a amount apart = omega arith

event_more : (wide e a : Bool) (amount was mid new : ℕ) → (e ≡ true → a ≡ false) → mid ≡ was + cond wide 0 (cond (e || false) amount 0) → new ≡ mid + cond wide 0 (cond a amount 0) →
    new ≡ was + cond wide 0 (cond (e || a) amount 0)
event_more true e a amount was mid new apart first then = omega (arith, first, then)
event_more false e a amount was mid new apart first then = let both = joined e a amount apart in omega (arith, first, then, both)

change_more : (wide e a : Bool) (amount was mid new : ℕ) → (e ≡ true → a ≡ false) → mid ≡ was + cond wide (cond (e || false) amount 0) 0 → new ≡ mid + cond wide (cond a amount 0) 0 →
    new ≡ was + cond wide (cond (e || a) amount 0) 0
change_more true e a amount was mid new apart first then = let both = joined e a amount apart in omega (arith, first, then, both)
change_more false e a amount was mid new apart first then = omega (arith, first, then)

level_more : (e a late : Bool) (known was mid new : ℕ) → (e ≡ true → a ≡ false) → mid ≡ cond (e || false) (cond late was known) was → new ≡ cond a (cond late mid known) mid →
    new ≡ cond (e || a) (cond late was known) was
level_more true true late known was mid new apart first then = let no : ⊥ = (let never = apart refl in cc) in absurd no
level_more true false late known was mid new apart first then = then ∙ first
level_more false a late known was mid new apart first then = then ∙ ap (λ v. cond a (cond late v known) v) first

-- how often a number has a change to come so many units after the next, that comes of one up to now
abbrev pub late_bit : Circuit → ℕ → (ℕ → ℕ × ℕ) → (ℕ → Option ℕ) → List OutputPort → ℕ → ℕ → ℕ
late_bit n now source before next x k = bit (late_change n (source x) (now + 1 + k) && nat_lt k (later_by next (before x)))

-- these copies have their levels, and their changes to come more than before; all else is as it was
pub record HasTurned (n : Circuit) (now : ℕ) (wave : Waveform) (source : ℕ → ℕ × ℕ) (before : ℕ → Option ℕ) (next : List OutputPort) (wide : Bool) (copies : List Copied) (s new : NetlistSimulation) : Type 0 where
  pub bits : new.bits ≡ record (s.bits) { copies = record (s.bits.copies) { wheel = new.bits.copies.wheel } }
  pub units : length new.bits.copies.wheel ≡ length s.bits.copies.wheel
  pub events : (x k : ℕ) → k < length s.bits.copies.wheel →
      listed x (copy_slot new.bits.copies k) ≡ listed x (copy_slot s.bits.copies k) + cond wide 0 (cond (is_among x copies) (late_bit n now source before next x k) 0)
  pub wires : new.wires ≡ record (s.wires) { levels = new.wires.levels; wheel = new.wires.wheel }
  pub change_units : length new.wires.wheel ≡ length s.wires.wheel
  pub changes : (x k : ℕ) → k < length s.wires.wheel →
      changes_of x (data_slot new.wires.wheel k) ≡ changes_of x (data_slot s.wires.wheel k) + cond wide (cond (is_among x copies) (late_bit n now source before next x k) 0) 0
  pub held : HoldsIn (λ k c. IsLevelAt n source (now + 1 + k) c) s.wires.wheel → HoldsIn (λ k c. IsLevelAt n source (now + 1 + k) c) new.wires.wheel
  pub numbered : (bound : ℕ) → All (IsBelow bound) next → HoldsIn (λ k c. c.number < bound) s.wires.wheel → HoldsIn (λ k c. c.number < bound) new.wires.wheel
  pub long : length new.wires.levels.items ≡ length s.wires.levels.items
  pub levels : (x : ℕ) → x < length s.wires.levels.items →
      slice_index new.wires.levels.items x
      ≡ cond (is_among x copies) (cond (nat_lt now (source x).1) (slice_index s.wires.levels.items x) (level_of wave (now - (source x).1))) (slice_index s.wires.levels.items x)
  pub modules : new.modules ≡ s.modules

module _ (n : Circuit) (w now : ℕ) (wave : Waveform) (form : IsWaveform wave) (agree : (u : ℕ) → u ≤ now → level_of wave u ≡ level n w u)
    (source : ℕ → ℕ × ℕ) (before : ℕ → Option ℕ) (next : List OutputPort) (chained : AreChained source before next) (wide : Bool) where
  abbrev Turned : List Copied → NetlistSimulation → NetlistSimulation → Type 0
  Turned copies s new = HasTurned n now wave source before next wide copies s new

  abbrev amount : ℕ → ℕ → ℕ
  amount x k = late_bit n now source before next x k

  none_turned : (s : NetlistSimulation) → Turned [] s s
  none_turned s = record {
    bits = refl;
    units = refl;
    events = λ x k within. nothing_event wide (listed x (copy_slot s.bits.copies k));
    wires = refl;
    change_units = refl;
    changes = λ x k within. nothing_change wide (changes_of x (data_slot s.wires.wheel k));
    held = λ before. before;
    numbered = λ bound low before. before;
    long = refl;
    levels = λ x low. refl;
    modules = refl;
  }
    where
      nothing_event : (b : Bool) (count : ℕ) → count ≡ count + cond b 0 0
      nothing_event true count = omega arith
      nothing_event false count = omega arith

      nothing_change : (b : Bool) (count : ℕ) → count ≡ count + cond b 0 0
      nothing_change true count = omega arith
      nothing_change false count = omega arith

  -- ---- one copy
  module _ (y late : ℕ) (copy : Copied) (copies : List Copied) (s mid : NetlistSimulation) (at : source y ≡ (w, late)) (behind : AreBehind next now y late (copy ∷ copies))
      (head : HasTurnedCopy wide wave copy now s mid) where
    own : source copy.number ≡ (w, copy.delay)
    own = next_is source before next chained w now y late copy at behind.1 behind.3

    had : copy.sooner ≤ now
    had = let low = behind.0 in let is = behind.2 in omega (arith, low, is)

    later : copy.sooner < copy.delay
    later = let more = next_later source before next chained w now y late copy behind.1 behind.3 in let is = behind.2 in omega (arith, more, is)

    apart_by : copy.delay - copy.sooner ≡ (copy_at next y).delay
    apart_by = let is = behind.2 in let much = behind.3 in omega (arith, is, much)

    counted : (x k : ℕ) → count_by (is_entry_of k x) (in_flight wave copy now) ≡ cond ((copy.number == x) || false) (amount x k) 0
    counted x k = counted_flight n w now wave form agree copy x k had later ∙ by (copy.number == x) refl
      where
        by : (b : Bool) → (copy.number == x) ≡ b → cond b (bit (late_change n (w, copy.delay) (now + 1 + k) && nat_lt k (copy.delay - copy.sooner))) 0 ≡ cond (b || false) (amount x k) 0
        by false e = refl
        by true e =
            let same : copy.number ≡ x = eqb-true copy.number x e in
            ap (λ (p : ℕ × ℕ). bit (late_change n p (now + 1 + k) && nat_lt k (copy.delay - copy.sooner))) (sym own ∙ ap source same)
            ∙ ap (λ d. bit (late_change n (source x) (now + 1 + k) && nat_lt k d)) (apart_by ∙ ap (later_by next) (sym (chained.last y copy.number behind.1) ∙ ap before same))

    event_by : (b : Bool) (x k : ℕ) → k < length s.bits.copies.wheel → mid.bits.copies.wheel ≡ cond b s.bits.copies.wheel (scheduled s.bits.copies.wheel (toggles_of (in_flight wave copy now))) →
        listed x (copy_slot mid.bits.copies k) ≡ listed x (copy_slot s.bits.copies k) + cond b 0 (cond ((copy.number == x) || false) (amount x k) 0)
    event_by true x k within is = let same = ap (λ (wheel : List (List ℕ)). listed x (slice_index_or wheel k [])) is in omega (arith, same)
    event_by false x k within is =
        ap (λ (wheel : List (List ℕ)). listed x (slice_index_or wheel k [])) is
        ∙ schedules_each s.bits.copies.wheel (toggles_of (in_flight wave copy now)) k x within
        ∙ ap (λ j. listed x (copy_slot s.bits.copies k) + j) (counted_toggles k x (in_flight wave copy now) ∙ counted x k)

    change_by : (b : Bool) (x k : ℕ) → k < length s.wires.wheel → mid.wires.wheel ≡ cond b (levels_scheduled s.wires.wheel (in_flight wave copy now)) s.wires.wheel →
        changes_of x (data_slot mid.wires.wheel k) ≡ changes_of x (data_slot s.wires.wheel k) + cond b (cond ((copy.number == x) || false) (amount x k) 0) 0
    change_by false x k within is = let same = ap (λ (wheel : List (List LevelChange)). changes_of x (data_slot wheel k)) is in omega (arith, same)
    change_by true x k within is =
        ap (λ (wheel : List (List LevelChange)). changes_of x (data_slot wheel k)) is
        ∙ changes_each s.wires.wheel (in_flight wave copy now) k x within
        ∙ ap (λ j. changes_of x (data_slot s.wires.wheel k) + j) (counted x k)

    holds_by : (b : Bool) (P : ℕ → LevelChange → Type 0) → mid.wires.wheel ≡ cond b (levels_scheduled s.wires.wheel (in_flight wave copy now)) s.wires.wheel → HoldsIn P s.wires.wheel →
        All (HoldsOf P) (in_flight wave copy now) → HoldsIn P mid.wires.wheel
    holds_by true P is was each = subst (HoldsIn P) (sym is) (holds_scheduled P s.wires.wheel (in_flight wave copy now) was each)
    holds_by false P is was each = subst (HoldsIn P) (sym is) was

    own_number : (bound : ℕ) → All (IsBelow bound) next → All (HoldsOf (λ k c. c.number < bound)) (in_flight wave copy now)
    own_number bound low =
        All-map (HoldsOf (λ k c. c.number < bound)) (entry_of copy.number now) (delayed copy.delay (between (now - copy.delay) (now - copy.sooner + 1) wave.changes))
        (λ k d within. next_below next bound y copy.number low behind.1)

    level_by : (b late : Bool) (x : ℕ) → (copy.number == x) ≡ b → nat_lt now copy.delay ≡ late → x < length s.wires.levels.items →
        slice_index (cond late s.wires.levels.items (slice_set s.wires.levels.items copy.number (level_of wave (now - copy.delay)))) x
        ≡ cond (b || false) (cond (nat_lt now (source x).1) (slice_index s.wires.levels.items x) (level_of wave (now - (source x).1))) (slice_index s.wires.levels.items x)
    level_by false true x e late low = refl
    level_by false false x e late low = get_or-set_other s.wires.levels.items copy.number x (level_of wave (now - copy.delay)) 0 (λ same. eqb-false copy.number x e (sym same))
    level_by true late x e is low =
        let same : copy.number ≡ x = eqb-true copy.number x e in
        let far : (source x).1 ≡ copy.delay = ap (λ (p : ℕ × ℕ). p.1) (ap source (sym same) ∙ own) in
        by late is (subst (λ v. v < length s.wires.levels.items) (sym same) low) same
        ∙ sym (ap (λ d. cond (nat_lt now d) (slice_index s.wires.levels.items x) (level_of wave (now - d))) far)
      where
        by : (late : Bool) → nat_lt now copy.delay ≡ late → copy.number < length s.wires.levels.items → copy.number ≡ x →
            slice_index (cond late s.wires.levels.items (slice_set s.wires.levels.items copy.number (level_of wave (now - copy.delay)))) x
            ≡ cond (nat_lt now copy.delay) (slice_index s.wires.levels.items x) (level_of wave (now - copy.delay))
        by true is low same = sym (ap (λ b. cond b (slice_index s.wires.levels.items x) (level_of wave (now - copy.delay))) is)
        by false is low same =
            ap (slice_index (slice_set s.wires.levels.items copy.number (level_of wave (now - copy.delay)))) (sym same)
            ∙ get_or-set_same s.wires.levels.items copy.number (level_of wave (now - copy.delay)) 0 low
            ∙ sym (ap (λ b. cond b (slice_index s.wires.levels.items x) (level_of wave (now - copy.delay))) is)

    long_by : (late : Bool) → length (cond late s.wires.levels.items (slice_set s.wires.levels.items copy.number (level_of wave (now - copy.delay)))) ≡ length s.wires.levels.items
    long_by true = refl
    long_by false = length-set s.wires.levels.items copy.number (level_of wave (now - copy.delay))

    one_turned : Turned (copy ∷ []) s mid
    one_turned = record {
      bits = head.bits;
      units = toggle_units wide (in_flight wave copy now) s.bits.copies.wheel mid.bits.copies.wheel head.events;
      events = λ x k within. event_by wide x k within head.events;
      wires = head.wires;
      change_units = level_units wide (in_flight wave copy now) s.wires.wheel mid.wires.wheel head.changes;
      changes = λ x k within. change_by wide x k within head.changes;
      held = λ was. holds_by wide (λ k c. IsLevelAt n source (now + 1 + k) c) head.changes was (held_flight n w now wave form agree source copy had own);
      numbered = λ bound low was. holds_by wide (λ k c. c.number < bound) head.changes was (own_number bound low);
      long = ap (length {A = ℕ}) head.levels ∙ long_by (nat_lt now copy.delay);
      levels = λ x low. ap (λ (xs : List ℕ). slice_index xs x) head.levels ∙ level_by (copy.number == x) (nat_lt now copy.delay) x refl refl low;
      modules = head.modules;
    }

    -- ---- and others
    apart : (x : ℕ) → (copy.number == x) ≡ true → is_among x copies ≡ false
    apart x here = elim (cases_Bool (is_among x copies)) as (λ _. is_among x copies ≡ false) [
      | inl there ↦
          let same : copy.number ≡ x = eqb-true copy.number x here in
          let after = (among_later source before next chained w now copies copy.number copy.delay x own behind.4 there).later in
          let far : (source x).1 ≡ copy.delay = ap (λ (p : ℕ × ℕ). p.1) (ap source (sym same) ∙ own) in
          let no : ⊥ = omega (arith, after, far) in absurd no
      | inr none ↦ none
    ]

    more_turned : (new : NetlistSimulation) → Turned (copy ∷ []) s mid → Turned copies mid new → Turned (copy ∷ copies) s new
    more_turned new one rest = record {
      bits = rest.bits ∙ ap (λ (b : Simulation). (let x : Simulation = record b { copies = record (b.copies) { wheel = new.bits.copies.wheel } } in x)) one.bits;
      units = rest.units ∙ one.units;
      events = λ x k within.
          event_more wide (copy.number == x) (is_among x copies) (amount x k) (listed x (copy_slot s.bits.copies k)) (listed x (copy_slot mid.bits.copies k)) (listed x (copy_slot new.bits.copies k)) (apart x)
          (one.events x k within) (rest.events x k (let same = one.units in omega (arith, within, same)));
      wires = rest.wires ∙ ap (λ (v : DataWires). (let x : DataWires = record v { levels = new.wires.levels; wheel = new.wires.wheel } in x)) one.wires;
      change_units = rest.change_units ∙ one.change_units;
      changes = λ x k within.
          change_more wide (copy.number == x) (is_among x copies) (amount x k) (changes_of x (data_slot s.wires.wheel k)) (changes_of x (data_slot mid.wires.wheel k)) (changes_of x (data_slot new.wires.wheel k))
          (apart x) (one.changes x k within) (rest.changes x k (let same = one.change_units in omega (arith, within, same)));
      held = λ was. rest.held (one.held was);
      numbered = λ bound low was. rest.numbered bound low (one.numbered bound low was);
      long = rest.long ∙ one.long;
      levels = λ x low.
          level_more (copy.number == x) (is_among x copies) (nat_lt now (source x).1) (level_of wave (now - (source x).1)) (slice_index s.wires.levels.items x) (slice_index mid.wires.levels.items x)
          (slice_index new.wires.levels.items x) (apart x) (one.levels x low) (rest.levels x (let same = one.long in omega (arith, low, same)));
      modules = rest.modules ∙ one.modules;
    }

  pub copies_turned : (copies : List Copied) (y late : ℕ) (s new : NetlistSimulation) → source y ≡ (w, late) → AreBehind next now y late copies → AreTurned wide wave now copies s new → Turned copies s new
  copies_turned [] y late s new at behind is = subst (λ (x : NetlistSimulation). Turned [] s x) (sym is) (none_turned s)
  copies_turned (copy ∷ copies) y late s new at behind turned =
      let mid : NetlistSimulation = turned.0 in
      let own = next_is source before next chained w now y late copy at behind.1 behind.3 in
      more_turned y late copy copies s mid at behind turned.1 new (one_turned y late copy copies s mid at behind turned.1)
      (copies_turned copies copy.number copy.delay mid new own behind.4 turned.2)
