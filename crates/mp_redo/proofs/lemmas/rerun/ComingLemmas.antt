-- What changes in the next unit is in the next slots, set by changed stimuli, or in the tails.
use Rattle.std.proofs.Common.{◌≡◌, ℕ, ◌+◌, ◌<◌, Bool, true, false, cond, nat_lt, List, Option, Some, None, is_some, length, refl, sym, ap, ◌∙◌, arith, inl, inr}
use Rattle.std.specs.Prelude.{◌&&◌, ◌||◌}
use Rattle.std.proofs.lemmas.Bool.{lt-ltb, le-ltb, cases_Bool}
use Rattle.mp_netlist.specs.Circuit.{Circuit, IsCircuit}
use Rattle.mp_netlist.specs.Drivers.{driver}
use Rattle.mp_modules.specs.automata.Codes.{bit}
use Rattle.mp_kernel.specs.events.Adding.{listed}
use Rattle.mp_kernel.specs.events.Firing.{copy_at}
use Rattle.mp_simulation.specs.bits.Changes.{change_at, late_change}
use Rattle.mp_simulation.specs.bits.Simulators.{slot_at}
use Rattle.mp_simulation.specs.bits.Simulations.{copy_slot}
use Rattle.mp_simulation.specs.bits.Copies.{later_by}
use Rattle.mp_simulation.specs.declared.units.netlist_simulation.NetlistSimulation.{NetlistSimulation}
use Rattle.mp_simulation.specs.units.DataLevels.{is_data, is_bit_wire, changes_of}
use Rattle.mp_simulation.specs.units.DataWheels.{data_slot}
use Rattle.mp_simulation.proofs.lemmas.units.PresentLemmas.{at_once}
use Rattle.mp_simulation.specs.declared.run.stimuli.StimulusChange.{StimulusChange}
use Rattle.mp_simulation.specs.run.Stimuli.{bits_at, levels_at}
use Rattle.mp_active.specs.excerpt.Levels.{shown_change, shown_delay, shown_ahead}
use Rattle.mp_active.specs.excerpt.Numberings.{Numbering}
use Rattle.mp_active.specs.excerpt.Showing.{Shows}
use Rattle.mp_redo.specs.rerun.Following.{AreToCome}
use Rattle.mp_redo.proofs.lemmas.rerun.ToComeLemmas.{bits_to_come, levels_to_come}
use Rattle.mp_redo.proofs.lemmas.rerun.NumberLemmas.{other_rests, bit_wire_first, wide_first, bit_wire_narrow, bit_wire_source, wide_number, narrow_number, data_copy_number}

-- a change of a wire is known ahead, or set, or in the tails
abbrev pub IsSplit : Circuit → (ℕ → Bool) → (ℕ → ℕ → Bool) → (ℕ → ℕ → Bool) → ℕ → ℕ → Type 0
IsSplit n active anew tail u w =
    bit (change_at n w u && nat_lt 0 (shown_delay n active (driver n w))) + (bit (change_at n w u && anew w u) + bit (change_at n w u && tail w u)) ≡ bit (change_at n w u)

-- ---- tests

all_but_last : (c k : Bool) → bit ((c && true) && k) ≡ bit (c && k)
all_but_last true k = refl
all_but_last false k = refl

none_between : (a b c : Bool) → b ≡ false → bit ((a && b) && c) ≡ 0
none_between true b c e = ap (λ x. bit (x && c)) e
none_between false b c e = refl

none_after : (a b : Bool) → b ≡ false → bit (a && b) ≡ 0
none_after true b e = ap bit e
none_after false b e = refl

nothing_ahead : (a : Bool) → bit (a && nat_lt 0 0) ≡ 0
nothing_ahead a = none_after a (nat_lt 0 0) (le-ltb 0 0 (omega arith))

none_when : (wide : Bool) (c b : Bool) → c ≡ false → cond wide 0 (bit (c && b)) ≡ 0
none_when true c b e = refl
none_when false c b e = ap (λ x. bit (x && b)) e

none_when_narrow : (wide : Bool) (k : ℕ) → wide ≡ false → cond wide k 0 ≡ 0
none_when_narrow wide k e = ap (λ x. cond x k 0) e

module _ (n : Circuit) (ok : IsCircuit n) (active on : ℕ → Bool) (numbering : Numbering) (t : ℕ) (s : NetlistSimulation) (shows : Shows n active on numbering t s) where
  -- ---- the next slots
  pub wires_ahead : (x : ℕ) → listed x (slot_at s.bits.simulator 0) ≡ bit ((change_at n x (t + 1) && is_bit_wire n x) && nat_lt 0 (shown_delay n active (driver n x)))
  wires_ahead x =
      let e : t + 1 + 0 ≡ t + 1 = omega arith in
      shows.bits.events x 0 shows.bits.sound.simulator.some
      ∙ ap (λ u. bit ((change_at n x u && is_bit_wire n x) && nat_lt 0 (shown_delay n active (driver n x)))) e

  pub copies_ahead : (x : ℕ) → listed x (copy_slot s.bits.copies 0) ≡ bit (shown_change n on (numbering.source x) (t + 1) && nat_lt 0 (later_by s.bits.copies.next.items (numbering.before x)))
  copies_ahead x =
      let e : t + 1 + 0 ≡ t + 1 = omega arith in
      shows.bits.copies x 0 shows.bits.sound.copies.some
      ∙ ap (λ u. bit (shown_change n on (numbering.source x) u && nat_lt 0 (later_by s.bits.copies.next.items (numbering.before x)))) e

  pub levels_ahead : (x : ℕ) → x < length s.bits.simulator.fanout →
      changes_of x (data_slot s.wires.wheel 0)
      ≡ bit ((shown_change n on (numbering.source x) (t + 1) && is_data n (numbering.source x).0) && nat_lt 0 (shown_ahead n active s.wires.next.items x (numbering.data_before x)))
  levels_ahead x within =
      let e : t + 1 + 0 ≡ t + 1 = omega arith in
      shows.wires.changes x 0 within shows.wires.some
      ∙ ap (λ u. bit ((shown_change n on (numbering.source x) u && is_data n (numbering.source x).0) && nat_lt 0 (shown_ahead n active s.wires.next.items x (numbering.data_before x)))) e

  -- what isn't of width 1 isn't in the first two slots
  no_wires : (x : ℕ) → is_bit_wire n x ≡ false → listed x (slot_at s.bits.simulator 0) ≡ 0
  no_wires x none = wires_ahead x ∙ none_between (change_at n x (t + 1)) (is_bit_wire n x) (nat_lt 0 (shown_delay n active (driver n x))) none

  no_copies : (x : ℕ) → numbering.before x ≡ None → listed x (copy_slot s.bits.copies 0) ≡ 0
  no_copies x none =
      copies_ahead x ∙ ap (λ (o : Option ℕ). bit (shown_change n on (numbering.source x) (t + 1) && nat_lt 0 (later_by s.bits.copies.next.items o))) none
      ∙ nothing_ahead (shown_change n on (numbering.source x) (t + 1))

  no_levels : (x : ℕ) → x < length s.bits.simulator.fanout → is_data n (numbering.source x).0 ≡ false → changes_of x (data_slot s.wires.wheel 0) ≡ 0
  no_levels x within narrow =
      levels_ahead x within
      ∙ none_between (shown_change n on (numbering.source x) (t + 1)) (is_data n (numbering.source x).0) (nat_lt 0 (shown_ahead n active s.wires.next.items x (numbering.data_before x))) narrow

  module _ (anew tail : ℕ → ℕ → Bool) (stimuli pending_outputs : List StimulusChange) (first : AreToCome n anew t stimuli) (second : AreToCome n tail t pending_outputs) where
    -- how often a number is among what comes in the next unit
    abbrev pub Comes : ℕ → Type 0
    Comes x =
        (listed x (slot_at s.bits.simulator 0) + (listed x (copy_slot s.bits.copies 0) + (listed x (bits_at (t + 1) stimuli) + listed x (bits_at (t + 1) pending_outputs))))
        + (changes_of x (data_slot s.wires.wheel 0) + (changes_of x (levels_at (t + 1) stimuli) + changes_of x (levels_at (t + 1) pending_outputs)))
        ≡ bit (late_change n (numbering.source x) (t + 1))

    change_here : (x : ℕ) → numbering.source x ≡ (x, 0) → late_change n (numbering.source x) (t + 1) ≡ change_at n x (t + 1)
    change_here x own = ap (λ (r : ℕ × ℕ). late_change n r (t + 1)) own ∙ at_once n x (t + 1) (omega arith)

    narrow_wire : (x : ℕ) → x < length s.bits.simulator.fanout → is_bit_wire n x ≡ true → IsSplit n active anew tail (t + 1) x → Comes x
    narrow_wire x within is split =
        let narrow = bit_wire_narrow n x is in
        let ahead = nat_lt 0 (shown_delay n active (driver n x)) in
        let a = wires_ahead x ∙ ap (λ b. bit ((change_at n x (t + 1) && b) && ahead)) is ∙ all_but_last (change_at n x (t + 1)) ahead in
        let b = no_copies x (bit_wire_first n numbering s shows.numbers x is) in
        let c = bits_to_come n anew t stimuli first x ∙ ap (λ w. cond w 0 (bit (change_at n x (t + 1) && anew x (t + 1)))) narrow in
        let d = bits_to_come n tail t pending_outputs second x ∙ ap (λ w. cond w 0 (bit (change_at n x (t + 1) && tail x (t + 1)))) narrow in
        let e = no_levels x within (bit_wire_source n numbering s shows.numbers x is) in
        let f = levels_to_come n anew t stimuli first x ∙ none_when_narrow (is_data n x) (bit (change_at n x (t + 1) && anew x (t + 1))) narrow in
        let g = levels_to_come n tail t pending_outputs second x ∙ none_when_narrow (is_data n x) (bit (change_at n x (t + 1) && tail x (t + 1))) narrow in
        let h = ap bit (change_here x (shows.numbers.wires x is)) in
        omega arith

    only : (c : Bool) → bit (c && true) ≡ bit c
    only true = refl
    only false = refl

    narrow_copy : (x y : ℕ) → x < length s.bits.simulator.fanout → is_data n (numbering.source x).0 ≡ false → is_bit_wire n x ≡ false → numbering.before x ≡ Some y → on (numbering.source x).0 ≡ true →
        Comes x
    narrow_copy x y within narrow none at lit =
        let here = narrow_number n numbering s shows.numbers x narrow in
        let rests = other_rests n ok x (t + 1) none here in
        let next = s.bits.copies.next.items in
        let change = late_change n (numbering.source x) (t + 1) in
        let a = no_wires x none in
        let b = copies_ahead x ∙ ap (λ (o : Option ℕ). bit (shown_change n on (numbering.source x) (t + 1) && nat_lt 0 (later_by next o))) at
        ∙ ap (λ k. bit (shown_change n on (numbering.source x) (t + 1) && k)) (lt-ltb 0 (copy_at next y).delay (shows.numbers.chained.some x y at))
        ∙ ap (λ k. bit ((k && change) && true)) lit ∙ only change in
        let c = bits_to_come n anew t stimuli first x ∙ none_when (is_data n x) (change_at n x (t + 1)) (anew x (t + 1)) rests in
        let d = bits_to_come n tail t pending_outputs second x ∙ none_when (is_data n x) (change_at n x (t + 1)) (tail x (t + 1)) rests in
        let e = no_levels x within narrow in
        let f = levels_to_come n anew t stimuli first x ∙ none_when_narrow (is_data n x) (bit (change_at n x (t + 1) && anew x (t + 1))) here in
        let g = levels_to_come n tail t pending_outputs second x ∙ none_when_narrow (is_data n x) (bit (change_at n x (t + 1) && tail x (t + 1))) here in
        omega arith

    wide_wire : (x : ℕ) → x < length s.bits.simulator.fanout → is_data n (numbering.source x).0 ≡ true → numbering.data_before x ≡ None → on (numbering.source x).0 ≡ true →
        IsSplit n active anew tail (t + 1) x → Comes x
    wide_wire x within wide none lit split =
        let own = shows.numbers.with_data x within wide none in
        let here : is_data n x ≡ true = sym (ap (λ (r : ℕ × ℕ). is_data n r.0) own) ∙ wide in
        let ahead = nat_lt 0 (shown_delay n active (driver n x)) in
        let change = late_change n (numbering.source x) (t + 1) in
        let a = no_wires x (wide_number n numbering s shows.numbers x wide) in
        let b = no_copies x (wide_first n numbering s shows.numbers x wide) in
        let c = bits_to_come n anew t stimuli first x ∙ ap (λ w. cond w 0 (bit (change_at n x (t + 1) && anew x (t + 1)))) here in
        let d = bits_to_come n tail t pending_outputs second x ∙ ap (λ w. cond w 0 (bit (change_at n x (t + 1) && tail x (t + 1)))) here in
        let e = levels_ahead x within
        ∙ ap (λ (o : Option ℕ). bit ((shown_change n on (numbering.source x) (t + 1) && is_data n (numbering.source x).0) && nat_lt 0 (shown_ahead n active s.wires.next.items x o))) none
        ∙ ap (λ k. bit ((shown_change n on (numbering.source x) (t + 1) && k) && ahead)) wide
        ∙ ap (λ k. bit (((k && change) && true) && ahead)) lit ∙ all_but_last change ahead ∙ ap (λ k. bit (k && ahead)) (change_here x own) in
        let f = levels_to_come n anew t stimuli first x ∙ ap (λ w. cond w (bit (change_at n x (t + 1) && anew x (t + 1))) 0) here in
        let g = levels_to_come n tail t pending_outputs second x ∙ ap (λ w. cond w (bit (change_at n x (t + 1) && tail x (t + 1))) 0) here in
        let h = ap bit (change_here x own) in
        omega arith

    wide_copy : (x y : ℕ) → x < length s.bits.simulator.fanout → is_data n (numbering.source x).0 ≡ true → numbering.data_before x ≡ Some y → on (numbering.source x).0 ≡ true → Comes x
    wide_copy x y within wide at lit =
        let none = wide_number n numbering s shows.numbers x wide in
        let here = data_copy_number n numbering s shows.numbers x y at in
        let rests = other_rests n ok x (t + 1) none here in
        let change = late_change n (numbering.source x) (t + 1) in
        let next = s.wires.next.items in
        let a = no_wires x none in
        let b = no_copies x (wide_first n numbering s shows.numbers x wide) in
        let c = bits_to_come n anew t stimuli first x ∙ none_when (is_data n x) (change_at n x (t + 1)) (anew x (t + 1)) rests in
        let d = bits_to_come n tail t pending_outputs second x ∙ none_when (is_data n x) (change_at n x (t + 1)) (tail x (t + 1)) rests in
        let e = levels_ahead x within
        ∙ ap (λ (o : Option ℕ). bit ((shown_change n on (numbering.source x) (t + 1) && is_data n (numbering.source x).0) && nat_lt 0 (shown_ahead n active next x o))) at
        ∙ ap (λ k. bit ((shown_change n on (numbering.source x) (t + 1) && is_data n (numbering.source x).0) && k)) (lt-ltb 0 (copy_at next y).delay (shows.wires.chained.some x y at))
        ∙ ap (λ k. bit ((shown_change n on (numbering.source x) (t + 1) && k) && true)) wide
        ∙ ap (λ k. bit (((k && change) && true) && true)) lit ∙ all_but_last change true ∙ only change in
        let f = levels_to_come n anew t stimuli first x ∙ none_when_narrow (is_data n x) (bit (change_at n x (t + 1) && anew x (t + 1))) here in
        let g = levels_to_come n tail t pending_outputs second x ∙ none_when_narrow (is_data n x) (bit (change_at n x (t + 1) && tail x (t + 1))) here in
        omega arith

    -- each number of a wire that is on is there just where it changes, once
    pub all_come : (x : ℕ) → x < length s.bits.simulator.fanout → on (numbering.source x).0 ≡ true → (numbering.source x ≡ (x, 0) → IsSplit n active anew tail (t + 1) x) → Comes x
    all_come x within lit split = elim (cases_Bool (is_data n (numbering.source x).0)) as (λ _. Comes x) [
      | inl wide ↦ by_data wide (numbering.data_before x) refl
      | inr narrow ↦ elim (cases_Bool (is_bit_wire n x)) as (λ _. Comes x) [
        | inl is ↦ narrow_wire x within is (split (shows.numbers.wires x is))
        | inr none ↦ by_copy narrow none (numbering.before x) refl
      ]
    ]
      where
        by_data : is_data n (numbering.source x).0 ≡ true → (o : Option ℕ) → numbering.data_before x ≡ o → Comes x
        by_data wide None at = wide_wire x within wide at lit (split (shows.numbers.with_data x within wide at))
        by_data wide (Some y) at = wide_copy x y within wide at lit

        by_copy : is_data n (numbering.source x).0 ≡ false → is_bit_wire n x ≡ false → (o : Option ℕ) → numbering.before x ≡ o → Comes x
        by_copy narrow none None at =
            let number = sym (ap (λ b. b || is_some (numbering.before x)) none) ∙ shows.numbers.bits x within narrow in
            let nothing = ap (λ (o : Option ℕ). is_some o) at in
            let no : ⊥ = cc in absurd no
        by_copy narrow none (Some y) at = narrow_copy x y within narrow none at lit
