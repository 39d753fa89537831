-- The levels when a wire is turned on.
use Rattle.std.proofs.Common.{◌≡◌, ℕ, ◌-◌, ◌<◌, Bool, true, false, List, Option, Some, None, cond, length, nat_lt, refl, ap, sym, ◌∙◌, arith, get_or-set_same, get_or-set_other}
use Rattle.std.specs.Prelude.{◌==◌, slice_index}
use Rattle.std.proofs.lemmas.Bool.{eqb-true, eqb-false, ne_eqb, lt-ltb}
use Rattle.std.proofs.lemmas.List.{length-set}
use Rattle.mp_wave.specs.Waveform.{level_of}
use Rattle.mp_netlist.specs.Circuit.{wire_at}
use Rattle.mp_model.specs.Levels.{initial_of}
use Rattle.mp_model.specs.Waves.{level}
use Rattle.mp_kernel.specs.declared.events.output_port.OutputPort.{OutputPort}
use Rattle.mp_simulation.specs.units.DataLevels.{late_level}
use Rattle.mp_active.specs.excerpt.Turning.{IsLevelTurned}
use Rattle.mp_active.specs.steps.Chains.{next_in}
use Rattle.mp_active.proofs.lemmas.steps.AheadLemmas.{level_now}
use Rattle.mp_active.proofs.lemmas.steps.ReachedLemmas.{is_among, among_later}
use Rattle.mp_active.proofs.lemmas.steps.ChainedLemmas.{before_in}
use Rattle.mp_active.proofs.lemmas.steps.TurningOnLemmas.{Turning, chain, levels_two, behind, turned, other_wire, late_when, not_yet}

module _ (given : Turning) where
  open given use {n, on, numbering, w, now, wave, s, two, new, wide, shown, off, stands, agree, last}

  abbrev source : ℕ → ℕ × ℕ
  source = numbering.source

  abbrev before : ℕ → Option ℕ
  before = before_in wide numbering

  abbrev next : List OutputPort
  next = next_in wide s

  abbrev count : ℕ
  count = length s.bits.simulator.fanout

  stands_low : w < count
  stands_low = let few = shown.bits.sound.simulator.rows in let same = shown.bits.wires in let low = stands in omega (arith, few, same, low)

  two_else : (x : ℕ) → (x == w) ≡ false → slice_index two.wires.levels.items x ≡ slice_index s.wires.levels.items x
  two_else x other = ap (λ (xs : List ℕ). slice_index xs x) (levels_two given) ∙ get_or-set_other s.wires.levels.items w x (level_of wave now) 0 (eqb-false x w other)

  two_here : slice_index two.wires.levels.items w ≡ level_of wave now
  two_here =
      ap (λ (xs : List ℕ). slice_index xs w) (levels_two given)
      ∙ get_or-set_same s.wires.levels.items w (level_of wave now) 0 (let same = shown.wires.places in let low = stands_low in omega (arith, same, low))

  level_off : (x : ℕ) → x < count → (source x).0 ≡ w → slice_index s.wires.levels.items x ≡ initial_of (wire_at n (source x).0)
  level_off x low wire = shown.wires.levels x low ∙ ap (λ b. cond b (late_level n (source x) now) (initial_of (wire_at n (source x).0))) (ap on wire ∙ off)

  level_late : (x : ℕ) → x < count → (source x).0 ≡ w → 0 < (source x).1 →
      cond (nat_lt now (source x).1) (slice_index two.wires.levels.items x) (level_of wave (now - (source x).1)) ≡ late_level n (source x) now
  level_late x low wire some =
      ap (λ v. cond (nat_lt now (source x).1) v (level_of wave (now - (source x).1))) (two_else x (late_when given x some) ∙ level_off x low wire)
      ∙ ap (λ v. cond (nat_lt now (source x).1) (initial_of (wire_at n (source x).0)) v) (agree (now - (source x).1) (omega arith) ∙ ap (λ v. level n v (now - (source x).1)) (sym wire))

  level_none : (x : ℕ) (o : Option ℕ) → before x ≡ o → x < count → (source x).0 ≡ w → is_among x last.copies ≡ false → slice_index two.wires.levels.items x ≡ late_level n (source x) now
  level_none x None is low wire none =
      let same : x ≡ w = (chain given).single x low wire is in
      ap (slice_index two.wires.levels.items) same ∙ two_here ∙ agree now (omega arith) ∙ sym (level_now n w now) ∙ sym (ap (λ (p : ℕ × ℕ). late_level n p now) (ap source same ∙ (chain given).own))
  level_none x (Some y) is low wire none =
      let wait = not_yet given x y wire is none in
      let far = (chain given).chained.delay x y is in
      two_else x (late_when given x (omega (arith, wait, far)))
      ∙ level_off x low wire
      ∙ sym (ap (λ b. cond b (initial_of (wire_at n (source x).0)) (level n (source x).0 (now - (source x).1))) (lt-ltb now (source x).1 (omega (arith, wait, far))))

  -- its level, as it is reached
  abbrev level_when : ℕ → Bool → ℕ
  level_when x reached = cond reached (cond (nat_lt now (source x).1) (slice_index two.wires.levels.items x) (level_of wave (now - (source x).1))) (slice_index two.wires.levels.items x)

  level_own : (x : ℕ) (a : Bool) → is_among x last.copies ≡ a → x < count → (source x).0 ≡ w → level_when x a ≡ late_level n (source x) now
  level_own x true there low wire = level_late x low wire (let later = (among_later source before next (chain given).chained w now last.copies w 0 x (chain given).own (behind given) there).later in later)
  level_own x false none low wire = level_none x (before x) refl low wire none

  pub level_turned : (x : ℕ) → x < count → IsLevelTurned n numbering w now s.wires new.wires x
  level_turned x low =
      let same = ap (length {A = ℕ}) (levels_two given) ∙ length-set s.wires.levels.items w (level_of wave now) ∙ shown.wires.places in
      (turned given).levels x (omega (arith, low, same)) ∙ by ((source x).0 == w) refl
    where
      by : (b : Bool) → ((source x).0 == w) ≡ b → level_when x (is_among x last.copies) ≡ cond b (late_level n (source x) now) (slice_index s.wires.levels.items x)
      by true here = level_own x (is_among x last.copies) refl low (eqb-true (source x).0 w here)
      by false other =
          ap (level_when x) (other_wire given x other)
          ∙ two_else x (ne_eqb x w (λ e. eqb-false (source x).0 w other (ap (λ v. (source v).0) e ∙ ap (λ (p : ℕ × ℕ). p.0) (chain given).own)))
