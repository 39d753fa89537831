-- What is reached when a wire is turned on.
use Rattle.std.proofs.Common.{◌≡◌, ℕ, suc, ◌+◌, ◌-◌, ◌<◌, ◌≤◌, Bool, true, false, List, Option, Some, None, cond, length, nat_lt, refl, ap, sym, subst, ◌∙◌, arith, inl, inr}
use Rattle.std.specs.Prelude.{◌==◌, ◌&&◌, slice_set}
use Rattle.std.proofs.lemmas.Bool.{cases_Bool, eqb-false, ne_eqb, ltb-true, le-ltb, and_right}
use Rattle.mp_wave.specs.Waveform.{Waveform, IsWaveform, level_of, kept_before}
use Rattle.mp_netlist.specs.Circuit.{Circuit, IsCircuit}
use Rattle.mp_model.specs.Waves.{level}
use Rattle.mp_modules.specs.automata.Codes.{bit}
use Rattle.mp_kernel.specs.declared.events.output_port.OutputPort.{OutputPort}
use Rattle.mp_kernel.specs.events.Firing.{copy_at}
use Rattle.mp_simulation.specs.declared.bits.delayed_copies.DelayedCopies.{DelayedCopies}
use Rattle.mp_simulation.specs.declared.bits.simulation.Simulation.{Simulation}
use Rattle.mp_simulation.specs.bits.Changes.{change_at, late_change}
use Rattle.mp_simulation.specs.bits.Copies.{later_by}
use Rattle.mp_simulation.specs.declared.units.data_wires.DataWires.{DataWires}
use Rattle.mp_simulation.specs.declared.units.netlist_simulation.NetlistSimulation.{NetlistSimulation}
use Rattle.mp_simulation.specs.units.DataLevels.{is_data}
use Rattle.mp_active.specs.excerpt.Numberings.{Numbering}
use Rattle.mp_active.specs.excerpt.Showing.{Shows}
use Rattle.mp_active.specs.steps.Chains.{next_in, AreBehind, AreCopiesTurned}
use Rattle.mp_active.specs.steps.TurningOn.{HasSetLevel, HasSetWave}
use Rattle.mp_active.proofs.lemmas.steps.ReachedLemmas.{is_among, among_later, not_reached}
use Rattle.mp_active.proofs.lemmas.steps.TurnedLemmas.{late_bit, HasTurned, copies_turned}
use Rattle.mp_active.proofs.lemmas.steps.ChainedLemmas.{before_in, HasChain, chain_of}

-- a wire gets its level, then its wave, and then its copies theirs
pub record Turning : Type 0 where
  pub n : Circuit
  pub ok : IsCircuit n
  pub active : ℕ → Bool
  pub on : ℕ → Bool
  pub numbering : Numbering
  pub w : ℕ
  pub now : ℕ
  pub wave : Waveform
  pub form : IsWaveform wave
  pub s : NetlistSimulation
  pub one : NetlistSimulation
  pub two : NetlistSimulation
  pub new : NetlistSimulation
  pub wide : Bool
  pub shown : Shows n active on numbering now s
  pub off : on w ≡ false
  pub kind : is_data n w ≡ wide
  pub stands : w < length n.wires
  pub agree : (u : ℕ) → u ≤ now → level_of wave u ≡ level n w u
  pub first : HasSetLevel w (level_of wave now) s one
  pub then : HasSetWave wide (kept_before (now + 1) wave) w (now + 1) one two
  pub last : AreCopiesTurned wide wave w now two new

-- ---- what isn't reached has nothing to come
pub none_late : (known : Bool) (k : ℕ) → bit (known && nat_lt k 0) ≡ 0
none_late known k = ap bit (and_right known (nat_lt k 0) (le-ltb k 0 (omega arith)))

no_bit : (a b : Bool) → (b ≡ true → a ≡ false) → bit (a && b) ≡ 0
no_bit a true none = ap (λ x. bit (x && true)) (none refl)
no_bit a false none = ap bit (and_right a false refl)

module _ (given : Turning) where
  open given use {n, active, on, numbering, w, now, wave, form, s, one, two, new, wide, shown, kind, stands, agree, first, then, last}

  abbrev source : ℕ → ℕ × ℕ
  source = numbering.source

  abbrev before : ℕ → Option ℕ
  before = before_in wide numbering

  abbrev next : List OutputPort
  next = next_in wide s

  abbrev count : ℕ
  count = length s.bits.simulator.fanout

  abbrev amount : ℕ → ℕ → ℕ
  amount x k = late_bit n now source before next x k

  pub chain : HasChain numbering w count before next
  chain = chain_of n active on numbering w now s shown wide kind stands

  -- ---- what stays
  pub copies_two : two.bits.copies ≡ s.bits.copies
  copies_two = ap (λ (b : Simulation). b.copies) then.bits ∙ ap (λ (b : Simulation). b.copies) first.bits

  pub next_two : two.wires.next ≡ s.wires.next
  next_two = ap (λ (v : DataWires). v.next) then.wires ∙ ap (λ (v : DataWires). v.next) first.wires

  pub wheel_two : two.wires.wheel ≡ s.wires.wheel
  wheel_two = ap (λ (v : DataWires). v.wheel) then.wires ∙ ap (λ (v : DataWires). v.wheel) first.wires

  pub levels_two : two.wires.levels.items ≡ slice_set s.wires.levels.items w (level_of wave now)
  levels_two = ap (λ (v : DataWires). v.levels.items) then.wires ∙ first.levels

  same_next : (b : Bool) → next_in b two ≡ next_in b s
  same_next true = ap (λ x. x.items) next_two
  same_next false = ap (λ (x : DelayedCopies). x.next.items) copies_two

  pub behind : AreBehind next now w 0 last.copies
  behind = subst (λ (xs : List OutputPort). AreBehind xs now w 0 last.copies) (same_next wide) last.behind

  pub turned : HasTurned n now wave source before next wide last.copies two new
  turned = copies_turned n w now wave form agree source before next chain.chained wide last.copies w 0 two new chain.own behind last.turned

  pub simulator_two : new.bits.simulator ≡ two.bits.simulator
  simulator_two = ap (λ (b : Simulation). b.simulator) turned.bits

  -- ---- which numbers are reached
  pub other_wire : (x : ℕ) → ((source x).0 == w) ≡ false → is_among x last.copies ≡ false
  other_wire x other = elim (cases_Bool (is_among x last.copies)) as (λ _. is_among x last.copies ≡ false) [
    | inl there ↦ absurd (eqb-false (source x).0 w other (among_later source before next chain.chained w now last.copies w 0 x chain.own behind there).wire)
    | inr none ↦ none
  ]

  pub late_when : (x : ℕ) → 0 < (source x).1 → (x == w) ≡ false
  late_when x some = ne_eqb x w (λ e. let far : (source x).1 ≡ 0 = ap (λ (v : ℕ). (source v).1) e ∙ ap (λ (p : ℕ × ℕ). p.1) chain.own in let no : ⊥ = omega (arith, some, far) in no)

  pub not_yet : (x y : ℕ) → (source x).0 ≡ w → before x ≡ Some y → is_among x last.copies ≡ false → now < (source y).1
  not_yet x y wire after none = not_reached source before next chain.chained w now last.copies chain.own behind chain.root (suc (source x).1) x y (omega arith) wire after none

  -- so it has no change that comes of one up to now
  nothing_due : (x k : ℕ) (o : Option ℕ) → before x ≡ o → (source x).0 ≡ w → is_among x last.copies ≡ false → bit (late_change n (source x) (now + 1 + k) && nat_lt k (later_by next o)) ≡ 0
  nothing_due x k None is wire none = none_late (late_change n (source x) (now + 1 + k)) k
  nothing_due x k (Some y) is wire none = no_bit (late_change n (source x) (now + 1 + k)) (nat_lt k (copy_at next y).delay) (λ low.
      let soon = ltb-true k (copy_at next y).delay low in
      let wait = not_yet x y wire is none in
      let far = chain.chained.delay x y is in
      ap (λ b. cond b (change_at n (source x).0 (now + 1 + k - (source x).1)) false) (le-ltb (source x).1 (now + 1 + k) (omega (arith, soon, wait, far))))

  pub due_by : (x k : ℕ) (b : Bool) → is_among x last.copies ≡ b → (source x).0 ≡ w → cond b (amount x k) 0 ≡ amount x k
  due_by x k true is wire = refl
  due_by x k false none wire =
      sym (nothing_due x k (before x) refl wire none)
