-- A simulation of a whole netlist goes on, and its waves at the end.
use Rattle.std.proofs.Common.{◌≡◌, ℕ, ◌+◌, ◌-◌, ◌<◌, ◌≤◌, Bool, true, false, List, [], ◌∷◌, ◌++◌, Option, Some, None, is_some, IsSome, option_to_list, drop, All, length, nat_lt, refl, sym, ap, ◌∙◌, arith, inl, inr}
use Rattle.std.specs.Prelude.{◌&&◌}
use Rattle.std.proofs.lemmas.Bool.{cases_lt, cases_eq}
use Rattle.std.proofs.lemmas.Bool.Decides.{nat_tests}
use Rattle.std.proofs.lemmas.List.{get_or_past, get_or_push, get_or_append_left}
use Rattle.mp_wave.specs.Waveform.{Waveform, wave_upto}
use Rattle.mp_records.specs.declared.wire_record.WireRecord.{WireRecord}
use Rattle.mp_netlist.specs.Slots.{slot_at}
use Rattle.mp_netlist.specs.Circuit.{Circuit, IsCircuit, wire_at}
use Rattle.mp_netlist.specs.Drivers.{driver}
use Rattle.mp_netlist.proofs.DriverLemmas.{leaves_no_driver}
use Rattle.mp_model.specs.Waves.{level, slot_wave, AreWavesOf}
use Rattle.mp_modules.specs.automata.Codes.{bit}
use Rattle.mp_kernel.specs.events.Adding.{listed}
use Rattle.mp_kernel.specs.events.Toggling.{wave_at}
use Rattle.mp_simulation.specs.declared.bits.simulation.Simulation.{Simulation}
use Rattle.mp_simulation.specs.bits.Changes.{change_at}
use Rattle.mp_simulation.specs.bits.Scopes.{Scope, known_after, with_answers}
use Rattle.mp_simulation.specs.bits.Simulators.{CanApply}
use Rattle.mp_simulation.specs.bits.Simulations.{copy_slot, IsSoundRun, IsRunning}
use Rattle.mp_simulation.specs.bits.WholeRuns.{IsWhole, AreSet, is_stimulus}
use Rattle.mp_simulation.proofs.lemmas.bits.ListedLemmas.{all_below}
use Rattle.mp_simulation.proofs.lemmas.bits.SimulationLemmas.{can_go_on}
use Rattle.mp_simulation.specs.run.Runs.{wave_in}
use Rattle.mp_simulation.specs.run.Evaluations.{IsEvaluated}
use Rattle.mp_simulation.proofs.lemmas.run.FoundLemmas.{next_item}

known_is : (o : Option ℕ) (units known : ℕ) → is_some o ≡ true → known_after o units known ≡ units
known_is None units known some = cc
known_is (Some q) units known some = refl

none_of : (c s b : Bool) → s ≡ false → bit (c && s && b) ≡ 0
none_of true s b none = ap (λ x. bit (x && b)) none
none_of false s b none = refl

module _ (n : Circuit) (ok : IsCircuit n) (t : ℕ) (s : Simulation) (set : List ℕ) (is : IsEvaluated n t s) (are_set : AreSet n is.scope set (t + 1)) where
  -- no stimulus drives what is no wire
  none_past : (w : ℕ) → length s.simulator.waves ≤ w → listed w set ≡ 0
  none_past w past =
      let long = is.waves in
      are_set w ∙ none_of (change_at n w (t + 1)) (is_stimulus (driver n w)) (is.scope.traces w) (ap is_stimulus (leaves_no_driver n ok w (get_or_past n.wires w None (omega arith))))

  waved : All (λ w. w < length s.simulator.waves) set
  waved = all_below (length s.simulator.waves) set none_past

  pub fit : CanApply s.simulator set (copy_slot s.copies 0) (t + 1)
  fit = can_go_on n ok is.scope is.before t s set is.sound is.running is.whole are_set waved

  whole_next : IsWhole n (with_answers is.scope (t + 2)) is.before (t + 1)
  whole_next = record {
    source = is.whole.source;
    own = λ w traced. is.own w (t + 1 + 1) ∙ traced;
    other = λ w traced. is.own w (t + 1 + 1) ∙ traced;
    arrived = λ w p m r drives at traced.
        let was = is.running.simulator.stands.answered in
        let early = is.whole.arrived w p m r drives at traced in
        let now : known_after (is.scope.place m.0) (t + 2) (is.scope.known m.0) ≡ t + 2 = known_is (is.scope.place m.0) (t + 2) (is.scope.known m.0) (is.placed m.0 r at) in
        let before : is.scope.known m.0 ≡ t + 1 = known_before m.0 (is.scope.place m.0) refl (is.placed m.0 r at) in
        omega arith;
    copies = is.whole.copies;
    inputs = is.whole.inputs;
  }
    where
      known_before : (m : ℕ) (o : Option ℕ) → is.scope.place m ≡ o → is_some o ≡ true → is.scope.known m ≡ t + 1
      known_before m None at some = cc
      known_before m (Some q) at some = is.running.simulator.stands.answered m q at

  pub passed : (new : Simulation) → IsSoundRun new → length new.simulator.waves ≡ length s.simulator.waves →
      ((scope : Scope) (before : ℕ → Option ℕ) → IsWhole n scope before t → AreSet n scope set (t + 1) → IsRunning n scope before t s → IsRunning n (with_answers scope (t + 2)) before (t + 1) new) →
      IsEvaluated n (t + 1) new
  passed new sound long run = record {
    scope = with_answers is.scope (t + 2);
    before = is.before;
    sound = sound;
    running = run is.scope is.before is.whole are_set is.running;
    whole = whole_next;
    own = is.own;
    placed = is.placed;
    traces = is.traces;
    waves = long ∙ is.waves;
  }

-- ---- the waves

wave_of_slot : (n : Circuit) (w : ℕ) (wave : Waveform) (slot : Option WireRecord) → wave ≡ wave_upto (level n w) (n.horizon - 1) → wave_in slot (Some wave) ≡ slot_wave n w slot
wave_of_slot n w wave None is = refl
wave_of_slot n w wave (Some r) is = ap (λ (v : Waveform). Some v) is

-- the next wave is that of its wire
pub one_wave : (n : Circuit) (s : Simulation) (w : ℕ) (left rest : List Waveform) (item : Option Waveform) → IsEvaluated n (n.horizon - 1) s → ((u : ℕ) → level n w u ≤ 1) → w < length n.wires →
    left ≡ drop w s.simulator.waves → left ≡ option_to_list item ++ rest → IsSome item →
    (wave_in (wire_at n w) item ≡ slot_wave n w (wire_at n w)) × (rest ≡ drop (w + 1) s.simulator.waves)
one_wave n s w left rest item is bits low left_is taken some =
    let long = is.waves in
    let within : w < length s.simulator.waves = omega arith in
    let test : nat_lt w (length n.wires) ≡ true = grind (arith, nat_tests) in
    let wave = wave_at s.simulator.waves w in
    let first = next_item item rest s.simulator.waves w (record { initial = 0; changes = [] }) some within (sym left_is ∙ taken) in
    (ap (wave_in (wire_at n w)) first.0 ∙ wave_of_slot n w (wave_at s.simulator.waves w) (wire_at n w) ((is.running.simulator.stands.waves w within (is.traces w ∙ test)).whole bits), first.1)

-- one more wave is that of its wire
pub waves_more : (n : Circuit) (w : ℕ) (found new : List (Option Waveform)) (wave : Option Waveform) → length found ≡ w → new ≡ found ++ wave ∷ [] → wave ≡ slot_wave n w (wire_at n w) →
    ((k : ℕ) → k < w → slot_at found k ≡ slot_wave n k (wire_at n k)) → (k : ℕ) → k < w + 1 → slot_at new k ≡ slot_wave n k (wire_at n k)
waves_more n w found new wave long pushed is each k low = elim (cases_eq k w) as (λ _. slot_at new k ≡ slot_wave n k (wire_at n k)) [
  | inl same ↦
      ap (λ (xs : List (Option Waveform)). slot_at xs k) pushed ∙ get_or_push found wave None k (omega arith) ∙ is
      ∙ ap (λ j. slot_wave n j (wire_at n j)) (sym same)
  | inr other ↦ ap (λ (xs : List (Option Waveform)). slot_at xs k) pushed ∙ get_or_append_left found (wave ∷ []) None k (omega arith) ∙ each k (omega arith)
]

pub all_waves : (n : Circuit) (found : List (Option Waveform)) → length found ≡ length n.wires → ((w : ℕ) → w < length n.wires → slot_at found w ≡ slot_wave n w (wire_at n w)) → AreWavesOf n found
all_waves n found long each w = elim (cases_lt w (length n.wires)) as (λ _. slot_at found w ≡ slot_wave n w (wire_at n w)) [
  | inl low ↦ each w low
  | inr past ↦ get_or_past found w None (omega arith) ∙ sym (ap (slot_wave n w) (get_or_past n.wires w None past))
]
