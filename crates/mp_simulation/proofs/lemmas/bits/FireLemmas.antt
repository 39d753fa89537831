-- The modules that are due fire.
use Rattle.std.proofs.Common.{◌≡◌, ℕ, ◌%◌, ◌<◌, ◌≤◌, Bool, true, false, cond, nat_lt, List, [], length, All, refl, sym, ap, ◌∙◌, arith, subst}
use Rattle.std.specs.Prelude.{◌==◌, slice_index_or}
use Rattle.std.specs.List.{count_by}
use Rattle.std.proofs.lemmas.Bool.{eqb-true}
use Rattle.std.proofs.lemmas.Bool.Decides.{nat_tests}
use Rattle.std.proofs.Math.ListN.{get_or-eq_default}
use Rattle.mp_wave.specs.Waveform.{Waveform}
use Rattle.mp_modules.specs.declared.automata.automaton_state.AutomatonState.{AutomatonState}
use Rattle.mp_modules.specs.declared.automata.toggles.Toggles.{Toggles}
use Rattle.mp_modules.specs.automata.Codes.{no_events}
use Rattle.mp_kernel.specs.declared.events.fanout_entry.FanoutEntry.{FanoutEntry}
use Rattle.mp_kernel.specs.declared.events.output_ports.OutputPorts.{OutputPorts}
use Rattle.mp_kernel.specs.events.Adding.{state_at, listed, IsAdding}
use Rattle.mp_kernel.specs.events.Toggling.{row_at}
use Rattle.mp_kernel.specs.events.Firing.{UnitState, reaction, number_of, next_state, events_of, AreNumbered, HaveFired, HaveSlots, ports_at, no_port, scheduled, fired_at, fired_by, is_entry}
use Rattle.mp_kernel.specs.events.LevelFlips.{HaveFlipped}
use Rattle.mp_kernel.proofs.lemmas.events.EntryLemmas.{schedules_each}
use Rattle.mp_simulation.specs.declared.bits.simulator.Simulator.{Simulator}
use Rattle.mp_simulation.specs.bits.Simulators.{slot_at, AreBelow, IsSound}
use Rattle.mp_simulation.proofs.lemmas.bits.ScheduleLemmas.{none_there, counted_fired, counted_flat, sum_of_none}
use Rattle.mp_simulation.proofs.lemmas.bits.ListedLemmas.{all_below}
use Rattle.mp_simulation.proofs.lemmas.bits.NumberLemmas.{events_part, number_low}

-- what becomes of a simulator whose modules fire
pub record IsFired (s new : Simulator) : Type 0 where
  pub states : (state_of : ℕ → UnitState) → AreNumbered s.states.items state_of → HaveFired state_of s.due.items s.states.items new.states.items
  pub levels : (state_of : ℕ → UnitState) → AreNumbered s.states.items state_of → HaveFlipped state_of s.due.items s.levels.items new.levels.items
  pub wheel : (state_of : ℕ → UnitState) → AreNumbered s.states.items state_of → new.wheel ≡ scheduled s.wheel (fired_by state_of s.outputs s.due.items)
  pub units : length new.wheel ≡ length s.wheel
  pub places : length new.states.items ≡ length s.states.items
  pub leveled : length new.levels.items ≡ length s.levels.items
  pub due : new.due.items ≡ []
  pub fanout : new.fanout ≡ s.fanout
  pub outputs : new.outputs ≡ s.outputs
  pub waves : new.waves ≡ s.waves

pub is_fired : (s new : Simulator) (due : List ℕ) → due ≡ s.due.items →
    ((state_of : ℕ → UnitState) → AreNumbered s.states.items state_of → HaveFired state_of due s.states.items new.states.items) →
    ((state_of : ℕ → UnitState) → AreNumbered s.states.items state_of → HaveFlipped state_of due s.levels.items new.levels.items) →
    ((state_of : ℕ → UnitState) → AreNumbered s.states.items state_of → new.wheel ≡ scheduled s.wheel (fired_by state_of s.outputs due)) →
    length new.wheel ≡ length s.wheel → length new.states.items ≡ length s.states.items → length new.levels.items ≡ length s.levels.items → new.due.items ≡ [] →
    new.fanout ≡ s.fanout → new.outputs ≡ s.outputs → new.waves ≡ s.waves → IsFired s new
is_fired s new due same_due states levels wheel units places leveled none fanout same waves = record {
  states = λ state_of numbered. subst (λ (xs : List ℕ). HaveFired state_of xs s.states.items new.states.items) same_due (states state_of numbered);
  levels = λ state_of numbered. subst (λ (xs : List ℕ). HaveFlipped state_of xs s.levels.items new.levels.items) same_due (levels state_of numbered);
  wheel = λ state_of numbered. wheel state_of numbered ∙ ap (λ (xs : List ℕ). scheduled s.wheel (fired_by state_of s.outputs xs)) same_due;
  units = units;
  places = places;
  leveled = leveled;
  due = none;
  fanout = fanout;
  outputs = same;
  waves = waves;
}

-- where there is no place there is no state
nowhere : (states : List AutomatonState) (q : ℕ) → length states ≤ q → state_at states q ≡ 0
nowhere states q beyond = ap (λ (s : AutomatonState). s.0) (get_or-eq_default states (record { 0 = 0 }) beyond)

none_due : (n s : ℕ) → n ≡ cond (s % 16 == 0) 0 1 → s ≡ 0 → n ≡ 0
none_due n s is none = is ∙ ap (λ k. cond (k % 16 == 0) 0 1) none

at_most : {n : ℕ} (t : Bool) → n ≡ cond t 0 1 → n ≤ 1
at_most true is = omega arith
at_most false is = omega arith

pub due_once : (s : Simulator) → IsSound s → (q : ℕ) → listed q s.due.items ≤ 1
due_once s sound q = at_most (state_at s.states.items q % 16 == 0) (sound.events.once q)

pub due_placed : (s : Simulator) → IsSound s → All (λ q. q < length s.states.items) s.due.items
due_placed s sound =
    all_below (length s.states.items) s.due.items (λ q high. none_due (listed q s.due.items) (state_at s.states.items q) (sound.events.once q) (nowhere s.states.items q high))

pub due_led : (s : Simulator) → IsSound s → All (λ q. q < length s.outputs) s.due.items
due_led s sound k d within =
    let low : slice_index_or s.due.items k d < length s.states.items = due_placed s sound k d within in
    let same = sound.outputs in
    omega arith

-- a state once its module has fired
abbrev pub after : UnitState → UnitState
after u = record { automaton = u.automaton; phase = (reaction u).phase; events = no_events }

abbrev state_then : Bool → UnitState → UnitState
state_then idle u = cond idle u (after u)

numbered_then : (idle : Bool) (u : UnitState) (x : ℕ) → x ≡ number_of u → cond idle x (next_state u).0 ≡ number_of (state_then idle u)
numbered_then true u x is = is
numbered_then false u x is = refl

low_when : (x : ℕ) (u : UnitState) (low : Bool) (q size : ℕ) → nat_lt q size ≡ low → (q < size → x ≡ number_of u) → (size ≤ q → x ≡ 0) → x < 2112
low_when x u true q size is numbered none =
    let within : q < size = grind (arith, nat_tests) in
    let same = numbered within in
    let low = number_low u in
    omega arith
low_when x u false q size is numbered none =
    let beyond : size ≤ q = grind (arith, nat_tests) in
    let zero_x = none beyond in
    omega arith

pub by_once : (r n : ℕ) (t : Bool) → (r == 0) ≡ t → n ≡ cond t 0 1 → n ≡ 0 → r ≡ 0
by_once r n true is once none = eqb-true r 0 is
by_once r n false is once none = absurd (omega arith)

-- an idle module has no event, and one that has fired has none left
quiet_then : (idle : Bool) (n s x : ℕ) (u : UnitState) → (n == 0) ≡ idle → n ≡ cond (s % 16 == 0) 0 1 → x ≡ cond idle s (next_state u).0 → x % 16 ≡ 0
quiet_then true n s x u is once now =
    let none : n ≡ 0 = eqb-true n 0 is in
    let same : x ≡ s = now in
    rw same (by_once (s % 16) n (s % 16 == 0) refl once none)
quiet_then false n s x u is once now = ap (λ k. k % 16) now ∙ events_part (after u)

quiet_when : (x : ℕ) (low : Bool) (q size : ℕ) → nat_lt q size ≡ low → (q < size → x % 16 ≡ 0) → (size ≤ q → x ≡ 0) → x % 16 ≡ 0
quiet_when x true q size is quiet_in none = quiet_in (grind (arith, nat_tests))
quiet_when x false q size is quiet_in none = ap (λ k. k % 16) (none (grind (arith, nat_tests)))

-- outputs whose wires are below a bound schedule no wire from there on
unscheduled : (k w bound : ℕ) (ports : OutputPorts) (T : Toggles) → AreBelow bound ports → bound ≤ w → count_by (is_entry k w) (fired_at ports T) ≡ 0
unscheduled k w bound ports T below high =
    let sum = counted_fired k w ports T in
    let a = none_there k w ports.first.delay ports.first.wire T.first (λ e. let low = below.first w e in absurd (omega arith)) in
    let b = none_there k w ports.second.delay ports.second.wire T.second (λ e. let low = below.second w e in absurd (omega arith)) in
    let c = none_there k w ports.third.delay ports.third.wire T.third (λ e. let low = below.third w e in absurd (omega arith)) in
    omega arith

module _ (s new : Simulator) (sound : IsSound s) (is : IsFired s new) where
  units_then : ℕ → UnitState
  units_then q = state_then (listed q s.due.items == 0) (sound.units q)

  state_now : (q : ℕ) → q < length s.states.items → state_at new.states.items q ≡ cond (listed q s.due.items == 0) (state_at s.states.items q) (next_state (sound.units q)).0
  state_now q within = is.states sound.units sound.numbered q within

  numbered_now : AreNumbered new.states.items units_then
  unfolding units_then
  numbered_now q within =
      let places = is.places in
      let low : q < length s.states.items = omega arith in
      state_now q low ∙ numbered_then (listed q s.due.items == 0) (sound.units q) (state_at s.states.items q) (sound.numbered q low)

  gone : (q : ℕ) → length s.states.items ≤ q → state_at new.states.items q ≡ 0
  gone q beyond = let places = is.places in nowhere new.states.items q (omega arith)

  pub quiet_now : (q : ℕ) → state_at new.states.items q % 16 ≡ 0
  quiet_now q =
      quiet_when (state_at new.states.items q) (nat_lt q (length s.states.items)) q (length s.states.items) refl
      (λ within. quiet_then (listed q s.due.items == 0) (listed q s.due.items) (state_at s.states.items q) (state_at new.states.items q) (sound.units q) refl (sound.events.once q) (state_now q within))
      (gone q)

  adding_now : IsAdding new.states.items new.due.items []
  adding_now = record {
    placed = λ k d within. absurd (omega arith);
    events = λ k d within. absurd (omega arith);
    low = λ q. low_when (state_at new.states.items q) (units_then q) (nat_lt q (length new.states.items)) q (length new.states.items) refl (numbered_now q) (nowhere new.states.items q);
    room = λ q. let none = quiet_now q in omega arith;
    once = λ q. ap (λ xs. listed q xs) is.due ∙ sym (ap (λ k. cond (k == 0) 0 1) (quiet_now q));
  }

  waved_when : (w k : ℕ) (low : Bool) → nat_lt k (length s.wheel) ≡ low → length s.waves ≤ w → listed w (slot_at new k) ≡ 0
  waved_when w k true low high =
      let within : k < length s.wheel = grind (arith, nat_tests) in
      let entries = fired_by sound.units s.outputs s.due.items in
      let old = sound.waved w k high in
      let more = schedules_each s.wheel entries k w within in
      let none : count_by (is_entry k w) entries ≡ 0 =
      counted_flat k w (λ x. events_of (sound.units x) (ports_at s.outputs x)) s.due.items
      ∙ sum_of_none (λ x. count_by (is_entry k w) (events_of (sound.units x) (ports_at s.outputs x))) s.due.items
      (λ j d inside_due.
      let x = slice_index_or s.due.items j d in
      unscheduled k w (length s.waves) (ports_at s.outputs x) (reaction (sound.units x)).toggles
      (sound.driven x (record { first = no_port; second = no_port; third = no_port }) (due_led s sound j d inside_due)) high) in
      ap (λ (xs : List (List ℕ)). listed w (slice_index_or xs k [])) (is.wheel sound.units sound.numbered) ∙ omega arith
  waved_when w k false low high =
      let beyond : length s.wheel ≤ k = grind (arith, nat_tests) in
      let long = is.units in
      ap (λ xs. listed w xs) (get_or-eq_default new.wheel [] (omega arith))

  pub fired_sound : IsSound new
  fired_sound = record {
    units = units_then;
    numbered = numbered_now;
    events = adding_now;
    levels = is.leveled ∙ sound.levels ∙ sym is.places;
    outputs = ap (length {A = OutputPorts}) is.outputs ∙ sound.outputs ∙ sym is.places;
    rows = let rows = sound.rows in let a = ap (length {A = Waveform}) is.waves in let b = ap (length {A = List FanoutEntry}) is.fanout in omega arith;
    placed = λ x. subst (λ (rows : List (List FanoutEntry)). All (λ (l : FanoutEntry). l.module < length new.states.items) (row_at rows x)) (sym is.fanout)
        (subst (λ k. All (λ (l : FanoutEntry). l.module < k) (row_at s.fanout x)) (sym is.places) (sound.placed x));
    eventful = λ x. subst (λ (rows : List (List FanoutEntry)). All (λ (l : FanoutEntry). 0 < l.event) (row_at rows x)) (sym is.fanout) (sound.eventful x);
    some = let some = sound.some in let a = is.units in omega arith;
    within = subst (λ (xs : List OutputPorts). All (HaveSlots (length new.wheel)) xs) (sym is.outputs) (subst (λ k. All (HaveSlots k) s.outputs) (sym is.units) sound.within);
    driven = subst (λ (xs : List OutputPorts). All (AreBelow (length new.waves)) xs) (sym is.outputs)
        (subst (λ k. All (AreBelow k) s.outputs) (sym (ap (length {A = Waveform}) is.waves)) sound.driven);
    waved = λ w k high. waved_when w k (nat_lt k (length s.wheel)) refl (let a = ap (length {A = Waveform}) is.waves in omega arith);
  }
