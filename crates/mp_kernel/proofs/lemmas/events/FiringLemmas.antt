-- Modules fire, one after the other.
use Rattle.std.proofs.Common.{◌≡◌, ◌≢◌, ℕ, ◌+◌, ◌<◌, ◌≤◌, Bool, true, false, cond, List, [], ◌∷◌, ◌++◌, length, take, refl, sym, ap, ◌∙◌, arith, eq-eqb, get_or-set_same, get_or-set_other, subst, append-nil}
use Rattle.std.specs.Prelude.{◌==◌, slice_set, slice_index_or, bit_xor}
use Rattle.std.proofs.lemmas.Bool.{eqb-true, eqb-false}
use Rattle.std.proofs.lemmas.Grind.{flat_map-append}
use Rattle.std.proofs.lemmas.List.{take_more, get_or_default}
use Rattle.mp_modules.specs.declared.automata.automaton_state.AutomatonState.{AutomatonState}
use Rattle.mp_modules.specs.declared.automata.port_levels.PortLevels.{PortLevels}
use Rattle.mp_modules.specs.automata.Codes.{bit}
use Rattle.mp_modules.specs.automata.PortLevels.{ports_code}
use Rattle.mp_kernel.specs.events.EventWheels.{with_entry}
use Rattle.mp_kernel.specs.events.Adding.{state_at, listed}
use Rattle.mp_kernel.specs.declared.events.output_ports.OutputPorts.{OutputPorts}
use Rattle.mp_kernel.specs.declared.events.output_port.OutputPort.{OutputPort}
use Rattle.mp_kernel.specs.events.Firing.{UnitState, reaction, scheduled, number_of, next_state, events_of, ports_at, AreNumbered, HaveFired, fired_by, StayElse, entry_of, copy_at, copied_from}
use Rattle.mp_kernel.specs.events.LevelFlips.{levels_at, flipped, HaveFlipped}
use Rattle.mp_kernel.proofs.lemmas.events.TogglingLemmas.{fresh, listed_next}

pub scheduled_append : (slots : List (List ℕ)) (xs ys : List (ℕ × ℕ)) → scheduled slots (xs ++ ys) ≡ scheduled (scheduled slots xs) ys
scheduled_append slots [] ys = refl
scheduled_append slots (x ∷ xs) ys = scheduled_append (with_entry slots x.0 x.1) xs ys

-- levels at a place, whatever stands for none
pub found_levels : (levels : List PortLevels) (i : ℕ) (s : PortLevels) → i < length levels → s ≡ slice_index_or levels i s → s.0 ≡ levels_at levels i
found_levels levels i s within is = ap (λ (k : PortLevels). k.0) (is ∙ get_or_default levels i s (record { 0 = 0 }) within)

-- what `flip` makes of the levels at a place
pub flips_one : (levels : List PortLevels) (place flips : ℕ) (old new : PortLevels) (s : UnitState) → place < length levels → old ≡ slice_index_or levels place old →
    new.0 ≡ bit_xor old.0 flips → flips ≡ ports_code s.events (reaction s).toggles → slice_set levels place new ≡ slice_set levels place (flipped s (levels_at levels place))
flips_one levels place flips old new s within at is code =
    ap (λ (k : ℕ). slice_set levels place (let l : PortLevels = record { 0 = k } in l))
    (is ∙ ap (λ k. bit_xor k flips) (found_levels levels place old within at) ∙ ap (λ k. bit_xor (levels_at levels place) k) code)

module _ (due : List ℕ) (i : ℕ) (within : i < length due) (once : (m : ℕ) → listed m due ≤ 1) where
  abbrev one : ℕ
  one = slice_index_or due i 0

  pub not_yet : listed (slice_index_or due i 0) (take i due) ≡ 0
  not_yet = fresh due i within once

  pub coded : (states now : List AutomatonState) (state_of : ℕ → UnitState) → ((m : ℕ) → listed m (take i due) ≡ 0 → state_at now m ≡ state_at states m) →
      slice_index_or due i 0 < length states → AreNumbered states state_of → state_at now (slice_index_or due i 0) ≡ number_of (state_of (slice_index_or due i 0))
  coded states now state_of others placed is = others (slice_index_or due i 0) not_yet ∙ is (slice_index_or due i 0) placed

  listed_now : listed (slice_index_or due i 0) (take (i + 1) due) ≡ 1
  listed_now =
      let none = not_yet in
      let more = listed_next due i (slice_index_or due i 0) within in
      let own : bit (slice_index_or due i 0 == slice_index_or due i 0) ≡ 1 = ap bit (eq-eqb (slice_index_or due i 0) _ refl) in
      omega arith

  listed_else : (m : ℕ) → (slice_index_or due i 0 == m) ≡ false → listed m (take (i + 1) due) ≡ listed m (take i due)
  listed_else m is =
      let more = listed_next due i m within in
      let none : bit (slice_index_or due i 0 == m) ≡ 0 = ap bit is in
      omega arith

  fired_states_at : (states now new : List AutomatonState) (state_of : ℕ → UnitState) (m : ℕ) (t : Bool) → (slice_index_or due i 0 == m) ≡ t → m < length states →
      HaveFired state_of (take i due) states now → slice_index_or due i 0 < length now →
      new ≡ slice_set now (slice_index_or due i 0) (next_state (state_of (slice_index_or due i 0))) → StayElse (slice_index_or due i 0) now new →
      state_at new m ≡ cond (listed m (take (i + 1) due) == 0) (state_at states m) (next_state (state_of m)).0
  fired_states_at states now new state_of m true is low before placed set else_stay =
      let w = slice_index_or due i 0 in
      let same : w ≡ m = eqb-true w m is in
      subst (λ k. state_at new k ≡ cond (listed k (take (i + 1) due) == 0) (state_at states k) (next_state (state_of k)).0) same
      (ap (λ xs. state_at xs w) set ∙ ap (λ (s : AutomatonState). s.0) (get_or-set_same now w (next_state (state_of w)) (record { 0 = 0 }) placed)
      ∙ sym (ap (λ n. cond (n == 0) (state_at states w) (next_state (state_of w)).0) listed_now))
  fired_states_at states now new state_of m false is low before placed set else_stay =
      let w = slice_index_or due i 0 in
      let other : m ≢ w = λ e. eqb-false w m is (sym e) in
      else_stay.each m other ∙ before m low ∙ sym (ap (λ n. cond (n == 0) (state_at states m) (next_state (state_of m)).0) (listed_else m is))

  flips_at : (levels now new : List PortLevels) (state_of : ℕ → UnitState) (m : ℕ) (t : Bool) → (slice_index_or due i 0 == m) ≡ t → m < length levels →
      HaveFlipped state_of (take i due) levels now → slice_index_or due i 0 < length now →
      new ≡ slice_set now (slice_index_or due i 0) (flipped (state_of (slice_index_or due i 0)) (levels_at now (slice_index_or due i 0))) →
      levels_at new m ≡ cond (listed m (take (i + 1) due) == 0) (levels_at levels m) (flipped (state_of m) (levels_at levels m)).0
  flips_at levels now new state_of m true is low before placed set =
      let w = slice_index_or due i 0 in
      let same : w ≡ m = eqb-true w m is in
      let old : levels_at now w ≡ levels_at levels w =
      before w (subst (λ k. k < length levels) (sym same) low)
      ∙ ap (λ n. cond (n == 0) (levels_at levels w) (flipped (state_of w) (levels_at levels w)).0) not_yet in
      subst (λ k. levels_at new k ≡ cond (listed k (take (i + 1) due) == 0) (levels_at levels k) (flipped (state_of k) (levels_at levels k)).0) same
      (ap (λ xs. levels_at xs w) set
      ∙ ap (λ (s : PortLevels). s.0) (get_or-set_same now w (flipped (state_of w) (levels_at now w)) (record { 0 = 0 }) placed)
      ∙ ap (λ k. (flipped (state_of w) k).0) old
      ∙ sym (ap (λ n. cond (n == 0) (levels_at levels w) (flipped (state_of w) (levels_at levels w)).0) listed_now))
  flips_at levels now new state_of m false is low before placed set =
      let w = slice_index_or due i 0 in
      let other : m ≢ w = λ e. eqb-false w m is (sym e) in
      ap (λ xs. levels_at xs m) set
      ∙ ap (λ (s : PortLevels). s.0) (get_or-set_other now w m (flipped (state_of w) (levels_at now w)) (record { 0 = 0 }) other)
      ∙ before m low
      ∙ sym (ap (λ n. cond (n == 0) (levels_at levels m) (flipped (state_of m) (levels_at levels m)).0) (listed_else m is))

  pub flips_next : (levels now new : List PortLevels) (state_of : ℕ → UnitState) → HaveFlipped state_of (take i due) levels now → slice_index_or due i 0 < length now →
      new ≡ slice_set now (slice_index_or due i 0) (flipped (state_of (slice_index_or due i 0)) (levels_at now (slice_index_or due i 0))) →
      HaveFlipped state_of (take (i + 1) due) levels new
  flips_next levels now new state_of before placed set m low = flips_at levels now new state_of m (slice_index_or due i 0 == m) refl low before placed set

  pub fired_next : (state_of : ℕ → UnitState) (ports : List OutputPorts) (slots now new : List (List ℕ)) → now ≡ scheduled slots (fired_by state_of ports (take i due)) →
      new ≡ scheduled now (events_of (state_of (slice_index_or due i 0)) (ports_at ports (slice_index_or due i 0))) →
      new ≡ scheduled slots (fired_by state_of ports (take (i + 1) due))
  fired_next state_of ports slots now new before then =
      let w = slice_index_or due i 0 in
      let last = events_of (state_of w) (ports_at ports w) in
      let is : fired_by state_of ports (take (i + 1) due) ≡ fired_by state_of ports (take i due) ++ last =
      ap (λ xs. fired_by state_of ports xs) (take_more due i 0 within)
      ∙ flat_map-append (λ m. events_of (state_of m) (ports_at ports m)) (take i due) (w ∷ [])
      ∙ ap (λ xs. fired_by state_of ports (take i due) ++ xs) (append-nil last) in
      then ∙ ap (λ xs. scheduled xs last) before ∙ sym (scheduled_append slots (fired_by state_of ports (take i due)) last) ∙ ap (λ xs. scheduled slots xs) (sym is)

  none_before : (m : ℕ) → listed m (take (i + 1) due) ≡ 0 → listed m (take i due) ≡ 0
  none_before m none = let more = listed_next due i m within in omega arith

  other_than : (m : ℕ) → listed m (take (i + 1) due) ≡ 0 → m ≢ slice_index_or due i 0
  other_than m none same =
      let now = listed_now in
      let e = ap (λ k. listed k (take (i + 1) due)) same in
      absurd (omega arith)

  pub others_next : (states now new : List AutomatonState) → ((m : ℕ) → listed m (take i due) ≡ 0 → state_at now m ≡ state_at states m) →
      StayElse (slice_index_or due i 0) now new → (m : ℕ) → listed m (take (i + 1) due) ≡ 0 → state_at new m ≡ state_at states m
  others_next states now new before stay m none = stay.each m (other_than m none) ∙ before m (none_before m none)

pub fired_next_states : (due : List ℕ) (i : ℕ) (within : i < length due) (once : (m : ℕ) → listed m due ≤ 1) (states now new : List AutomatonState) (state_of : ℕ → UnitState) →
    HaveFired state_of (take i due) states now → slice_index_or due i 0 < length now →
    new ≡ slice_set now (slice_index_or due i 0) (next_state (state_of (slice_index_or due i 0))) → StayElse (slice_index_or due i 0) now new →
    HaveFired state_of (take (i + 1) due) states new
fired_next_states due i within once states now new state_of before placed set stay m low =
    fired_states_at due i within once states now new state_of m (slice_index_or due i 0 == m) refl low before placed set stay

pub copied_next : (copies : List OutputPort) (wires : List ℕ) (i : ℕ) → i < length wires → (slots now new : List (List ℕ)) →
    now ≡ scheduled slots (copied_from copies (take i wires)) → new ≡ scheduled now (entry_of (copy_at copies (slice_index_or wires i 0))) →
    new ≡ scheduled slots (copied_from copies (take (i + 1) wires))
copied_next copies wires i within slots now new before then =
    let last = entry_of (copy_at copies (slice_index_or wires i 0)) in
    let is : copied_from copies (take (i + 1) wires) ≡ copied_from copies (take i wires) ++ last =
    ap (λ xs. copied_from copies xs) (take_more wires i 0 within)
    ∙ flat_map-append (λ w. entry_of (copy_at copies w)) (take i wires) (slice_index_or wires i 0 ∷ [])
    ∙ ap (λ xs. copied_from copies (take i wires) ++ xs) (append-nil last) in
    then ∙ ap (λ xs. scheduled xs last) before ∙ sym (scheduled_append slots (copied_from copies (take i wires)) last) ∙ ap (λ xs. scheduled slots xs) (sym is)
