-- Changes to come are put into the wheels, one after the other.
use Rattle.std.proofs.Common.{◌≡◌, ℕ, ◌+◌, ◌-◌, ◌<◌, ◌≤◌, Bool, true, false, List, [], ◌∷◌, ◌++◌, All, cond, length, nat_lt, refl, ap, ◌∙◌, arith}
use Rattle.std.specs.Prelude.{slice_set, slice_index_or}
use Rattle.std.proofs.lemmas.Bool.{ltb-true}
use Rattle.std.proofs.lemmas.List.{length-set}
use Rattle.std.proofs.lemmas.List.Elements.{All-nil, All-cons, All-head, All-tail}
use Rattle.mp_wave.specs.Waveform.{between, later_than, earlier_than}
use Rattle.mp_simulation.specs.declared.bits.simulation.Simulation.{Simulation}
use Rattle.mp_kernel.specs.events.Firing.{scheduled}
use Rattle.mp_kernel.specs.declared.datapath.level_change.LevelChange.{LevelChange}
use Rattle.mp_kernel.specs.datapath.LevelWheels.{scheduled as levels_scheduled}
use Rattle.mp_simulation.specs.declared.units.data_wires.DataWires.{DataWires}
use Rattle.mp_simulation.specs.declared.units.netlist_simulation.NetlistSimulation.{NetlistSimulation}
use Rattle.mp_active.specs.steps.Putting.{HasPut, IsAhead, toggles_of, room}

-- of all entries these are left to be put
pub record PutSoFar (with_data : Bool) (all left : List (ℕ × LevelChange)) (s now : NetlistSimulation) : Type 0 where
  pub bits : now.bits ≡ record (s.bits) { simulator = record (s.bits.simulator) { wheel = now.bits.simulator.wheel } }
  pub events : cond with_data now.bits.simulator.wheel (scheduled now.bits.simulator.wheel (toggles_of left)) ≡ cond with_data s.bits.simulator.wheel (scheduled s.bits.simulator.wheel (toggles_of all))
  pub units : length now.bits.simulator.wheel ≡ length s.bits.simulator.wheel
  pub wires : now.wires ≡ record (s.wires) { wheel = now.wires.wheel }
  pub changes : cond with_data (levels_scheduled now.wires.wheel left) now.wires.wheel ≡ cond with_data (levels_scheduled s.wires.wheel all) s.wires.wheel
  pub change_units : length now.wires.wheel ≡ length s.wires.wheel
  pub modules : now.modules ≡ s.modules
  pub room : room with_data now ≡ room with_data s

pub scheduled_length : (slots : List (List ℕ)) (entries : List (ℕ × ℕ)) → length (scheduled slots entries) ≡ length slots
scheduled_length slots [] = refl
scheduled_length slots (entry ∷ entries) =
    scheduled_length (slice_set slots entry.0 (slice_index_or slots entry.0 [] ++ entry.1 ∷ [])) entries ∙ length-set slots entry.0 (slice_index_or slots entry.0 [] ++ entry.1 ∷ [])

pub levels_length : (slots : List (List LevelChange)) (entries : List (ℕ × LevelChange)) → length (levels_scheduled slots entries) ≡ length slots
levels_length slots [] = refl
levels_length slots (entry ∷ entries) =
    levels_length (slice_set slots entry.0 (slice_index_or slots entry.0 [] ++ entry.1 ∷ [])) entries ∙ length-set slots entry.0 (slice_index_or slots entry.0 [] ++ entry.1 ∷ [])

-- a wheel of wires of width 1, and one of wires with data, into which entries are put of wires that have data or don't: it keeps its units
pub toggle_units : (with_data : Bool) (entries : List (ℕ × LevelChange)) (old new : List (List ℕ)) → new ≡ cond with_data old (scheduled old (toggles_of entries)) → length new ≡ length old
toggle_units true entries old new put = ap (length {A = List ℕ}) put
toggle_units false entries old new put = ap (length {A = List ℕ}) put ∙ scheduled_length old (toggles_of entries)

pub level_units : (with_data : Bool) (entries : List (ℕ × LevelChange)) (old new : List (List LevelChange)) → new ≡ cond with_data (levels_scheduled old entries) old → length new ≡ length old
level_units true entries old new put = ap (length {A = List LevelChange}) put ∙ levels_length old entries
level_units false entries old new put = ap (length {A = List LevelChange}) put

-- and one more entry is put
pub toggles_more : (with_data : Bool) (all left : List (ℕ × LevelChange)) (entry : ℕ × LevelChange) (old mid new : List (List ℕ)) →
    new ≡ cond with_data mid (scheduled mid (toggles_of (entry ∷ []))) →
    cond with_data mid (scheduled mid (toggles_of (entry ∷ left))) ≡ cond with_data old (scheduled old (toggles_of all)) →
    cond with_data new (scheduled new (toggles_of left)) ≡ cond with_data old (scheduled old (toggles_of all))
toggles_more true all left entry old mid new put so = put ∙ so
toggles_more false all left entry old mid new put so = ap (λ (wheel : List (List ℕ)). scheduled wheel (toggles_of left)) put ∙ so

pub levels_more : (with_data : Bool) (all left : List (ℕ × LevelChange)) (entry : ℕ × LevelChange) (old mid new : List (List LevelChange)) →
    new ≡ cond with_data (levels_scheduled mid (entry ∷ [])) mid →
    cond with_data (levels_scheduled mid (entry ∷ left)) mid ≡ cond with_data (levels_scheduled old all) old →
    cond with_data (levels_scheduled new left) new ≡ cond with_data (levels_scheduled old all) old
levels_more true all left entry old mid new put so = ap (λ (wheel : List (List LevelChange)). levels_scheduled wheel left) put ∙ so
levels_more false all left entry old mid new put so = put ∙ so

pub same_room : (with_data : Bool) (a b c d : ℕ) → a ≡ b → c ≡ d → cond with_data a c ≡ cond with_data b d
same_room true a b c d one two = one
same_room false a b c d one two = two

-- the wheels keep their units
pub put_units : (with_data : Bool) (entries : List (ℕ × LevelChange)) (s new : NetlistSimulation) → HasPut with_data entries s new → length new.bits.simulator.wheel ≡ length s.bits.simulator.wheel
put_units with_data entries s new put = toggle_units with_data entries s.bits.simulator.wheel new.bits.simulator.wheel put.events

pub put_change_units : (with_data : Bool) (entries : List (ℕ × LevelChange)) (s new : NetlistSimulation) → HasPut with_data entries s new → length new.wires.wheel ≡ length s.wires.wheel
put_change_units with_data entries s new put = level_units with_data entries s.wires.wheel new.wires.wheel put.changes

pub none_put : (with_data : Bool) (all : List (ℕ × LevelChange)) (s : NetlistSimulation) → PutSoFar with_data all all s s
none_put with_data all s = record { bits = refl; events = refl; units = refl; wires = refl; changes = refl; change_units = refl; modules = refl; room = refl }

pub put_more : (with_data : Bool) (all left : List (ℕ × LevelChange)) (entry : ℕ × LevelChange) (s mid new : NetlistSimulation) →
    PutSoFar with_data all (entry ∷ left) s mid → HasPut with_data (entry ∷ []) mid new → PutSoFar with_data all left s new
put_more with_data all left entry s mid new so put =
    let units = put_units with_data (entry ∷ []) mid new put in
    let change_units = put_change_units with_data (entry ∷ []) mid new put in
    record {
      bits = put.bits ∙ ap (λ (b : Simulation). record b { simulator = record (b.simulator) { wheel = new.bits.simulator.wheel } }) so.bits;
      events = toggles_more with_data all left entry s.bits.simulator.wheel mid.bits.simulator.wheel new.bits.simulator.wheel put.events so.events;
      units = units ∙ so.units;
      wires = put.wires ∙ ap (λ (w : DataWires). record w { wheel = new.wires.wheel }) so.wires;
      changes = levels_more with_data all left entry s.wires.wheel mid.wires.wheel new.wires.wheel put.changes so.changes;
      change_units = change_units ∙ so.change_units;
      modules = put.modules ∙ so.modules;
      room = same_room with_data (length new.wires.wheel) (length mid.wires.wheel) (length new.bits.simulator.wheel) (length mid.bits.simulator.wheel) change_units units ∙ so.room;
    }

-- the changes between two times
earlier_more : (from to : ℕ) (c : ℕ × ℕ) (changes : List (ℕ × ℕ)) (b : Bool) → nat_lt c.0 to ≡ b → from < c.0 → All (λ (c : ℕ × ℕ). (from < c.0) × (c.0 < to)) changes →
    All (λ (c : ℕ × ℕ). (from < c.0) × (c.0 < to)) (cond b (c ∷ changes) changes)
earlier_more from to c changes true is later rest = All-cons (λ (c : ℕ × ℕ). (from < c.0) × (c.0 < to)) c changes (later, ltb-true c.0 to is) rest
earlier_more from to c changes false is later rest = rest

all_earlier : (from to : ℕ) (changes : List (ℕ × ℕ)) → All (λ (c : ℕ × ℕ). from < c.0) changes → All (λ (c : ℕ × ℕ). (from < c.0) × (c.0 < to)) (earlier_than to changes)
all_earlier from to [] each = All-nil (λ (c : ℕ × ℕ). (from < c.0) × (c.0 < to))
all_earlier from to (c ∷ changes) each =
    earlier_more from to c (earlier_than to changes) (nat_lt c.0 to) refl (All-head (λ (c : ℕ × ℕ). from < c.0) c changes each)
    (all_earlier from to changes (All-tail (λ (c : ℕ × ℕ). from < c.0) c changes each))

later_more : (from : ℕ) (c : ℕ × ℕ) (changes : List (ℕ × ℕ)) (b : Bool) → nat_lt from c.0 ≡ b → All (λ (c : ℕ × ℕ). from < c.0) changes →
    All (λ (c : ℕ × ℕ). from < c.0) (cond b (c ∷ changes) changes)
later_more from c changes true is rest = All-cons (λ (c : ℕ × ℕ). from < c.0) c changes (ltb-true from c.0 is) rest
later_more from c changes false is rest = rest

all_later : (from : ℕ) (changes : List (ℕ × ℕ)) → All (λ (c : ℕ × ℕ). from < c.0) (later_than from changes)
all_later from [] = All-nil (λ (c : ℕ × ℕ). from < c.0)
all_later from (c ∷ changes) = later_more from c (later_than from changes) (nat_lt from c.0) refl (all_later from changes)

pub all_between : (from to : ℕ) (changes : List (ℕ × ℕ)) → All (λ (c : ℕ × ℕ). (from < c.0) × (c.0 < to)) (between from to changes)
all_between from to changes = all_earlier from to (later_than from changes) (all_later from changes)

pub between_ahead : (from to now units : ℕ) (changes : List (ℕ × ℕ)) → now ≤ from → to - now ≤ units + 1 → All (IsAhead now units) (between from to changes)
between_ahead from to now units changes later within =
    λ k d low. let is = all_between from to changes k d low in let one = is.0 in let other = is.1 in record { later = omega (arith, later, one); within = omega (arith, later, within, one, other) }
