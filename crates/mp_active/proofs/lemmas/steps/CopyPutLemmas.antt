-- Changes to come of delayed copies are put into the wheels, one after the other.
use Rattle.std.proofs.Common.{◌≡◌, ℕ, ◌+◌, ◌-◌, ◌<◌, ◌≤◌, All, arith, Bool, List, [], ◌∷◌, cond, length, ap, ◌∙◌}
use Rattle.std.proofs.lemmas.List.Elements.{All-map}
use Rattle.mp_wave.specs.Waveform.{between}
use Rattle.mp_simulation.specs.declared.bits.simulation.Simulation.{Simulation}
use Rattle.mp_kernel.specs.events.Firing.{scheduled}
use Rattle.mp_kernel.specs.declared.datapath.level_change.LevelChange.{LevelChange}
use Rattle.mp_kernel.specs.datapath.LevelWheels.{scheduled as levels_scheduled}
use Rattle.mp_simulation.specs.declared.units.data_wires.DataWires.{DataWires}
use Rattle.mp_simulation.specs.declared.units.netlist_simulation.NetlistSimulation.{NetlistSimulation}
use Rattle.mp_active.specs.steps.Putting.{IsAhead, toggles_of}
use Rattle.mp_active.specs.steps.Copying.{HasPutCopy, copy_room, delayed}
use Rattle.mp_active.proofs.lemmas.steps.PutLemmas.{toggle_units, level_units, toggles_more, levels_more, same_room, all_between}

-- of all entries these are left to be put
pub record PutCopiesSoFar (with_data : Bool) (all left : List (ℕ × LevelChange)) (s now : NetlistSimulation) : Type 0 where
  pub bits : now.bits ≡ record (s.bits) { copies = record (s.bits.copies) { wheel = now.bits.copies.wheel } }
  pub events : cond with_data now.bits.copies.wheel (scheduled now.bits.copies.wheel (toggles_of left)) ≡ cond with_data s.bits.copies.wheel (scheduled s.bits.copies.wheel (toggles_of all))
  pub units : length now.bits.copies.wheel ≡ length s.bits.copies.wheel
  pub wires : now.wires ≡ record (s.wires) { wheel = now.wires.wheel }
  pub changes : cond with_data (levels_scheduled now.wires.wheel left) now.wires.wheel ≡ cond with_data (levels_scheduled s.wires.wheel all) s.wires.wheel
  pub change_units : length now.wires.wheel ≡ length s.wires.wheel
  pub modules : now.modules ≡ s.modules
  pub room : copy_room with_data now ≡ copy_room with_data s

pub copy_more : (with_data : Bool) (all left : List (ℕ × LevelChange)) (entry : ℕ × LevelChange) (s mid new : NetlistSimulation) →
    PutCopiesSoFar with_data all (entry ∷ left) s mid → HasPutCopy with_data (entry ∷ []) mid new → PutCopiesSoFar with_data all left s new
copy_more with_data all left entry s mid new so put =
    let units = toggle_units with_data (entry ∷ []) mid.bits.copies.wheel new.bits.copies.wheel put.events in
    let change_units = level_units with_data (entry ∷ []) mid.wires.wheel new.wires.wheel put.changes in
    record {
      bits = put.bits ∙ ap (λ (b : Simulation). record b { copies = record (b.copies) { wheel = new.bits.copies.wheel } }) so.bits;
      events = toggles_more with_data all left entry s.bits.copies.wheel mid.bits.copies.wheel new.bits.copies.wheel put.events so.events;
      units = units ∙ so.units;
      wires = put.wires ∙ ap (λ (w : DataWires). record w { wheel = new.wires.wheel }) so.wires;
      changes = levels_more with_data all left entry s.wires.wheel mid.wires.wheel new.wires.wheel put.changes so.changes;
      change_units = change_units ∙ so.change_units;
      modules = put.modules ∙ so.modules;
      room = same_room with_data (length new.wires.wheel) (length mid.wires.wheel) (length new.bits.copies.wheel) (length mid.bits.copies.wheel) change_units units ∙ so.room;
    }

-- what the number before a copy has had, and the copy not yet
pub delayed_ahead : (sooner delay now units : ℕ) (changes : List (ℕ × ℕ)) → sooner ≤ now → sooner < delay → delay - sooner ≤ units →
    All (IsAhead now units) (delayed delay (between (now - delay) (now - sooner + 1) changes))
delayed_ahead sooner delay now units changes had later within =
    All-map (IsAhead now units) (λ (c : ℕ × ℕ). (c.0 + delay, c.1)) (between (now - delay) (now - sooner + 1) changes) (λ k d low.
    let is = all_between (now - delay) (now - sooner + 1) changes k d low in
    let one = is.0 in
    let other = is.1 in
    record { later = omega (arith, one, later); within = omega (arith, had, later, within, one, other) })

pub all_early : (sooner delay now : ℕ) (changes : List (ℕ × ℕ)) → sooner ≤ now → All (λ (c : ℕ × ℕ). c.0 ≤ now) (between (now - delay) (now - sooner + 1) changes)
all_early sooner delay now changes had = λ k d low. let is = all_between (now - delay) (now - sooner + 1) changes k d low in let other = is.1 in omega (arith, other)
