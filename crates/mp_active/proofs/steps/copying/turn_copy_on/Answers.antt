use Rattle.std.proofs.Common.{◌≡◌, Bool, true, false, ◌+◌, ◌-◌, ◌≤◌, ℕ, All, length, subst, sym, ap, ◌∙◌}
use Rattle.mp_wave.specs.Waveform.{between}
use Rattle.mp_simulation.specs.declared.bits.simulation.Simulation.{Simulation}
use Rattle.mp_simulation.specs.declared.units.data_wires.DataWires.{DataWires}
use Rattle.mp_simulation.specs.declared.units.netlist_simulation.NetlistSimulation.{NetlistSimulation}
use Rattle.mp_active.specs.steps.Putting.{IsAhead}
use Rattle.mp_active.specs.steps.Copying.{copy_room, delayed}
use Rattle.mp_active.proofs.lemmas.steps.CopyPutLemmas.{delayed_ahead, all_early}
use Rattle.mp_active.proofs.steps.copying.turn_copy_on.Goals as goal

pub put_copies-requires-clause-early : goal.put_copies-requires-clause-early
put_copies-requires-clause-early c =
    let now = c.args.now in
    let copy = c.args.copy in
    let cs = c.args.wire.wave.now.changes in
    let is = c.changes_between-changes.ensures.value ∙ ap (λ from. between from (now - copy.sooner + 1) cs) c.saturating_sub-since.ensures in
    subst (λ xs. All (λ (c : ℕ × ℕ). c.0 ≤ now) xs) (sym is) (all_early copy.sooner copy.delay now cs c.requires.late.had)

-- the level leaves the wheels
same_room : (with_data : Bool) (s new : NetlistSimulation) → new.bits ≡ s.bits → new.wires ≡ record (s.wires) { levels = new.wires.levels } → copy_room with_data s ≡ copy_room with_data new
same_room true s new bits wires = sym (ap (λ (w : DataWires). length w.wheel) wires)
same_room false s new bits wires = sym (ap (λ (b : Simulation). length b.copies.wheel) bits)

pub put_copies-requires-clause-within : goal.put_copies-requires-clause-within
put_copies-requires-clause-within c =
    let now = c.args.now in
    let copy = c.args.copy in
    let wide = c.args.wire.has_data in
    let cs = c.args.wire.wave.now.changes in
    let is = c.changes_between-changes.ensures.value ∙ ap (λ from. between from (now - copy.sooner + 1) cs) c.saturating_sub-since.ensures in
    subst (λ xs. All (IsAhead now (copy_room wide c.set_copy_level.new.simulation)) (delayed copy.delay xs)) (sym is)
    (subst (λ units. All (IsAhead now units) (delayed copy.delay (between (now - copy.delay) (now - copy.sooner + 1) cs)))
    (same_room wide c.args.simulation.now c.set_copy_level.new.simulation c.set_copy_level.ensures.bits c.set_copy_level.ensures.wires)
    (delayed_ahead copy.sooner copy.delay now (copy_room wide c.args.simulation.now) cs c.requires.late.had c.requires.late.later c.requires.late.within))
