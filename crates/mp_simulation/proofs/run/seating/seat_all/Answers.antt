use Rattle.std.proofs.Common.{◌∙◌, sym, subst}
use Rattle.mp_kernel.specs.events.Firing.{HasSlot}
use Rattle.mp_simulation.specs.units.DataSeats.{level_port_of}
use Rattle.mp_simulation.proofs.lemmas.run.SeatingLemmas.{seated_none, seated_next}
use Rattle.mp_simulation.proofs.lemmas.run.PortLemmas.{level_slot}
use Rattle.mp_simulation.proofs.run.seating.seat_all.Goals as goal

pub loop-m-init : goal.loop-m-init
loop-m-init c = record {
  seated = seated_none c.args.netlist.now c.args.inputs.now _ c.new.ensures.items c.new-2.ensures.items c.in_ok-new.ensures.empty;
  units = c.in_ok-new.ensures.places;
}

pub add-requires-clause-within : goal.add-requires-clause-within
add-requires-clause-within c r at =
    subst (λ k. HasSlot k (level_port_of c.args.netlist.now r)) (sym c.loop-m.invariant.units)
    (level_slot c.args.netlist.now c.requires.form c.args.units c.loop-m.m r at (c.requires.within c.loop-m.m r at) c.requires.some)

pub loop-m-preserved : goal.loop-m-preserved
loop-m-preserved c =
    let adds = c.in_ok-add.ensures in
    let before = c.loop-m.invariant in
    record {
      seated = seated_next c.args.netlist.now c.requires.form c.loop-m.m c.args.inputs.now c.loop-m.seating c.add.new.self before.seated adds;
      units = adds.units ∙ before.units;
    }
