use Rattle.std.proofs.Common.{◌<◌, length, subst, arith}
use Rattle.mp_netlist.proofs.LimitLemmas.{modules_within, wires_within}
use Rattle.mp_simulation.specs.run.Wirings.{AreUnread}
use Rattle.mp_simulation.proofs.lemmas.run.WiringLemmas.{inputs_none, inputs_next}
use Rattle.mp_simulation.proofs.run.wiring.wiring_of.Goals as goal

pub loop-m-init : goal.loop-m-init
loop-m-init c =
    inputs_none c.args.netlist.now c.in_ok-wiring.wiring _ c.new-inputs.ensures.items (subst (λ k. AreUnread k c.in_ok-wiring.wiring) c.wire_slots.ensures.value c.in_ok-wiring.ensures)

pub add_slot-requires-clause-links : goal.add_slot-requires-clause-links
add_slot-requires-clause-links c = c.loop-m.invariant.wired.links 65535 (omega arith) (λ m r at. (c.requires.modules_ok m r at).input_delays)

pub add_slot-requires-clause-wires : goal.add_slot-requires-clause-wires
add_slot-requires-clause-wires c = c.loop-m.invariant.wired.wired.numbers.enough

pub add_slot-requires-clause-rows : goal.add_slot-requires-clause-rows
add_slot-requires-clause-rows c = c.loop-m.invariant.wired.rows

pub add_slot-requires-clause-numbers : goal.add_slot-requires-clause-numbers
add_slot-requires-clause-numbers c =
    let few = c.loop-m.invariant.wired.few in
    let wires = wires_within _ c.requires in
    let modules = modules_within _ c.requires in
    omega arith

pub loop-m-preserved : goal.loop-m-preserved
loop-m-preserved c =
    let n = c.args.netlist.now in
    let within : c.loop-m.m < length c.args.netlist.now.modules = omega arith in
    inputs_next n c.requires c.loop-m.m c.loop-m.wiring c.add_slot.new.wiring c.loop-m.inputs.items c.push.new.self.items c.in_ok-add_slot.field-0 within c.loop-m.invariant c.in_ok-add_slot.ensures c.in_ok-push.ensures.items
