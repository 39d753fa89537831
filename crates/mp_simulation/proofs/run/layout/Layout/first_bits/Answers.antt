use Rattle.std.proofs.Common.{List, All, None, length, sym, subst, ap, ◌∙◌}
use Rattle.std.proofs.lemmas.List.{get_or-map, length-map}
use Rattle.mp_model.proofs.SlotLemmas.{slot_within}
use Rattle.mp_kernel.specs.declared.events.output_ports.OutputPorts.{OutputPorts}
use Rattle.mp_kernel.specs.events.Firing.{HaveSlots, no_port, ports_at}
use Rattle.mp_simulation.specs.run.Settling.{ports_of}
use Rattle.mp_simulation.proofs.lemmas.run.SettlingLemmas.{have_slots}
use Rattle.mp_simulation.proofs.run.layout.Layout.first_bits.Goals as goal

pub settle_all-requires-clause-within : goal.settle_all-requires-clause-within
settle_all-requires-clause-within c =
    let can = c.requires.can in
    subst (λ (xs : List OutputPorts). All (HaveSlots c.args.self.now.delays.outputs) xs) (sym (c.as_slice.ensures.value ∙ can.driven))
    (have_slots can.all can.form c.args.self.now.delays can.laid.within can.laid.some_output)

pub settle_all-requires-clause-places : goal.settle_all-requires-clause-places
settle_all-requires-clause-places c =
    let can = c.requires.can in
    ap (length {A = OutputPorts}) (c.as_slice.ensures.value ∙ can.driven) ∙ length-map can.all.modules ports_of ∙ sym can.part.modules

pub settle_all-requires-clause-ports : goal.settle_all-requires-clause-ports
settle_all-requires-clause-ports c m r at =
    let can = c.requires.can in
    let there = can.part.same m r at in
    ap (λ (xs : List OutputPorts). ports_at xs m) (c.as_slice.ensures.value ∙ can.driven)
    ∙ get_or-map ports_of can.all.modules m None (record { first = no_port; second = no_port; third = no_port }) (slot_within can.all.modules m r there)
    ∙ ap ports_of there

pub returns : goal.returns
returns c all ok of_all driven = record {
  settled = c.in_ok-states.ensures.settled;
  levels = c.in_ok-states.ensures.levels;
  outputs = c.in_ok-fanout.ensures.outputs ∙ c.as_slice-2.ensures.value ∙ driven;
  fanout = c.in_ok-fanout.ensures.fanout;
  waves = c.in_ok-fanout.ensures.waves;
  due = c.new.ensures.items;
  units = c.in_ok-states.ensures.units;
  next = c.in_ok-copies.ensures.next;
  copies = c.in_ok-copies.ensures.units;
  empty = c.in_ok-copies.ensures.empty;
}
