use Rattle.std.proofs.Common.{None, arith, ◌∙◌}
use Rattle.std.proofs.lemmas.List.{get_or_default}
use Rattle.mp_model.proofs.SlotLemmas.{slot_within}
use Rattle.mp_kernel.specs.declared.events.output_port.OutputPort.{OutputPort}
use Rattle.mp_kernel.specs.declared.events.output_ports.OutputPorts.{OutputPorts}
use Rattle.mp_kernel.specs.events.Firing.{no_port}
use Rattle.mp_simulation.proofs.lemmas.run.SettlingLemmas.{settled_next}
use Rattle.mp_simulation.proofs.lemmas.run.FirstLevelLemmas.{levels_next}
use Rattle.mp_simulation.proofs.run.settling.settle_all.Goals as goal

pub settle_module-requires-clause-ports : goal.settle_module-requires-clause-ports
settle_module-requires-clause-ports c r at =
    let low = slot_within c.args.netlist.now.modules c.loop-m.m r at in
    let places = c.requires.places in
    let blank : OutputPort = record { wire = None; delay = 0 } in
    let blanks : OutputPorts = record { first = blank; second = blank; third = blank } in
    let absent : OutputPorts = record { first = no_port; second = no_port; third = no_port } in
    get_or_default c.args.outputs.now c.loop-m.m blanks absent (omega arith) ∙ c.requires.ports c.loop-m.m r at

pub loop-m-preserved : goal.loop-m-preserved
loop-m-preserved c =
    let before = c.loop-m.invariant in
    let now = c.in_ok-settled.ensures in
    record {
      settled = settled_next c.args.netlist.now c.requires.form c.loop-m.m c.loop-m.states.items c.push.new.self.items c.in_ok-settled.settled.state c.loop-m.wheel c.settle_module.new.wheel
          before.settled c.in_ok-push.ensures.items now.state now.wheel now.units;
      levels = levels_next c.args.netlist.now c.loop-m.m c.loop-m.levels.items c.push-in-loop-m.new.self.items c.in_ok-settled.settled.levels before.levels c.in_ok-push-2.ensures.items now.levels;
      units = now.units ∙ before.units;
    }
