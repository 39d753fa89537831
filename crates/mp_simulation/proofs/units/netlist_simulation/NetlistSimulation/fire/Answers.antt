use Rattle.std.proofs.Common.{ℕ, ◌∙◌, List, refl, sym}
use Rattle.std.proofs.lemmas.Bool.{eqb-true}
use Rattle.std.proofs.lemmas.List.{nil_from_length}
use Rattle.mp_kernel.specs.declared.events.fanout_entry.FanoutEntry.{FanoutEntry}
use Rattle.mp_kernel.specs.declared.events.output_port.OutputPort.{OutputPort}
use Rattle.mp_simulation.proofs.lemmas.units.RestingLemmas.{none_due}
use Rattle.mp_simulation.proofs.units.netlist_simulation.NetlistSimulation.fire.Goals as goal

pub returns-then-is_empty-clause-fired : goal.returns-then-is_empty-clause-fired
returns-then-is_empty-clause-fired c n t ok is =
    let s = c.args.self.now in
    let due = s.bits.simulator.due in
    none_due n ok t s is (nil_from_length due.items (sym due.ok.0 ∙ eqb-true due.len 0 (sym c.if-is_empty.ensures)))

pub returns-then-is_empty-clause-numbers : goal.returns-then-is_empty-clause-numbers
returns-then-is_empty-clause-numbers c = record {
  rows = refl {A = List (List FanoutEntry)};
  outputs = refl;
  next = refl {A = List OutputPort};
  data_next = refl {A = List OutputPort};
  units = refl {A = ℕ};
  copy_units = refl {A = ℕ};
  change_units = refl {A = ℕ};
  places = refl;
  seats = refl {A = ℕ};
}
