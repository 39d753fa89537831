use Rattle.std.proofs.Common.{List, All, sym, subst}
use Rattle.mp_records.specs.declared.ports.Output.{Output}
use Rattle.mp_simulation.specs.run.Settling.{IsShort}
use Rattle.mp_simulation.proofs.lemmas.run.SettlingLemmas.{short_outputs}
use Rattle.mp_simulation.proofs.run.settling.outputs_of.Goals as goal

pub output_ports-requires : goal.output_ports-requires
output_ports-requires c =
    subst (λ (xs : List Output). All IsShort xs) (sym c.as_slice.ensures)
    (short_outputs c.args.netlist.now c.requires c.args.id.0 c.in-Some.found.now (sym c.in-Some.ensures.value))
