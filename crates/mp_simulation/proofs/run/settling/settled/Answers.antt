use Rattle.std.proofs.Common.{List, map, ap, ◌∙◌}
use Rattle.mp_records.specs.declared.ports.Input.{Input}
use Rattle.mp_netlist.specs.Circuit.{wire_at}
use Rattle.mp_model.specs.Levels.{initial_of}
use Rattle.mp_simulation.proofs.lemmas.run.SettlingLemmas.{settled_is}
use Rattle.mp_simulation.proofs.run.settling.settled.Goals as goal

pub returns : goal.returns
returns c m at =
    settled_is c.args.netlist.now c.requires.form m c.args.found.now c.args.part.now _ c.settle.result at c.requires.part
    (c.read_initial_levels.ensures ∙ ap (λ (xs : List Input). map (λ (i : Input). initial_of (wire_at c.args.netlist.now i.wire.0)) xs) c.as_slice-inputs.ensures) c.settle.ensures
