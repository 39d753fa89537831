use Rattle.std.proofs.Common.{subst}
use Rattle.mp_records.specs.NamedWires.{module_names}
use Rattle.mp_netlist.specs.Knowledge.{AreKnown}
use Rattle.mp_netlist.proofs.KnowledgeLemmas.{known_rows}
use Rattle.mp_netlist.proofs.module_table.ModuleTable.around.Goals as goal

pub returns : goal.returns
returns c =
    let are = subst (AreKnown c.self.inside.known) c.self.view_is c.self.invariant.0 in
    known_rows c.self.inside.known c.args.self.now (module_names c.args.wire.0) are c.around.result c.around.ensures
