use Rattle.std.proofs.Common.{subst}
use Rattle.mp_netlist.specs.Knowledge.{AreKnown}
use Rattle.mp_netlist.proofs.KnowledgeLemmas.{row_drives_none}
use Rattle.mp_netlist.proofs.module_table.ModuleTable.port_at.Goals as goal

pub returns-in-Some-clause-none : goal.returns-in-Some-clause-none
returns-in-Some-clause-none c none =
    let are = subst (AreKnown c.self.inside.known) c.self.view_is c.self.invariant.0 in
    row_drives_none c.self.inside.known c.args.self.now c.args.wire.0 c.in-Some.row.now are c.in-Some.ensures (c.port_among.ensures.none none)
