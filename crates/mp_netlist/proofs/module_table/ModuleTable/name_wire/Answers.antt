use Rattle.std.proofs.Common.{refl, subst, ◌∙◌}
use Rattle.mp_records.specs.NamedWires.{module_names}
use Rattle.mp_netlist.specs.Slots.{stands_and}
use Rattle.mp_netlist.specs.Knowledge.{AreKnown}
use Rattle.mp_netlist.proofs.KnowledgeLemmas.{known_row, row_decides}
use Rattle.mp_netlist.proofs.module_table.ModuleTable.name_wire.Goals as goal

pub returns-in-Some : goal.returns-in-Some
returns-in-Some c =
    let names = module_names c.args.wire.0 in
    let slots = c.args.self.now in
    let row = c.in-Some.row.now in
    let are = subst (AreKnown c.self.inside.known) c.self.view_is c.self.invariant.0 in
    c.one_names.ensures ∙ row_decides (stands_and names) refl slots row (known_row c.self.inside.known slots names row are c.in-Some.ensures)
