use Rattle.std.proofs.Common.{◌≡◌, true, get_or, None, rules}
use Rattle.mp_netlist.specs.Indexes.{number_in}
use Rattle.mp_netlist.specs.Slots.{has_name}
use Rattle.mp_netlist.proofs.TableLemmas.{number_having}
use Rattle.mp_netlist.proofs.table.Table.number_near.Goals as goal

pub returns-in-Some : goal.returns-in-Some
returns-in-Some g c =
    let table = c.self.inside in
    let has : has_name g.R.Named.name_of c.args.name.now (get_or table.slots c.in-Some.number None) ≡ true = search rules in
    rw (← c.self.view_is) (number_having g.R.Named.name_of table.slots (number_in table.index) c.self.invariant c.args.name.now c.in-Some.number has)
