use Rattle.std.proofs.Common.{◌≡◌, true, false, None, Some, get_or, rules}
use Rattle.mp_netlist.specs.Indexes.{number_in}
use Rattle.mp_netlist.specs.Slots.{has_name}
use Rattle.mp_netlist.proofs.TableLemmas.{number_having, number_other, number_unknown}
use Rattle.mp_netlist.proofs.table.Table.number_named.Goals as goal

pub returns-in-Some : goal.returns-in-Some
returns-in-Some g c =
    let table = c.self.inside in
    let has : has_name g.R.Named.name_of c.args.name.now (get_or table.slots c.in-Some.number None) ≡ true = search rules in
    rw (← c.self.view_is) (number_having g.R.Named.name_of table.slots (number_in table.index) c.self.invariant c.args.name.now c.in-Some.number has)

pub returns-in_default : goal.returns-in_default
returns-in_default g c =
    let table = c.self.inside in
    let at : number_in table.index c.args.name.now ≡ Some c.in-Some.number = search rules in
    let other : has_name g.R.Named.name_of c.args.name.now (get_or table.slots c.in-Some.number None) ≡ false = search rules in
    rw (← c.self.view_is) (number_other g.R.Named.name_of table.slots (number_in table.index) c.self.invariant c.args.name.now c.in-Some.number at other)

pub returns-in_default-2 : goal.returns-in_default-2
returns-in_default-2 g c =
    let table = c.self.inside in
    let none : number_in table.index c.args.name.now ≡ None = search rules in
    rw (← c.self.view_is) (number_unknown g.R.Named.name_of table.slots (number_in table.index) c.self.invariant c.args.name.now none)
