use Rattle.std.proofs.Common.{◌≡◌, ℕ, ◌<◌, true, false, get_or, None, length, rules}
use Rattle.mp_netlist.specs.Indexes.{number_in}
use Rattle.mp_netlist.specs.Slots.{has_name}
use Rattle.mp_netlist.proofs.TableLemmas.{number_having, named_nowhere}
use Rattle.mp_netlist.proofs.table.Table.number_sought.Goals as goal

pub returns-then-has_name : goal.returns-then-has_name
returns-then-has_name g c =
    let table = c.self.inside in
    let has : has_name g.R.Named.name_of c.args.text.now (get_or table.slots c.loop-number.number None) ≡ true = search rules in
    rw (← c.self.view_is) (number_having g.R.Named.name_of table.slots (number_in table.index) c.self.invariant c.args.text.now c.loop-number.number has)

pub returns : goal.returns
returns g c =
    let table = c.self.inside in
    let none : (k : ℕ) → k < length table.slots → has_name g.R.Named.name_of c.args.text.now (get_or table.slots k None) ≡ false = search rules in
    rw (← c.self.view_is) (named_nowhere g.R.Named.name_of table.slots c.args.text.now none)
