use Rattle.mp_steady.specs.WireSets.{numbers}
use Rattle.mp_steady.proofs.PeriodLemmas.{has_number, no_guide}
use Rattle.mp_steady.proofs.period.period.Goals as goal

pub invariant_of-least_distance-clause-one_of_them : goal.invariant_of-least_distance-clause-one_of_them
invariant_of-least_distance-clause-one_of_them c = has_number c.args.set.wires.now c.in-Some.suspect c.in-Some.ensures.some

pub returns-in-None : goal.returns-in-None
returns-in-None c = no_guide c.args.set.of.netlist.now (numbers c.args.set.wires.now) c.requires.moving c.in-None.ensures.none
