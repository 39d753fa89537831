use Rattle.std.proofs.Common.{All, sym, subst}
use Rattle.mp_records.specs.declared.ports.Output.{Output}
use Rattle.mp_partition.specs.regions.Divisions.{IsLateFor}
use Rattle.mp_partition.proofs.lemmas.regions.CrossingLemmas.{late_for}
use Rattle.mp_partition.proofs.regions.crossing.module_delay.Goals as goal

pub returns-in-Some : goal.returns-in-Some
returns-in-Some c =
    late_for c.args.netlist.now c.args.heards.now c.args.id.0 c.in-Some.found.now c.shortest_delay.result (sym c.in-Some.ensures.value)
    (subst (λ xs. All (λ (output : Output). IsLateFor c.args.heards.now output c.shortest_delay.result) xs) c.as_slice.ensures c.shortest_delay.ensures)

pub returns-in-None : goal.returns-in-None
returns-in-None c k p w drives marked =
    let none = c.in-None.ensures.value in
    let stands = drives.stands in
    absurd (let no : ⊥ = cc in no)
