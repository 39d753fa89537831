use Rattle.std.proofs.Common.{All, sym, subst}
use Rattle.mp_records.specs.declared.ports.Input.{Input}
use Rattle.mp_partition.specs.regions.Regions.{partition_of}
use Rattle.mp_redo.specs.parts.Drivers.{IsReadFrom}
use Rattle.mp_redo.proofs.lemmas.parts.DrivenLemmas.{read_from}
use Rattle.mp_redo.proofs.parts.partition.is_unconnected.Goals as goal

pub returns-in-Some : goal.returns-in-Some
returns-in-Some c = λ yes.
    let n = c.args.netlist.now in
    let drivers = c.args.drivers.now in
    let homes = c.args.homes.now in
    read_from n c.requires.form drivers homes c.args.id.0 c.in-Some.found.now (sym c.in-Some.ensures.value) c.requires.drivers
    (subst (λ xs. All (λ (input : Input). IsReadFrom drivers homes (partition_of homes c.args.id.0) input) xs) c.as_slice.ensures
    (subst (λ h. All (λ (input : Input). IsReadFrom drivers homes h input) c.as_slice.result.now) c.partition_of.ensures (c.are_driven_at.ensures yes)))
