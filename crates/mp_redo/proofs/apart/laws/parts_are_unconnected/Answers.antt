use Rattle.mp_redo.proofs.lemmas.apart.PartLemmas.{divisions_are_unconnected, wires_are_either, undriven_are_within, driven_are_at_home}
use Rattle.mp_redo.proofs.apart.laws.parts_are_unconnected.Goals as goal

pub returns : goal.returns
returns c = record { divisions = divisions_are_unconnected; either = wires_are_either; undriven = undriven_are_within; home = driven_are_at_home }
