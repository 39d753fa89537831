use Rattle.mp_redo.proofs.lemmas.apart.PartLemmas.{parts_are_circuits, parts_have_drivers, others_are_undriven}
use Rattle.mp_redo.proofs.apart.laws.parts_are_circuits.Goals as goal

pub returns : goal.returns
returns c = record { circuits = parts_are_circuits; drivers = parts_have_drivers; undriven = others_are_undriven }
