use Rattle.mp_redo.proofs.lemmas.apart.PartLemmas.{parts_have_places, parts_have_wires, parts_have_modules, parts_have_no_others, parts_are_by_slots}
use Rattle.mp_redo.proofs.apart.laws.parts_have_slots.Goals as goal

pub returns : goal.returns
returns c = record { places = parts_have_places; wires = parts_have_wires; modules = parts_have_modules; others = parts_have_no_others; slots = parts_are_by_slots }
