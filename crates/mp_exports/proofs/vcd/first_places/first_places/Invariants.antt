use Rattle.mp_exports.proofs.lemmas.vcd.Names.{◌≡◌, vec_len}
use Rattle.mp_exports.proofs.vcd.first_places.first_places.Given as goal

-- the wires so far have places
abbrev pub invariant-loop-number : goal.invariant-loop-number
invariant-loop-number l = vec_len l.places ≡ l.number
