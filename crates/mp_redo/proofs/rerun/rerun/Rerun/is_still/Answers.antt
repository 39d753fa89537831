use Rattle.mp_redo.proofs.rerun.rerun.Rerun.is_still.Goals as goal

pub is_still-requires-clause-bits : goal.is_still-requires-clause-bits
is_still-requires-clause-bits c = c.requires.is.1.is.shows.bits.sound

pub is_still-requires-clause-wheel : goal.is_still-requires-clause-wheel
is_still-requires-clause-wheel c = c.requires.is.1.is.shows.wires.some
