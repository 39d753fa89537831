use Rattle.std.proofs.Common.{arith}
use Rattle.mp_redo.proofs.rerun.finishing.last_state.Goals as goal

pub memory-requires : goal.memory-requires
memory-requires c =
    let ends = c.requires.ends in
    let low = c.requires.within in
    let places = c.requires.places in
    let long = c.requires.ends.places in
    record { n = ends.shown; ok = ends.form; t = ends.time; is = ends.simulated; within = omega arith }
