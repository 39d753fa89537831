use Rattle.mp_redo.proofs.rerun.rerun.Rerun.hears_nothing.Goals as goal

pub is_quiet-requires : goal.is_quiet-requires
is_quiet-requires c = c.requires.is.1.is.shows.wires.some

pub returns-then-is_quiet-clause-levels : goal.returns-then-is_quiet-clause-levels
returns-then-is_quiet-clause-levels c none = c.is_quiet.ensures.0 c.if-is_quiet.true

pub returns-then-is_quiet-clause-wires : goal.returns-then-is_quiet-clause-wires
returns-then-is_quiet-clause-wires c none = c.tracks_none.ensures.wires none

pub returns-then-is_quiet-clause-copies : goal.returns-then-is_quiet-clause-copies
returns-then-is_quiet-clause-copies c none = c.tracks_none.ensures.copies none
