use Rattle.mp_redo.proofs.rerun.rerun.Rerun.is_quiet.Goals as goal

pub returns-then-is_unset : goal.returns-then-is_unset
returns-then-is_unset c none = record {
  unset = c.is_unset.ensures c.if-is_unset.true;
  levels = c.hears_nothing.ensures.levels none;
  wires = c.hears_nothing.ensures.wires none;
  copies = c.hears_nothing.ensures.copies none;
}
