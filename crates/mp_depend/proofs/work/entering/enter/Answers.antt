use Rattle.mp_depend.proofs.work.entering.enter.Goals as goal

pub enter-requires : goal.enter-requires
enter-requires g c = c.requires.2 _ _ _ c.requires.3
