use Rattle.std.proofs.Common.{◌-◌, []}
use Rattle.mp_redo.proofs.rerun.rerun.Rerun.is_unset.Goals as goal

pub is_quiet-requires : goal.is_quiet-requires
is_quiet-requires c = (c.args.time - 1, [], c.requires.is.1.is.followed.cursors.timers)
