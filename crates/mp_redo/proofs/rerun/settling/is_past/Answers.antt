use Rattle.std.proofs.Common.{length}
use Rattle.std.proofs.lemmas.Bool.{leb-true}
use Rattle.std.proofs.lemmas.List.{drop_all}
use Rattle.mp_redo.proofs.rerun.settling.is_past.Goals as goal

pub returns : goal.returns
returns c past = drop_all c.args.place c.args.changes.now (leb-true (length c.args.changes.now) c.args.place past)
