use Rattle.std.proofs.Common.{subst}
use Rattle.std.specs.Prelude.{IfSome}
use Rattle.mp_redo.specs.parts.Partitions.{IsPartition}
use Rattle.mp_redo.proofs.parts.redoing.redo.Goals as goal

pub redo_parts-requires-clause-change : goal.redo_parts-requires-clause-change
redo_parts-requires-clause-change g c = λ asked lives. record {
  old = c.horizon-old_horizon.ensures.form;
  new = c.horizon-new_horizon.ensures.form;
  revision = c.requires.revision;
  run = c.requires.run;
  partition = subst (λ o. IfSome o (IsPartition c.args.old.now c.args.new.now)) c.in-Some.is c.in_ok-partition.ensures;
}
