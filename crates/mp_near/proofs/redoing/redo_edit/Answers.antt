use Rattle.std.proofs.Common.{subst}
use Rattle.std.specs.Prelude.{IfSome}
use Rattle.mp_near.specs.region.Regions.{IsSmall}
use Rattle.mp_near.proofs.redoing.redo_edit.Goals as goal

pub find_small-requires-clause-change : goal.find_small-requires-clause-change
find_small-requires-clause-change g c = record {
  old = c.horizon-old_horizon.ensures.form;
  new = c.horizon-new_horizon.ensures.form;
  revision = c.requires.revision;
  run = c.requires.run;
  least = c.least_delay-least.ensures;
}

pub redo_by-redone-requires-clause-change : goal.redo_by-redone-requires-clause-change
redo_by-redone-requires-clause-change g c = λ asked lives. record {
  old = c.horizon-old_horizon.ensures.form;
  new = c.horizon-new_horizon.ensures.form;
  revision = c.requires.revision;
  run = c.requires.run;
  least = c.least_delay-least.ensures;
}

pub redo_by-redone-requires-clause-region : goal.redo_by-redone-requires-clause-region
redo_by-redone-requires-clause-region g c = λ asked lives. subst (λ o. IfSome o (IsSmall c.args.old.now c.args.new.now)) c.in-Some.is c.in_ok-region.ensures
