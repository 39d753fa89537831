use Rattle.mp_redo.proofs.lemmas.rerun.EnteringLemmas.{first_listed}
use Rattle.mp_redo.proofs.rerun.redoing.run_again.Goals as goal

pub enter_window-entered-requires-clause-window : goal.enter_window-entered-requires-clause-window
enter_window-entered-requires-clause-window g c = c.in_ok-rerun.ensures.is.window

pub enter_window-entered-requires-clause-listed : goal.enter_window-entered-requires-clause-listed
enter_window-entered-requires-clause-listed g c = let change = c.args.change.now in first_listed change.old.now change.new.now change.run.now c.in_ok-rerun.rerun c.in_ok-rerun.ensures

pub pass_all-requires-clause-before : goal.pass_all-requires-clause-before
pass_all-requires-clause-before g c κs within = record { from = 0; is = c.in_ok-rerun.ensures.is }
