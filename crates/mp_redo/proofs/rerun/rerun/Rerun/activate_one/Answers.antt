use Rattle.mp_redo.proofs.lemmas.rerun.WakingLemmas.{is_kept}
use Rattle.mp_redo.proofs.rerun.rerun.Rerun.activate_one.Goals as goal

pub joining_state-requires-clause-kept : goal.joining_state-requires-clause-kept
joining_state-requires-clause-kept g c =
    let at = c.requires.is.1 in
    is_kept c.args.change.now.old.now c.args.change.now.new.now c.args.change.now.run.now at.numbering at.since c.args.time c.args.id.0 c.args.found.now c.args.self.now c.requires.some at.is.followed c.requires.stands c.requires.asleep

pub activate-requires-clause-entry : goal.activate-requires-clause-entry
activate-requires-clause-entry g c = c.in_ok-state.ensures.entry_is

pub activate-requires-clause-state : goal.activate-requires-clause-state
activate-requires-clause-state g c =
    let at = c.requires.is.1 in
    let kept = is_kept c.args.change.now.old.now c.args.change.now.new.now c.args.change.now.run.now at.numbering at.since c.args.time c.args.id.0 c.args.found.now c.args.self.now c.requires.some at.is.followed c.requires.stands
    c.requires.asleep in
    c.in_ok-state.ensures.old_state c.args.found.now kept.before
