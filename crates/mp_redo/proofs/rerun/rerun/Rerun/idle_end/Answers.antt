use Rattle.std.proofs.Common.{◌≤◌, ◌-◌, refl, subst}
use Rattle.mp_depend.specs.work.Work.{block_of}
use Rattle.mp_redo.proofs.lemmas.rerun.LeapLemmas.{LeapLaws, CanLeap}
use Rattle.mp_redo.proofs.lemmas.rerun.LeapWindowLemmas.{leaps, look_later}
use Rattle.mp_redo.proofs.rerun.rerun.Rerun.idle_end.Goals as goal

pub returns-clause-after : goal.returns-clause-after
returns-clause-after c =
    let change = c.requires.change in
    let laws : LeapLaws = record {
      wires = c.wires_agree.ensures.wires;
      readers = c.readers_agree.ensures.sleepers;
      alike = c.readers_agree.ensures.quiet;
      sleepers = c.wires_agree.ensures.sleepers;
      sleep_on = c.sleepers_agree.ensures.on;
      rest = c.sleepers_rest.ensures.rest;
      excerpts = c.excerpts_are_circuits.ensures;
      simulates = c.excerpts_are_simulated.ensures.simulates;
      sets = c.sets_are_stimuli.ensures;
      units = c.numbers_stay.ensures.units;
    } in
    let can : CanLeap c.rest_end-time.result c.args.self.now = record {
      rest = c.if-not-is_idle.ensures.rest refl;
      stimuli = c.rest_end-time.ensures.stimuli;
      pending_outputs = c.rest_end-time.ensures.pending_outputs;
      timers = c.rest_end-time.ensures.timers;
      times = c.rest_end-time.ensures.times;
    } in
    let within : c.rest_end-time.result ≤ c.args.change.now.new.now.horizon = subst (λ h. c.rest_end-time.result ≤ h) c.horizon.ensures.value c.rest_end-time.ensures.within in
    let old = c.args.change.now.old.now in
    let new = c.args.change.now.new.now in
    let run = c.args.change.now.run.now in
    let end = c.last_begin.result in
    look_later old new run (block_of new.horizon (end - 1)) (end - 1) c.saturating_add-self.result c.args.self.now
    (leaps old new change.old_form change.form change.revision run change.run laws
    c.args.from c.rest_end-time.result end c.requires.some (c.last_begin.ensures.last c.args.from c.requires.below c.rest_end-time.ensures.later c.requires.begins) c.last_begin.ensures.early
    within c.args.self.now can (c.if-not-is_idle.ensures.nobody refl) c.requires.before c.requires.begins c.last_begin.ensures.begins)
