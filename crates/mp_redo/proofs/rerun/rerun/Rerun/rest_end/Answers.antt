use Rattle.std.proofs.Common.{◌+◌, List, drop, sym, subst, arith}
use Rattle.mp_simulation.specs.declared.run.stimuli.StimulusChange.{StimulusChange}
use Rattle.mp_simulation.specs.run.Stimuli.{AreFrom, left_of}
use Rattle.mp_redo.proofs.lemmas.rerun.LeapLemmas.{from_earlier}
use Rattle.mp_redo.proofs.rerun.rerun.Rerun.rest_end.Goals as goal

pub returns-clause-stimuli : goal.returns-clause-stimuli
returns-clause-stimuli c =
    let s = c.args.self.now in
    let below = c.requires.below in
    let one = c.next_change-first.ensures.later c.args.from (subst (λ (xs : List StimulusChange). AreFrom c.args.from (drop s.stimuli.place xs)) (sym c.as_slice.ensures.value) c.requires.stimuli) (omega (arith, below)) in
    let two = c.next_change-end.ensures.later c.args.from (subst (λ (xs : List StimulusChange). AreFrom c.args.from (drop s.pending_outputs.place xs)) (sym c.as_slice-2.ensures.value) c.requires.pending_outputs) one.0 in
    let most = c.slack.ensures.most in
    let first = c.next_change-end.ensures.first in
    let reach = two.0 in
    from_earlier (c.args.from + c.slack.result) c.next_change-first.result (left_of s.stimuli) (omega (arith, most, first, reach))
    (subst (λ (xs : List StimulusChange). AreFrom c.next_change-first.result (drop s.stimuli.place xs)) c.as_slice.ensures.value one.1)

pub returns-clause-pending_outputs : goal.returns-clause-pending_outputs
returns-clause-pending_outputs c =
    let s = c.args.self.now in
    let below = c.requires.below in
    let one = c.next_change-first.ensures.later c.args.from (subst (λ (xs : List StimulusChange). AreFrom c.args.from (drop s.stimuli.place xs)) (sym c.as_slice.ensures.value) c.requires.stimuli) (omega (arith, below)) in
    let two = c.next_change-end.ensures.later c.args.from (subst (λ (xs : List StimulusChange). AreFrom c.args.from (drop s.pending_outputs.place xs)) (sym c.as_slice-2.ensures.value) c.requires.pending_outputs) one.0 in
    let most = c.slack.ensures.most in
    let reach = two.0 in
    from_earlier (c.args.from + c.slack.result) c.next_change-end.result (left_of s.pending_outputs) (omega (arith, most, reach))
    (subst (λ (xs : List StimulusChange). AreFrom c.next_change-end.result (drop s.pending_outputs.place xs)) c.as_slice-2.ensures.value two.1)
