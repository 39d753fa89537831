use Rattle.std.proofs.Common.{ℕ, List, ◌++◌, drop, ap, sym, subst, ◌∙◌}
use Rattle.mp_simulation.specs.declared.run.stimuli.StimulusChange.{StimulusChange}
use Rattle.mp_simulation.specs.run.Stimuli.{left_of}
use Rattle.mp_active.specs.steps.Putting.{HasPut, entries_of, room}
use Rattle.mp_redo.specs.rerun.Returning.{AreTailsIn, tail_of, others_of}
use Rattle.mp_redo.proofs.lemmas.rerun.TailLemmas.{no_tail}
use Rattle.mp_redo.proofs.lemmas.rerun.PutLemmas.{none_put}
use Rattle.mp_redo.proofs.rerun.rerun.Rerun.take_tail_back.Goals as goal

pub returns-then-until-now-clause-put : goal.returns-then-until-now-clause-put
returns-then-until-now-clause-put c =
    let s = c.args.self.now in
    let w = c.args.wire.number in
    let wide = c.args.wire.has_data in
    let none = no_tail w c.args.now c.args.until (room wide s.simulation) wide (left_of s.pending_outputs) c.if-until-now.true c.requires.pending_outputs in
    subst (λ (cs : List (ℕ × ℕ)). HasPut wide (entries_of w c.args.now cs) s.simulation s.simulation) (sym none.0) (none_put wide s.simulation)

pub returns-then-until-now-clause-left : goal.returns-then-until-now-clause-left
returns-then-until-now-clause-left c =
    let s = c.args.self.now in
    let wide = c.args.wire.has_data in
    sym ((no_tail c.args.wire.number c.args.now c.args.until (room wide s.simulation) wide (left_of s.pending_outputs) c.if-until-now.true c.requires.pending_outputs).1)

pub put_tail-requires : goal.put_tail-requires
put_tail-requires c =
    let s = c.args.self.now in
    let w = c.args.wire.number in
    let wide = c.args.wire.has_data in (
      c.args.until,
      subst (λ (xs : List StimulusChange). AreTailsIn w c.args.now c.args.until (room wide s.simulation) wide (drop s.pending_outputs.place xs)) (sym c.as_slice.ensures.value) c.requires.pending_outputs,
    )

pub returns-clause-put : goal.returns-clause-put
returns-clause-put c =
    let s = c.args.self.now in
    let w = c.args.wire.number in
    subst (λ (xs : List StimulusChange). HasPut c.args.wire.has_data (entries_of w c.args.now (tail_of w (drop s.pending_outputs.place xs))) s.simulation c.put_tail.new.simulation) c.as_slice.ensures.value c.in_ok-put_tail.ensures.put

pub returns-clause-left : goal.returns-clause-left
returns-clause-left c =
    let s = c.args.self.now in
    let w = c.args.wire.number in
    c.in_ok-put_tail.ensures.others
    ∙ ap (λ (xs : List StimulusChange). xs ++ others_of w (drop s.pending_outputs.place c.as_slice.result.now)) c.new-others.ensures.items
    ∙ ap (λ (xs : List StimulusChange). others_of w (drop s.pending_outputs.place xs)) c.as_slice.ensures.value
