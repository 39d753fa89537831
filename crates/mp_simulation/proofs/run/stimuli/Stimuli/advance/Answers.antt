use Rattle.std.proofs.Common.{ℕ, ◌++◌, List, drop, ap, sym, ◌∙◌}
use Rattle.mp_simulation.specs.declared.run.stimuli.StimulusChange.{StimulusChange}
use Rattle.mp_kernel.specs.declared.datapath.level_change.LevelChange.{LevelChange}
use Rattle.mp_simulation.specs.run.Stimuli.{rest_of, bits_at, levels_at, changes_after}
use Rattle.mp_simulation.proofs.lemmas.run.PresentLemmas.{unit_begins}
use Rattle.mp_simulation.proofs.run.stimuli.Stimuli.advance.Goals as goal

pub returns-clause-bits : goal.returns-clause-bits
returns-clause-bits c =
    let s = c.args.self.now in
    c.in_ok-self.ensures.bits
    ∙ ap (λ (xs : List ℕ). xs ++ bits_at c.args.time (drop s.place c.as_slice.result.now)) c.clear.ensures.items
    ∙ ap (λ (xs : List StimulusChange). bits_at c.args.time (drop s.place xs)) c.as_slice.ensures.value

pub returns-clause-levels : goal.returns-clause-levels
returns-clause-levels c =
    let s = c.args.self.now in
    c.in_ok-self.ensures.levels
    ∙ ap (λ (xs : List LevelChange). xs ++ levels_at c.args.time (drop s.place c.as_slice.result.now)) c.clear-2.ensures.items
    ∙ ap (λ (xs : List StimulusChange). levels_at c.args.time (drop s.place xs)) c.as_slice.ensures.value

pub returns-clause-left : goal.returns-clause-left
returns-clause-left c =
    let s = c.args.self.now in
    let list = c.as_slice.ensures.value in
    ap (λ (xs : List StimulusChange). drop c.in_ok-self.field-0 xs) (sym list) ∙ c.in_ok-self.ensures.left
    ∙ ap (λ (xs : List StimulusChange). changes_after c.args.time (drop s.place xs)) list

pub returns-clause-ahead : goal.returns-clause-ahead
returns-clause-ahead c n t ok now are =
    let s = c.args.self.now in
    unit_begins n ok t s _
    (returns-clause-bits c ∙ ap (λ k. bits_at k (rest_of s)) now)
    (returns-clause-levels c ∙ ap (λ k. levels_at k (rest_of s)) now)
    (returns-clause-left c ∙ ap (λ k. changes_after k (rest_of s)) now) are
