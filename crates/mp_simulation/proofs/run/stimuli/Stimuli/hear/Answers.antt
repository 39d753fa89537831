use Rattle.std.proofs.Common.{◌++◌, List, drop, ap, sym, ◌∙◌}
use Rattle.mp_simulation.specs.declared.run.stimuli.StimulusChange.{StimulusChange}
use Rattle.mp_simulation.specs.run.Stimuli.{bits_at, levels_at, changes_after}
use Rattle.mp_simulation.proofs.run.stimuli.Stimuli.hear.Goals as goal

pub returns-clause-bits : goal.returns-clause-bits
returns-clause-bits c =
    let h = c.args.heard.now in
    c.in_ok-heard.ensures.bits
    ∙ ap (λ (xs : List StimulusChange). c.args.self.now.bits.items ++ bits_at c.args.time (drop h.place xs)) c.as_slice.ensures.value

pub returns-clause-levels : goal.returns-clause-levels
returns-clause-levels c =
    let h = c.args.heard.now in
    c.in_ok-heard.ensures.levels
    ∙ ap (λ (xs : List StimulusChange). c.args.self.now.levels.items ++ levels_at c.args.time (drop h.place xs)) c.as_slice.ensures.value

pub returns-clause-left : goal.returns-clause-left
returns-clause-left c =
    let h = c.args.heard.now in
    let list = c.as_slice.ensures.value in
    ap (λ (xs : List StimulusChange). drop c.in_ok-heard.field-0 xs) (sym list) ∙ c.in_ok-heard.ensures.left
    ∙ ap (λ (xs : List StimulusChange). changes_after c.args.time (drop h.place xs)) list
