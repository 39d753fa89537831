use Rattle.std.proofs.Common.{ap, ◌∙◌}
use Rattle.mp_questions.specs.causes.Changes.{change_if}
use Rattle.mp_questions.proofs.lemmas.causes.EventLemmas.{heard_none, heard_some}
use Rattle.mp_questions.proofs.causes.levels.Levels.event_at.Goals as goal

pub returns-in-None : goal.returns-in-None
returns-in-None c =
    heard_none c.args.self.netlist.now c.requires.form c.args.time c.args.input
    (c.in-None.ensures ∙ ap (change_if c.args.self.netlist.now c.args.input.wire) c.saturating_sub.ensures)

pub returns-in-Some : goal.returns-in-Some
returns-in-Some c =
    heard_some c.args.self.netlist.now c.requires.form c.args.time c.args.input c.in-Some.change
    (c.in-Some.ensures ∙ ap (change_if c.args.self.netlist.now c.args.input.wire) c.saturating_sub.ensures)
