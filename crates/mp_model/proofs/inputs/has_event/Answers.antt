use Rattle.std.proofs.Common.{◌∙◌}
use Rattle.mp_model.proofs.InputLemmas.{prompt_events}
use Rattle.mp_model.proofs.inputs.has_event.Goals as goal

pub returns-else-late : goal.returns-else-late
returns-else-late c = c.has_change.ensures ∙ prompt_events c.args.tracks.now c.args.time c.args.inputs.now (c.requires c.if-late.false)
