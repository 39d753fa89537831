use Rattle.std.proofs.Common.{◌∙◌}
use Rattle.mp_near.proofs.lemmas.runs.RunLemmas.{end_before}
use Rattle.mp_near.proofs.runs.before.end_of.Goals as goal

pub returns : goal.returns
returns c = c.end_memory.ensures ∙ end_before c.args.change.now c.requires.change c.args.small.now c.requires.small c.args.number c.index-id.result.now c.requires.low c.index-id.ensures
