use Rattle.std.proofs.Common.{ap, ◌∙◌}
use Rattle.std.proofs.Common.{[]}
use Rattle.mp_depend.specs.work.Merges.{entries_left}
use Rattle.mp_depend.proofs.lemmas.work.MergeLemmas.{none_left}
use Rattle.mp_depend.proofs.work.work.Work.none.Goals as goal

pub returns : goal.returns
returns c = ap (entries_left 1 0 []) c.new.ensures.items ∙ none_left 1 0
