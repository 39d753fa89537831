use Rattle.std.proofs.Common.{◌∙◌}
use Rattle.mp_wave.specs.WaveChanges.{changes_in}
use Rattle.mp_wave.proofs.PrefixLemmas.{later_than-drop}
use Rattle.mp_wave.proofs.search.later_than.Goals as goal

pub returns-clause-value : goal.returns-clause-value
returns-clause-value c =
    c.from_place.ensures
    ∙ later_than-drop c.args.time c.count_upto-count.result (changes_in c.args.changes) c.count_upto-count.ensures.bound c.count_upto-count.ensures.early c.count_upto-count.ensures.late
