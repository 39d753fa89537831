use Rattle.std.proofs.Common.{◌∙◌}
use Rattle.mp_wave.specs.WaveChanges.{changes_in}
use Rattle.mp_wave.proofs.PrefixLemmas.{earlier_than-take}
use Rattle.mp_wave.proofs.search.earlier_than.Goals as goal

pub returns : goal.returns
returns c =
    c.before_place.ensures
    ∙ earlier_than-take c.args.time c.count_before-count.result (changes_in c.args.changes) c.count_before-count.ensures.bound c.count_before-count.ensures.early c.count_before-count.ensures.late
