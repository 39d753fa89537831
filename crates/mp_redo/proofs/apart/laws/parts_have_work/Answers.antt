use Rattle.mp_redo.proofs.lemmas.apart.PartWorkLemmas.{parts_are_revisions, parts_have_least_delay, parts_have_windows, parts_have_work, others_dont_work}
use Rattle.mp_redo.proofs.apart.laws.parts_have_work.Goals as goal

pub returns : goal.returns
returns c = record {
  revisions = parts_are_revisions;
  least = parts_have_least_delay;
  windows = parts_have_windows;
  work = parts_have_work;
  others = others_dont_work;
}
