use Rattle.mp_redo.proofs.lemmas.apart.JoinLemmas.{none_are_below, work_spans_join, all_are_work_spans}
use Rattle.mp_redo.proofs.apart.joining.work_spans_join.Goals as goal

pub returns : goal.returns
returns c = record { none = none_are_below; join = work_spans_join; all = all_are_work_spans }
