use Rattle.mp_depend.proofs.lemmas.work.WorkSpanLemmas.{work_spans_are_work}
use Rattle.mp_depend.proofs.work.laws.work_spans_are_work.Goals as goal

pub returns : goal.returns
returns c = work_spans_are_work
