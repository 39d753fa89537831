use Rattle.mp_near.proofs.lemmas.laws.RegionWorkLemmas.{regions_have_work, others_rest}
use Rattle.mp_near.proofs.lemmas.laws.WorkSpanLemmas.{regions_have_work_spans}
use Rattle.mp_near.proofs.laws.regions_have_work.Goals as goal

pub returns : goal.returns
returns c = record { picked = regions_have_work; others = others_rest; work_spans = regions_have_work_spans }
