use Rattle.mp_questions.proofs.lemmas.causes.AboveLemmas.{path_from_zero}
use Rattle.mp_questions.proofs.lemmas.causes.WhyLemmas.{puts_text}
use Rattle.mp_questions.proofs.causes.path.put_path.Goals as goal

pub returns : goal.returns
returns g c = puts_text (path_from_zero c.args.netlist.now c.horizon-horizon.ensures.form c.args.moment) c.put_path_since.ensures
