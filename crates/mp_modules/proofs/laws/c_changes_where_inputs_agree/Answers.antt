use Rattle.mp_modules.proofs.CElementLemmas.{changes_where_inputs_agree, has_agreed_level}
use Rattle.mp_modules.proofs.laws.c_changes_where_inputs_agree.Goals as goal

pub returns-clause-changes : goal.returns-clause-changes
returns-clause-changes c = changes_where_inputs_agree

pub returns-clause-agreed : goal.returns-clause-agreed
returns-clause-agreed c = has_agreed_level
