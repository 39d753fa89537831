use Rattle.mp_active.proofs.lemmas.compare.FirstLemmas.{is_by_none}
use Rattle.mp_active.proofs.compare.first_sources.is_renewed.Goals as goal

pub returns-in_default : goal.returns-in_default
returns-in_default c =
    is_by_none c.args.old.now c.args.new.now c.args.active.now c.args.wire.0 c.args.is c.is_set_alike.result c.horizon-old_horizon.ensures.form c.horizon-horizon.ensures.form c.requires.is c.in_default.not-Port c.is_set_alike.ensures
