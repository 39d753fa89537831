use Rattle.std.proofs.Common.{sym, ap, ◌∙◌, subst}
use Rattle.mp_kernel.specs.events.WaveTables.{AreLate, whole_wave}
use Rattle.mp_kernel.proofs.lemmas.events.LateToggleLemmas.{elsewhere, none_late}
use Rattle.mp_kernel.proofs.events.late_toggles.LateToggles.make_room.Goals as goal

pub returns-in_err-put_into-clause-kept : goal.returns-in_err-put_into-clause-kept
returns-in_err-put_into-clause-kept c = λ share are. subst (λ l. AreLate c.put_into.new.waves.items share l) (sym c.put_into.ensures.none) (none_late c.put_into.new.waves.items share)

pub returns-in_err-put_into-clause-others : goal.returns-in_err-put_into-clause-others
returns-in_err-put_into-clause-others c = λ share w are other. c.put_into.ensures.others w (elsewhere w share c.args.self.now are.shared other)

pub returns-clause-kept : goal.returns-clause-kept
returns-clause-kept c = λ share are. subst (λ l. AreLate c.put_into.new.waves.items share l) (sym c.put_into.ensures.none) (none_late c.put_into.new.waves.items share)

pub returns-clause-others : goal.returns-clause-others
returns-clause-others c = λ share w are other. c.put_into.ensures.others w (elsewhere w share c.args.self.now are.shared other)

pub returns-clause-whole : goal.returns-clause-whole
returns-clause-whole c = λ w. ap (λ l. whole_wave c.put_into.new.waves.items l w) c.put_into.ensures.none ∙ c.in_ok-put_into.ensures.put w
