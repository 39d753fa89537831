use Rattle.mp_check.proofs.module_end.ModuleEnd.memory.Goals as goal

pub follow-requires-clause-form : goal.follow-requires-clause-form
follow-requires-clause-form c = let self = c.args.self.now in c.horizon-horizon.ensures.form.modules_ok self.id.0 self.part.now self.stands
