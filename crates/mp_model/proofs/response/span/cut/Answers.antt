use Rattle.std.proofs.Common.{◌∙◌}
use Rattle.mp_wave.proofs.PrefixLemmas.{AreChanges-between, last_time-between}
use Rattle.mp_model.proofs.response.span.cut.Goals as goal

pub returns-clause-form : goal.returns-clause-form
returns-clause-form c =
    let changes = c.from_vec.ensures ∙ c.in_ok-changes.ensures ∙ c.changes_between.ensures.value in
    rw (changes, c.level_at-at_from.ensures.value)
    (record {
      form = AreChanges-between c.args.wave.now c.args.from c.args.to c.level_at-at_from.ensures.form;
      within = last_time-between c.args.wave.now c.args.from c.args.to c.level_at-at_from.ensures.form c.requires;
    })
