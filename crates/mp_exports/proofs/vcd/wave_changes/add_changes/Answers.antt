use Rattle.mp_exports.proofs.lemmas.vcd.Names.{◌+◌, ◌<◌, length, take, sym, ◌∙◌, arith, changes_in, told_from, onto}
use Rattle.mp_exports.proofs.lemmas.vcd.AgendaLemmas.{told_as, onto_next}
use Rattle.mp_exports.proofs.vcd.wave_changes.add_changes.Goals as goal

pub loop-place-preserved : goal.loop-place-preserved
loop-place-preserved c =
    let changes = changes_in c.args.changes in
    let i = c.loop-place.place in
    let w = c.args.wire in
    let from = c.args.agenda.now.from in
    let within : i < length changes = omega (arith, c.loop-place-test.true, c.len-place-end.ensures) in
    record {
      within = omega (arith, within);
      from = c.in_ok-add.ensures.from ∙ c.loop-place.invariant.from;
      times = c.in_ok-add.ensures.times ∙ c.loop-place.invariant.times;
      told = λ told tells.
          let step = rw (c.loop-place.invariant.from, c.time_at.ensures, c.level_at.ensures) at c.in_ok-add.ensures.told in
          told_as _ _ _ (told_from from (λ t. onto w (take (i + 1) changes) t (told t)))
          (λ k inside. sym (onto_next w changes i (from + k) (told (from + k)) within))
          (step (λ t. onto w (take i changes) t (told t)) (c.loop-place.invariant.told told tells));
    }
