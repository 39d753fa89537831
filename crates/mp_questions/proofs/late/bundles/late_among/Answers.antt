use Rattle.std.proofs.Common.{◌≡◌, ◌-◌, ◌<◌, length, Vec, Global, sym, ap, subst, ◌∙◌, arith}
use Rattle.mp_wave.specs.WaveChanges.{changes_in}
use Rattle.mp_model.specs.Waves.{level}
use Rattle.mp_questions.specs.timing.Events.{last_event}
use Rattle.mp_questions.specs.declared.late.driven.Driven.{Driven}
use Rattle.mp_questions.specs.declared.late.late.Late.{Late}
use Rattle.mp_questions.specs.late.Lateness.{units_behind}
use Rattle.mp_questions.proofs.lemmas.late.BundleLemmas.{late_more, late_same}
use Rattle.mp_questions.proofs.late.bundles.late_among.Goals as goal
use Rattle.mp_questions.proofs.late.bundles.late_among.Goals.{in-Some+in_ok-push, in_default}

pub loop-place-preserved : goal.loop-place-preserved
loop-place-preserved c =
    let n = c.args.of.netlist.now in
    let b = c.args.bundle.now in
    let t = c.time_at-time.result in
    let i = c.loop-place.place in
    let changes = changes_in c.args.changes in
    let within : i < length changes = omega (arith, c.loop-place-test.true, c.len-place-end.ensures) in
    let value = subst (λ (d : Driven). c.in_ok-units.field-0 ≡ units_behind d.netlist.now b t (last_event (level d.netlist.now b.request.0) (t - 1))) c.loop-place.invariant.0 c.in_ok-units.ensures.value in (
      c.in_ok-units.ensures.of ∙ c.loop-place.invariant.0,
      elim c.match-branch-2.branch [
        | in-Some+in_ok-push w ↦
            ap (λ (v : Vec Late Global). v.items) w.late-is ∙ w.in_ok-push.ensures.items
            ∙ late_more n c.args.id.0 b changes i within t w.in-Some.units c.loop-place.late.items c.time_at-time.ensures (sym w.in-Some.is ∙ value) c.loop-place.invariant.1
        | in_default w ↦
            ap (λ (v : Vec Late Global). v.items) w.late-is
            ∙ late_same n c.args.id.0 b changes i within t c.loop-place.late.items c.time_at-time.ensures (sym w.in_default.is ∙ value) c.loop-place.invariant.1
      ],
    )
