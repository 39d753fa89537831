use Rattle.std.proofs.Common.{◌<◌, sym, ◌∙◌, ap, subst}
use Rattle.std.specs.Prelude.{slice_index_or, slice_set}
use Rattle.mp_wave.specs.Waveform.{Waveform, last_time}
use Rattle.mp_wave.specs.ToggleWaves.{toggled_at}
use Rattle.mp_kernel.proofs.lemmas.events.LateToggleLemmas.{no_toggle, found, waved_at, put_later, put_next, put_others, put_back}
use Rattle.mp_kernel.proofs.events.late_toggles.put_all.Goals as goal

pub toggle-requires : goal.toggle-requires
toggle-requires c =
    let each = c.loop-each in
    let x = slice_index_or c.args.toggles.now each.each-index no_toggle in
    let within = waved_at c.args.waves.now.items each.waves.items c.requires.0 each.each-index c.args.toggles.now c.requires.1 c.loop-each-test.true each.invariant.0 in
    subst (λ (v : Waveform). last_time 0 v.changes < x.time) (sym (found each.waves.items x.wire c.index_mut.result.now c.index_mut.ensures.value within))
    (put_later c.args.waves.now.items each.waves.items c.requires.0 each.each-index c.args.toggles.now c.requires.1 c.loop-each-test.true each.invariant)

pub returns-in_err-toggle-clause-others : goal.returns-in_err-toggle-clause-others
returns-in_err-toggle-clause-others c = λ w gone.
    let each = c.loop-each in
    let x = slice_index_or c.args.toggles.now each.each-index no_toggle in
    let within = waved_at c.args.waves.now.items each.waves.items c.requires.0 each.each-index c.args.toggles.now c.requires.1 c.loop-each-test.true each.invariant.0 in
    put_back each.waves.items x.wire c.toggle.new.self (c.in_err-toggle.ensures.err ∙ found each.waves.items x.wire c.index_mut.result.now c.index_mut.ensures.value within) w
    ∙ put_others c.args.waves.now.items each.waves.items each.each-index c.args.toggles.now each.invariant w gone

pub loop-each-preserved : goal.loop-each-preserved
loop-each-preserved c =
    let each = c.loop-each in
    let x = slice_index_or c.args.toggles.now each.each-index no_toggle in
    let within = waved_at c.args.waves.now.items each.waves.items c.requires.0 each.each-index c.args.toggles.now c.requires.1 c.loop-each-test.true each.invariant.0 in
    put_next c.args.waves.now.items each.waves.items (slice_set each.waves.items x.wire c.toggle.new.self) each.each-index c.args.toggles.now c.loop-each-test.true each.invariant within
    (ap (λ v. slice_set each.waves.items x.wire v) (c.in_ok-toggle.ensures.ok ∙ ap (λ v. toggled_at v x.time) (found each.waves.items x.wire c.index_mut.result.now c.index_mut.ensures.value within)))
