use Rattle.std.proofs.Common.{◌∷◌, ◌++◌, [], ◌/◌, cond, sym, ap, ◌∙◌, subst}
use Rattle.std.specs.Prelude.{◌==◌}
use Rattle.mp_wave.specs.Waveform.{Waveform}
use Rattle.mp_wave.specs.ToggleWaves.{toggled_at}
use Rattle.mp_kernel.specs.events.WaveTables.{AreLate}
use Rattle.mp_kernel.proofs.lemmas.events.LateToggleLemmas.{wait_more, waits, can_after}
use Rattle.mp_kernel.proofs.events.late_toggles.LateToggles.push.Goals as goal

pub returns-in_err-make_room-clause-kept : goal.returns-in_err-make_room-clause-kept
returns-in_err-make_room-clause-kept c = c.make_room.ensures.kept (c.args.toggle.wire / 16384) c.requires.before

pub returns-in_err-make_room-clause-others : goal.returns-in_err-make_room-clause-others
returns-in_err-make_room-clause-others c = λ w other. c.make_room.ensures.others (c.args.toggle.wire / 16384) w c.requires.before other

pub returns-in_err-push-clause-kept : goal.returns-in_err-push-clause-kept
returns-in_err-push-clause-kept c =
    let is = c.in_err-push.ensures.items in
    subst (λ l. AreLate c.make_room.new.waves.items (c.args.toggle.wire / 16384) l) (sym (is ∙ c.self.view_is)) (c.make_room.ensures.kept (c.args.toggle.wire / 16384) c.requires.before)

pub returns-in_err-push-clause-others : goal.returns-in_err-push-clause-others
returns-in_err-push-clause-others c = λ w other. c.make_room.ensures.others (c.args.toggle.wire / 16384) w c.requires.before other

pub returns-clause-others : goal.returns-clause-others
returns-clause-others c = λ w other. c.make_room.ensures.others (c.args.toggle.wire / 16384) w c.requires.before other

pub returns-clause-kept : goal.returns-clause-kept
returns-clause-kept c =
    let x = c.args.toggle in
    let before = c.make_room.ensures.kept (x.wire / 16384) c.requires.before in
    let can = can_after c.args.waves.now.items c.make_room.new.waves.items c.args.self.now c.make_room.new.self x c.requires before c.make_room.ensures.places (c.in_ok-make_room.ensures.whole x.wire) in
    wait_more c.make_room.new.waves.items c.make_room.new.self c.push.new.self.items x can (c.in_ok-push.ensures.items ∙ ap (λ l. l ++ x ∷ []) c.self.view_is)

pub returns-clause-pushed : goal.returns-clause-pushed
returns-clause-pushed c = λ w.
    let x = c.args.toggle in
    waits c.make_room.new.waves.items c.make_room.new.self c.push.new.self.items x w (c.in_ok-push.ensures.items ∙ ap (λ l. l ++ x ∷ []) c.self.view_is)
    ∙ ap (λ (v : Waveform). cond (x.wire == w) (toggled_at v x.time) v) (c.in_ok-make_room.ensures.whole w)
