use Rattle.std.proofs.Common.{◌≡◌, ℕ, ◌<◌, ◌/◌, [], cond, sym, ap, ◌∙◌, arith, subst}
use Rattle.mp_wave.specs.Waveform.{Waveform, last_time}
use Rattle.mp_wave.specs.ToggleWaves.{toggled_at}
use Rattle.std.specs.Prelude.{◌==◌}
use Rattle.mp_kernel.specs.events.WaveTables.{whole_wave}
use Rattle.mp_kernel.proofs.lemmas.events.LateToggleLemmas.{found}
use Rattle.mp_kernel.proofs.lemmas.events.WaveTableLemmas.{placed_in, over_alone, kept_alone, toggled_alone, can_wait, kept_pushed, toggled_pushed}
use Rattle.mp_kernel.proofs.events.wave_table.WaveTable.toggle_wire.Goals as goal

-- where no list is of the wire's share
pub index_mut-requires : goal.index_mut-requires
index_mut-requires c =
    let within = placed_in c.self.inside.late.items c.self.inside.waves.items c.args.self.now c.args.wire c.self.view_is c.requires.wave in
    let long = c.self.inside.waves.ok.0 in
    omega arith

pub toggle-requires : goal.toggle-requires
toggle-requires c =
    let late = c.self.inside.late.items in
    let waves = c.self.inside.waves.items in
    subst (λ (v : Waveform). last_time 0 v.changes < c.args.time)
    (sym (found waves c.args.wire c.index_mut.result.now c.index_mut.ensures.value (placed_in late waves c.args.self.now c.args.wire c.self.view_is c.requires.wave)))
    (over_alone late waves c.args.self.now c.args.wire c.args.time c.self.view_is c.requires.wave c.in_default.ensures.item.3 c.requires.over)

pub invariant_of-self-in_default : goal.invariant_of-self-in_default
invariant_of-self-in_default c = kept_alone c.self.inside.waves.items c.self.inside.late.items c.args.wire c.toggle.new.self c.self.invariant c.in_default.ensures.item.3

pub invariant_of-self : goal.invariant_of-self
invariant_of-self c = kept_alone c.self.inside.waves.items c.self.inside.late.items c.args.wire c.toggle.new.self c.self.invariant c.in_default.ensures.item.3

pub returns-in_default : goal.returns-in_default
returns-in_default c =
    let late = c.self.inside.late.items in
    let waves = c.self.inside.waves.items in
    let is = found waves c.args.wire c.index_mut.result.now c.index_mut.ensures.value (placed_in late waves c.args.self.now c.args.wire c.self.view_is c.requires.wave) in
    toggled_alone late waves c.args.self.now c.args.wire c.args.time c.toggle.new.self c.self.view_is c.requires.wave c.in_default.ensures.item.3
    (c.in_ok-toggle.ensures.ok ∙ ap (λ v. toggled_at v c.args.time) is)

-- and where one is
pub push-requires : goal.push-requires
push-requires c =
    can_wait c.self.inside.late.items c.self.inside.waves.items c.args.self.now c.args.wire c.args.time c.in-Some.late.now c.self.view_is c.requires.wave c.self.invariant c.requires.over
    (c.in-Some.ensures.item.3.1 [])

pub invariant_of-self-in_err-push : goal.invariant_of-self-in_err-push
invariant_of-self-in_err-push c =
    kept_pushed c.self.inside.waves.items c.push.new.waves.items c.self.inside.late.items (c.args.wire / 16384) c.push.new.self c.self.invariant c.push.ensures.places c.push.ensures.kept
    c.push.ensures.others c.in-Some.ensures.item.3.0

pub invariant_of-self-2 : goal.invariant_of-self-2
invariant_of-self-2 c =
    kept_pushed c.self.inside.waves.items c.push.new.waves.items c.self.inside.late.items (c.args.wire / 16384) c.push.new.self c.self.invariant c.push.ensures.places c.push.ensures.kept
    c.push.ensures.others c.in-Some.ensures.item.3.0

pub returns : goal.returns
returns c =
    toggled_pushed c.self.inside.waves.items c.push.new.waves.items c.args.self.now c.self.inside.late.items c.args.wire c.args.time c.push.new.self c.self.view_is c.requires.wave c.push.ensures.places
    c.push.ensures.others c.in-Some.ensures.item.3.0
    (subst (λ l. (w : ℕ) → whole_wave c.push.new.waves.items c.push.new.self w ≡
    cond (c.args.wire == w) (toggled_at (whole_wave c.self.inside.waves.items l w) c.args.time) (whole_wave c.self.inside.waves.items l w))
    (c.in-Some.ensures.item.3.1 []) c.in_ok-push.ensures.pushed)
