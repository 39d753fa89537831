use Rattle.std.proofs.Common.{◌≡◌, ◌≤◌, length, take, rules, sym, ap, ◌∙◌, subst, arith}
use Rattle.mp_wave.specs.ToggleWaves.{toggle_changes}
use Rattle.mp_wave.specs.WaveChanges.{held_changes}
use Rattle.mp_wave.specs.declared.held.Held.{Held}
use Rattle.mp_wave.proofs.WaveChangesLemmas.{length_toggles, length_front, take_toggles}
use Rattle.mp_wave.proofs.held.Held.front.Goals as goal

pub slice_bounds-extend_from_slice-end : goal.slice_bounds-extend_from_slice-end
slice_bounds-extend_from_slice-end c =
    let within = subst (λ (h : Held). c.args.count ≤ length (held_changes 0 h)) c.in-Toggles.is (c.requires 0) in
    length_front c.args.count c.as_slice-all.result.now (omega (arith, within, length_toggles 0 c.in-Toggles.times.items, ap length c.as_slice-all.ensures.value))

pub slice_bounds-extend_from_slice-end-in-ShortPairs : goal.slice_bounds-extend_from_slice-end-in-ShortPairs
slice_bounds-extend_from_slice-end-in-ShortPairs c =
    let within = subst (λ (h : Held). c.args.count ≤ length (held_changes 0 h)) c.in-ShortPairs.is (c.requires 0) in
    length_front c.args.count c.as_slice-all-in-ShortPairs.result.now (omega (arith, within, ap length c.as_slice-all-in-ShortPairs.ensures.value))

pub slice_bounds-extend_from_slice-end-in-Pairs : goal.slice_bounds-extend_from_slice-end-in-Pairs
slice_bounds-extend_from_slice-end-in-Pairs c =
    let within = subst (λ (h : Held). c.args.count ≤ length (held_changes 0 h)) c.in-Pairs.is (c.requires 0) in
    length_front c.args.count c.as_slice-all-in-Pairs.result.now (omega (arith, within, ap length c.as_slice-all-in-Pairs.ensures.value))

pub returns-in_ok-extend_from_slice-in-Toggles-clause-value : goal.returns-in_ok-extend_from_slice-in-Toggles-clause-value
returns-in_ok-extend_from_slice-in-Toggles-clause-value c initial =
    let front : c.extend_from_slice.new.self.items ≡ take c.args.count c.in-Toggles.times.items = search rules in
    ap (toggle_changes initial) front ∙ sym (take_toggles c.args.count initial c.in-Toggles.times.items)
    ∙ ap (λ (h : Held). take c.args.count (held_changes initial h)) (sym c.in-Toggles.is)
