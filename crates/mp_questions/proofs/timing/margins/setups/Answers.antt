use Rattle.std.proofs.Common.{◌≡◌, ℕ, ◌+◌, ◌-◌, ◌<◌, ◌≤◌, length, get_or, drop, IfSome, option_map, Option, None, sym, ap, subst, ◌∙◌, arith}
use Rattle.std.proofs.lemmas.List.{at_drop_more}
use Rattle.mp_model.specs.Waves.{level, wave}
use Rattle.mp_wave.specs.WaveChanges.{changes_in}
use Rattle.mp_questions.specs.timing.Events.{last_event}
use Rattle.mp_questions.specs.timing.Extremes.{widened_by}
use Rattle.mp_questions.specs.timing.Measures.{stood_for}
use Rattle.mp_questions.specs.declared.timing.extremes.Extremes.{Extremes}
use Rattle.mp_questions.specs.timing.Trails.{IsTrail, last_upto}
use Rattle.mp_questions.proofs.lemmas.timing.EventLemmas.{last_of_wave}
use Rattle.mp_questions.proofs.lemmas.timing.ExtremeLemmas.{widened_by_each, each_extreme}
use Rattle.mp_questions.proofs.lemmas.timing.TrailLemmas.{trail_later, last_low}
use Rattle.mp_questions.proofs.timing.margins.setups.Goals as goal

abbrev none : ℕ × ℕ
none = (0, 0)

pub loop-place-init : goal.loop-place-init
loop-place-init c =
    let n = c.args.netlist.now in
    let p = c.args.payload.0 in
    record {
      within = omega arith;
      trail = λ j low within. trail_later (wave n p).changes 0 (get_or (changes_in c.args.requests) j none).0 c.trail_of-trail.result (omega arith) c.trail_of-trail.ensures;
      found = each_extreme (stood_for (level n p)) (changes_in c.args.requests);
    }

pub units_since-requires : goal.units_since-requires
units_since-requires c =
    let n = c.args.netlist.now in
    let k = c.loop-place.place in
    let x = get_or (changes_in c.args.requests) k none in
    let kept = c.loop-place.invariant.trail k (omega arith) (omega (arith, c.loop-place-test.true, c.len-place-end.ensures)) in
    let at : c.time_at-time.result ≡ x.0 = c.time_at-time.ensures in
    let trail = c.loop-place.trail in
    let is = c.upto-trail.ensures.last ∙ ap (last_upto trail.last (changes_in trail.changes)) at ∙ kept.last x.0 (omega arith) in
    subst (λ (t : ℕ). IfSome c.upto-trail.result.last (λ u. u ≤ t)) (sym at) (subst (λ (o : Option ℕ). IfSome o (λ u. u ≤ x.0)) (sym is) (last_low (wave n c.args.payload.0).changes None x.0 tt))

pub loop-place-preserved : goal.loop-place-preserved
loop-place-preserved c =
    let n = c.args.netlist.now in
    let p = c.args.payload.0 in
    let rs = (changes_in c.args.requests) in
    let k = c.loop-place.place in
    let within : k < length rs = omega (arith, c.loop-place-test.true, c.len-place-end.ensures) in
    let x = get_or rs k none in
    let at : c.time_at-time.result ≡ x.0 = c.time_at-time.ensures in
    let trail = c.loop-place.trail in
    let g = stood_for (level n p) in
    let kept = c.loop-place.invariant.trail k (omega arith) within in
    let low = c.requires.within k none within in
    let last : c.upto-trail.result.last ≡ last_event (level n p) x.0 = c.upto-trail.ensures.last ∙ ap (last_upto trail.last (changes_in trail.changes)) at ∙ kept.last x.0 (omega arith) ∙ last_of_wave (level n p) n.horizon x.0 low in
    let stood : c.units_since.result ≡ g x.0 = c.units_since.ensures ∙ ap (λ (t : ℕ). option_map (λ u. t - u) c.upto-trail.result.last) at ∙ ap (λ (o : Option ℕ). option_map (λ u. x.0 - u) o) last in
    let now : c.widened_by-found.result ≡ widened_by c.loop-place.found (g x.0) = c.widened_by-found.ensures ∙ ap (widened_by c.loop-place.found) stood in
    record {
      within = omega (arith, within);
      trail = λ j next inside.
          trail_later (wave n p).changes x.0 (get_or rs j none).0 c.upto-trail.result (c.requires.rising k j none (omega (arith, next)) inside) (subst (λ (t : ℕ). IsTrail (wave n p).changes t c.upto-trail.result) at (c.upto-trail.ensures.trail (wave n p).changes (subst (λ (t : ℕ). IsTrail (wave n p).changes t trail) (sym at) kept)));
      found =
          ap (λ (e : Option Extremes). widened_by_each g e (drop (k + 1) rs)) now
          ∙ sym (at_drop_more (widened_by_each g c.loop-place.found) rs k none within)
          ∙ c.loop-place.invariant.found;
    }
