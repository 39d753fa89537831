use Rattle.std.proofs.Common.{◌≡◌, ℕ, ◌+◌, ◌-◌, ◌<◌, ◌≤◌, length, get_or, drop, IfSome, option_map, Option, sym, ap, subst, ◌∙◌, arith}
use Rattle.std.proofs.lemmas.List.{at_drop_more}
use Rattle.mp_model.specs.Waves.{level, wave}
use Rattle.mp_wave.specs.WaveChanges.{changes_in}
use Rattle.mp_questions.specs.timing.Events.{first_event}
use Rattle.mp_questions.specs.timing.Extremes.{widened_by}
use Rattle.mp_questions.specs.timing.Measures.{answered_after}
use Rattle.mp_questions.specs.declared.timing.extremes.Extremes.{Extremes}
use Rattle.mp_questions.specs.timing.Trails.{IsTrail, next_after}
use Rattle.mp_questions.proofs.lemmas.timing.EventLemmas.{next_of_wave}
use Rattle.mp_questions.proofs.lemmas.timing.ExtremeLemmas.{widened_by_each, each_extreme}
use Rattle.mp_questions.proofs.lemmas.timing.TrailLemmas.{trail_later, next_high}
use Rattle.mp_questions.proofs.timing.margins.responses.Goals as goal

abbrev none : ℕ × ℕ
none = (0, 0)

pub loop-place-init : goal.loop-place-init
loop-place-init c =
    let n = c.args.netlist.now in
    let p = c.args.acknowledge.0 in
    record {
      within = omega arith;
      trail = λ j low within. trail_later (wave n p).changes 0 (get_or (changes_in c.args.requests) j none).0 c.trail_of-trail.result (omega arith) c.trail_of-trail.ensures;
      found = each_extreme (answered_after (level n p) n.horizon) (changes_in c.args.requests);
    }

pub units_until-requires : goal.units_until-requires
units_until-requires c =
    let n = c.args.netlist.now in
    let k = c.loop-place.place in
    let x = get_or (changes_in c.args.requests) k none in
    let kept = c.loop-place.invariant.trail k (omega arith) (omega (arith, c.loop-place-test.true, c.len-place-end.ensures)) in
    let at : c.time_at-time.result ≡ x.0 = c.time_at-time.ensures in
    let trail = c.loop-place.trail in
    let is = c.next.ensures ∙ c.upto-trail.ensures.next ∙ ap (next_after (changes_in trail.changes)) at ∙ kept.next x.0 (omega arith) in
    subst (λ (t : ℕ). IfSome c.next.result (λ u. t ≤ u)) (sym at) (subst (λ (o : Option ℕ). IfSome o (λ u. x.0 ≤ u)) (sym is) (next_high (wave n c.args.acknowledge.0).changes x.0))

pub loop-place-preserved : goal.loop-place-preserved
loop-place-preserved c =
    let n = c.args.netlist.now in
    let p = c.args.acknowledge.0 in
    let rs = (changes_in c.args.requests) in
    let k = c.loop-place.place in
    let within : k < length rs = omega (arith, c.loop-place-test.true, c.len-place-end.ensures) in
    let x = get_or rs k none in
    let at : c.time_at-time.result ≡ x.0 = c.time_at-time.ensures in
    let trail = c.loop-place.trail in
    let g = answered_after (level n p) n.horizon in
    let kept = c.loop-place.invariant.trail k (omega arith) within in
    let low = c.requires.within k none within in
    let next : c.next.result ≡ first_event (level n p) x.0 (n.horizon - 1 - x.0) = c.next.ensures ∙ c.upto-trail.ensures.next ∙ ap (next_after (changes_in trail.changes)) at ∙ kept.next x.0 (omega arith) ∙ next_of_wave (level n p) n.horizon x.0 low in
    let answered : c.units_until.result ≡ g x.0 = c.units_until.ensures ∙ ap (λ (t : ℕ). option_map (λ u. u - t) c.next.result) at ∙ ap (λ (o : Option ℕ). option_map (λ u. u - x.0) o) next in
    let now : c.widened_by-found.result ≡ widened_by c.loop-place.found (g x.0) = c.widened_by-found.ensures ∙ ap (widened_by c.loop-place.found) answered in
    record {
      within = omega (arith, within);
      trail = λ j later inside.
          trail_later (wave n p).changes x.0 (get_or rs j none).0 c.upto-trail.result (c.requires.rising k j none (omega (arith, later)) inside) (subst (λ (t : ℕ). IsTrail (wave n p).changes t c.upto-trail.result) at (c.upto-trail.ensures.trail (wave n p).changes (subst (λ (t : ℕ). IsTrail (wave n p).changes t trail) (sym at) kept)));
      found =
          ap (λ (e : Option Extremes). widened_by_each g e (drop (k + 1) rs)) now
          ∙ sym (at_drop_more (widened_by_each g c.loop-place.found) rs k none within)
          ∙ c.loop-place.invariant.found;
    }
