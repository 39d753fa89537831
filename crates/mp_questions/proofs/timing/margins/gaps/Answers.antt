use Rattle.std.proofs.Common.{◌≡◌, ℕ, ◌+◌, ◌-◌, ◌<◌, length, List, ◌∷◌, get_or, drop, suc, sym, ap, subst, ◌∙◌, arith}
use Rattle.std.specs.List.Sorted.{IsNonDecreasingBy}
use Rattle.std.proofs.lemmas.List.{at_drop_more}
use Rattle.mp_wave.specs.WaveChanges.{changes_in}
use Rattle.mp_questions.specs.timing.Events.{times_of}
use Rattle.mp_questions.specs.timing.Extremes.{extremes, widened}
use Rattle.mp_questions.specs.timing.Measures.{gaps, gaps_from}
use Rattle.mp_questions.specs.declared.timing.extremes.Extremes.{Extremes}
use Rattle.std.proofs.Common.{Option}
use Rattle.mp_questions.proofs.lemmas.timing.ExtremeLemmas.{widened_all, extremes_are}
use Rattle.mp_questions.proofs.timing.margins.gaps.Goals as goal

-- the events behind the first don't fall
rising : (first : ℕ × ℕ) (later events : List (ℕ × ℕ)) → events ≡ first ∷ later → IsNonDecreasingBy (λ (c : ℕ × ℕ). c.0) events → IsNonDecreasingBy (λ (c : ℕ × ℕ). c.0) (first ∷ later)
rising first later events is sorted = subst (IsNonDecreasingBy (λ (c : ℕ × ℕ). c.0)) is sorted

pub loop-place-init : goal.loop-place-init
loop-place-init c =
    let first = c.in-Some.first in
    let later = changes_in c.in-Some.later in
    let is = c.in-Some.ensures.cases.0 in
    record {
      found = extremes_are (gaps_from first.0 (times_of later)) ∙ ap (λ l. extremes (gaps (times_of l))) (sym is);
      within = omega arith;
      rising = λ j low within. rising first later (changes_in c.args.events) is c.requires 0 (suc j) (0, 0) (omega arith) (omega (arith, within));
    }

pub loop-place-preserved : goal.loop-place-preserved
loop-place-preserved c =
    let later = changes_in c.in-Some.later in
    let k = c.loop-place.place in
    let x = get_or later k (0, 0) in
    let at : c.time_at-time.result ≡ x.0 = c.time_at-time.ensures in
    let here : k < length later = omega (arith, c.loop-place-test.true, c.len-place-end.ensures) in
    record {
      found =
          subst (λ (t : ℕ). widened_all c.widened-found.result (gaps_from t (times_of (drop (k + 1) later))) ≡ extremes (gaps (times_of (changes_in c.args.events)))) (sym at)
          (ap (λ (e : Option Extremes). widened_all e (gaps_from x.0 (times_of (drop (k + 1) later)))) (c.widened-found.ensures ∙ ap (λ (t : ℕ). widened c.loop-place.found (t - c.loop-place.before)) at)
          ∙ sym (at_drop_more (λ r. widened_all c.loop-place.found (gaps_from c.loop-place.before (times_of r))) later k (0, 0) here)
          ∙ c.loop-place.invariant.found);
      within = omega (arith, here);
      rising = λ j low within.
          let rise = rising c.in-Some.first later (changes_in c.args.events) c.in-Some.ensures.cases.0 c.requires (suc k) (suc j) (0, 0) (omega (arith, low)) (omega (arith, within)) in
          omega (arith, at, rise);
    }
