use Rattle.std.proofs.Common.{◌≡◌, ℕ, ◌+◌, ◌<◌, List, [], length, refl, sym, ap, ◌∙◌, arith, subst}
use Rattle.std.specs.Vec.{with_item}
use Rattle.mp_wave.specs.Faults.{pair_at}
use Rattle.mp_wave.specs.WaveChanges.{changes_in}
use Rattle.mp_active.specs.compare.Comparing.{delay_of, old_changes, changes_at, change_time}
use Rattle.mp_active.specs.compare.Listing.{IsCount}
use Rattle.mp_active.proofs.lemmas.compare.CursorLemmas.{place_fits}
use Rattle.mp_active.proofs.lemmas.compare.ListingLemmas.{IsFresh, fresh_cursors}
use Rattle.mp_active.proofs.compare.comparison.Comparison.list.Goals as goal

pub overflow_cast-place : goal.overflow_cast-place
overflow_cast-place c =
    let run = c.args.run.now in
    let was = c.args.self.now in
    let number = c.args.number in
    let cs : changes_in c.old_changes-changes.result ≡ changes_at run was number = c.old_changes-changes.ensures ∙ ap (old_changes run) c.wire_of-wire.ensures in
    let long = c.len.ensures ∙ ap (length {A = ℕ × ℕ}) cs in
    let more = c.if-place-len.false in
    let fits = place_fits run c.args.now [] was number c.old_count-place.result c.requires.cursors c.requires.within (omega arith) in
    omega arith

pub returns-clause-cursors : goal.returns-clause-cursors
returns-clause-cursors c =
    let run = c.args.run.now in
    let was = c.args.self.now in
    let number = c.args.number in
    let place = c.old_count-place.result in
    let is = record was { timers = c.arm.new.self; places = with_item was.places number place } in
    let cs : changes_in c.old_changes-changes.result ≡ changes_at run was number = c.old_changes-changes.ensures ∙ ap (old_changes run) c.wire_of-wire.ensures in
    let long = c.len.ensures ∙ ap (length {A = ℕ × ℕ}) cs in
    let more = c.if-place-len.false in
    let low : place < length (changes_at run was number) = omega arith in
    let count : IsCount (changes_at run was number) (delay_of was.numbers number) c.args.now place =
    subst (λ d. IsCount (changes_at run was number) d c.args.now place) c.delay_of-delay.ensures (subst (λ w. IsCount (old_changes run w) c.delay_of-delay.result c.args.now place) c.wire_of-wire.ensures c.old_count-place.ensures) in
    let at = c.time_at.ensures ∙ ap (λ (xs : List (ℕ × ℕ)). (pair_at xs place).0) cs in
    let delay = c.delay_of-delay.ensures in
    let first : c.time_at.result + c.delay_of-delay.result ≡ change_time run was number place = omega arith in
    let after = count.later place (omega arith) low in
    let fresh : IsFresh run c.args.now number (c.time_at.result + c.delay_of-delay.result) place was is = record {
      within = c.requires.within;
      free = sym c.time_of.ensures ∙ c.if-time_of.false;
      low = low;
      first = first;
      over = λ k less. count.over k less;
      later = omega arith;
      kept = refl;
      places = refl;
      times = c.in_ok-arm.ensures.times;
      timers = c.in_ok-arm.ensures.fresh [] (sym c.time_of.ensures ∙ c.if-time_of.false);
    } in
    fresh_cursors run c.args.now number (c.time_at.result + c.delay_of-delay.result) place was is c.requires.cursors fresh
