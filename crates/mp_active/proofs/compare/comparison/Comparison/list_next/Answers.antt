use Rattle.std.proofs.Common.{◌≡◌, ℕ, ◌+◌, ◌<◌, List, ◌∷◌, length, refl, ap, ◌∙◌, arith}
use Rattle.std.proofs.lemmas.Bool.{eqb-true}
use Rattle.std.specs.Prelude.{slice_set}
use Rattle.std.specs.Vec.{with_item}
use Rattle.mp_wave.specs.Faults.{pair_at}
use Rattle.mp_wave.specs.WaveChanges.{changes_in}
use Rattle.mp_kernel.specs.timers.TimerWheels.{time_of}
use Rattle.mp_active.specs.compare.Comparing.{place_at, old_changes, changes_at, change_time}
use Rattle.mp_active.proofs.lemmas.compare.CursorLemmas.{next_later, place_fits}
use Rattle.mp_active.proofs.lemmas.compare.PassingLemmas.{left_out, listed_next, is_last, passed, next_time, taken_listed}
use Rattle.mp_active.proofs.compare.comparison.Comparison.list_next.Goals as goal

pub returns-then-place-len-clause-passed : goal.returns-then-place-len-clause-passed
returns-then-place-len-clause-passed c =
    let run = c.args.run.now in
    let was = c.args.self.now in
    let number = c.args.number in
    let is = record was { timers = c.cancel.new.self } in
    let has = c.requires.cursors.1 in
    let long : c.len.result ≡ length (changes_at run was number) = c.len.ensures ∙ ap (length {A = ℕ × ℕ}) (c.old_changes-changes.ensures ∙ ap (old_changes run) c.wire_of.ensures) in
    let over = c.if-place-len.true in
    let place = c.place_of-place.ensures.value in
    passed run c.args.time number was is
    (left_out run c.args.time number was is (let a = has.shape.times in let b = c.requires.within in omega arith) refl refl c.cancel.ensures.times (λ rest. c.cancel.ensures.is c.args.time rest))
    (λ needed. is_last run c.args.time number c.requires.cursors.0 was is has (eqb-true (time_of was.timers number) c.args.time c.requires.due) refl (omega arith))

pub overflow_cast-place : goal.overflow_cast-place
overflow_cast-place c =
    let run = c.args.run.now in
    let was = c.args.self.now in
    let number = c.args.number in
    let cs : changes_in c.old_changes-changes.result ≡ changes_at run was number = c.old_changes-changes.ensures ∙ ap (old_changes run) c.wire_of.ensures in
    let long = c.len.ensures ∙ ap (length {A = ℕ × ℕ}) cs in
    let more = c.if-place-len.false in
    let place = c.place_of-place.ensures.value in
    let fits = place_fits run c.args.time (number ∷ c.requires.cursors.0) was number (place_at was number + 1) c.requires.cursors.1 c.requires.within (omega arith) in
    omega arith

pub overflow_add-time_at : goal.overflow_add-time_at
overflow_add-time_at c =
    let run = c.args.run.now in
    let was = c.args.self.now in
    let number = c.args.number in
    let has = c.requires.cursors.1 in
    let cs : changes_in c.old_changes-changes.result ≡ changes_at run was number = c.old_changes-changes.ensures ∙ ap (old_changes run) c.wire_of.ensures in
    let long = c.len.ensures ∙ ap (length {A = ℕ × ℕ}) cs in
    let more = c.if-place-len.false in
    let place = c.place_of-place.ensures.value in
    let at = c.time_at.ensures ∙ ap (λ (xs : List (ℕ × ℕ)). (pair_at xs (c.place_of-place.result + 1)).0) cs ∙ ap (λ p. (pair_at (changes_at run was number) (p + 1)).0) place in
    let delay = c.delay_of-delay.ensures in
    let room = has.room number (place_at was number + 1) c.requires.within (omega arith) in
    omega arith

pub arm-requires-clause-later : goal.arm-requires-clause-later
arm-requires-clause-later c =
    let run = c.args.run.now in
    let was = c.args.self.now in
    let number = c.args.number in
    let has = c.requires.cursors.1 in
    let cs : changes_in c.old_changes-changes.result ≡ changes_at run was number = c.old_changes-changes.ensures ∙ ap (old_changes run) c.wire_of.ensures in
    let long = c.len.ensures ∙ ap (length {A = ℕ × ℕ}) cs in
    let more = c.if-place-len.false in
    let place = c.place_of-place.ensures.value in
    let at = c.time_at.ensures ∙ ap (λ (xs : List (ℕ × ℕ)). (pair_at xs (c.place_of-place.result + 1)).0) cs ∙ ap (λ p. (pair_at (changes_at run was number) (p + 1)).0) place in
    let delay = c.delay_of-delay.ensures in
    let due = eqb-true (time_of was.timers number) c.args.time c.requires.due in
    let now = has.time number (taken_listed run c.args.time number c.requires.cursors.0 was has) in
    let after = next_later run c.args.time (number ∷ c.requires.cursors.0) was number (place_at was number) (place_at was number + 1) has (omega arith) (omega arith) in
    omega arith

pub returns-clause-passed : goal.returns-clause-passed
returns-clause-passed c =
    let run = c.args.run.now in
    let was = c.args.self.now in
    let number = c.args.number in
    let time = c.time_at.result + c.delay_of-delay.result in
    let has = c.requires.cursors.1 in
    let is = record was { timers = c.arm.new.self; places = with_item was.places number (c.place_of-place.result + 1) } in
    let cs : changes_in c.old_changes-changes.result ≡ changes_at run was number = c.old_changes-changes.ensures ∙ ap (old_changes run) c.wire_of.ensures in
    let long = c.len.ensures ∙ ap (length {A = ℕ × ℕ}) cs in
    let less = c.if-place-len.false in
    let place = c.place_of-place.ensures.value in
    let at = c.time_at.ensures ∙ ap (λ (xs : List (ℕ × ℕ)). (pair_at xs (c.place_of-place.result + 1)).0) cs ∙ ap (λ p. (pair_at (changes_at run was number) (p + 1)).0) place in
    let delay = c.delay_of-delay.ensures in
    let more : place_at was number + 1 < length (changes_at run was number) = omega arith in
    let next : time ≡ change_time run was number (place_at was number + 1) = omega arith in
    let due = eqb-true (time_of was.timers number) c.args.time c.requires.due in
    let room = has.room number (place_at was number + 1) c.requires.within more in
    let again = listed_next run c.args.time number time c.requires.cursors.0 was is c.requires.within has due more next refl
    (ap (λ p. slice_set was.places.items number (p + 1)) place) c.in_ok-arm.ensures.times (λ rest. c.in_ok-arm.ensures.again rest) in
    passed run c.args.time number was is again (λ needed none. absurd (let now = next_time run c.args.time number time was is (let a = has.shape.times in let b = c.requires.within in omega arith) c.in_ok-arm.ensures.times in omega arith))
