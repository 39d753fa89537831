use Rattle.std.proofs.Common.{◌≡◌, ℕ, ◌+◌, ◌-◌, ◌<◌, ◌||◌, List, length, get_or, take, drop, refl, ap, ◌∙◌, arith, subst}
use Rattle.std.proofs.lemmas.List.{take_all}
use Rattle.mp_kernel.specs.timers.TimerWheels.{coming}
use Rattle.mp_active.specs.compare.Comparing.{is_following, is_tracked, HasCursors}
use Rattle.mp_active.proofs.lemmas.compare.UnitLemmas.{turned, one_passed, front, taken_more, is_left, within_passing, same_up, same_data, same_level, is_complete, all_passed}
use Rattle.mp_active.proofs.lemmas.compare.SetLemmas.{AreSome, set_none, set_more, set_all}
use Rattle.mp_active.proofs.compare.comparison.Comparison.pass_unit.Goals as goal

pub loop-place-init : goal.loop-place-init
loop-place-init c = record {
  passing = turned c.args.run.now (c.args.time - 1) c.args.time c.args.self.now c.turn.new.self refl (let some = c.requires.some in omega arith) c.requires.time c.comes_up.ensures c.requires.cursors
      c.turn.ensures.kept c.turn.ensures.present c.turn.ensures.times (c.turn.ensures.timers (c.args.time - 1) c.requires.cursors.timers);
  some = set_none c.args.run.now c.args.time c.args.self.now c.args.set.now;
  end = ap (length {A = ℕ}) (c.as_slice-place-end.ensures ∙ c.turn.ensures.present);
}

pub pass-requires-clause-within : goal.pass-requires-clause-within
pass-requires-clause-within c =
    let below = c.loop-place-test.true in
    let end = c.loop-place.invariant.end in
    within_passing c.args.run.now (c.args.time - 1) c.args.time c.loop-place.place c.as_slice.result.now c.args.self.now c.loop-place.self c.requires.cursors c.loop-place.invariant.passing
    (c.as_slice.ensures ∙ c.loop-place.invariant.passing.present) (omega arith)

pub pass-requires-clause-cursors : goal.pass-requires-clause-cursors
pass-requires-clause-cursors c =
    let below = c.loop-place-test.true in
    let end = c.loop-place.invariant.end in
    let same = c.as_slice.ensures ∙ c.loop-place.invariant.passing.present in (
      drop (c.loop-place.place + 1) (coming c.args.self.now.timers),
      subst (λ (xs : List ℕ). HasCursors c.args.run.now c.args.time xs c.loop-place.self) (front c.as_slice.result.now (coming c.args.self.now.timers) c.loop-place.place same (omega arith)) c.loop-place.invariant.passing.cursors,
    )

pub loop-place-preserved : goal.loop-place-preserved
loop-place-preserved c =
    let run = c.args.run.now in
    let time = c.args.time in
    let was = c.args.self.now in
    let n = c.loop-place.place in
    let passing = c.loop-place.invariant.passing in
    let number = get_or c.as_slice.result.now n 0 in
    let below = c.loop-place-test.true in
    let end = c.loop-place.invariant.end in
    let same = c.as_slice.ensures ∙ passing.present in
    let low : n < length (coming was.timers) = omega arith in
    let some = is_left c.as_slice.result.now (coming was.timers) n same low in
    record {
      passing = one_passed run time n number was c.loop-place.self c.pass.new.self passing (front c.as_slice.result.now (coming was.timers) n same low) c.in_ok-pass.ensures.kept c.in_ok-pass.ensures.passed;
      some = subst (λ (xs : List ℕ). AreSome run time xs was c.args.set.now c.pass.new.set) (taken_more c.as_slice.result.now (coming was.timers) n same low)
          (set_more run (time - 1) time number (take n (coming was.timers)) was c.loop-place.self c.args.set.now c.loop-place.set c.pass.new.set (let positive = c.requires.some in omega arith) c.requires.time
          c.requires.cursors c.loop-place.invariant.some c.in_ok-pass.ensures.set (same_up run time n number was c.loop-place.self passing some) (same_data run time n number was c.loop-place.self passing)
          (same_level run time n number was c.loop-place.self passing some));
      end = c.loop-place.invariant.end;
    }

pub returns-clause-kept : goal.returns-clause-kept
returns-clause-kept c = c.loop-place.invariant.passing.kept

pub returns-clause-cursors : goal.returns-clause-cursors
returns-clause-cursors c =
    let over = c.loop-place-test.false in
    let end = c.loop-place.invariant.end in
    all_passed c.args.run.now c.args.time c.loop-place.place c.args.self.now c.loop-place.self c.loop-place.invariant.passing (omega arith)

pub returns-clause-complete : goal.returns-clause-complete
returns-clause-complete c = is_complete c.args.run.now c.args.time c.loop-place.place c.args.self.now c.loop-place.self c.loop-place.invariant.passing

pub returns-clause-set : goal.returns-clause-set
returns-clause-set c before old complete =
    let over = c.loop-place-test.false in
    let end = c.loop-place.invariant.end in
    let some = c.requires.some in
    let next : c.args.time - 1 + 1 ≡ c.args.time = omega arith in
    set_all before c.args.run.now (c.args.time - 1) c.args.time c.args.self.now c.args.set.now c.loop-place.set next c.requires.time c.comes_up.ensures c.requires.cursors old
    (λ x low needed. complete x low (ap (λ u. is_following c.args.self.now x || is_tracked c.args.self.now x u) next ∙ needed))
    (subst (λ (xs : List ℕ). AreSome c.args.run.now c.args.time xs c.args.self.now c.args.set.now c.loop-place.set) (take_all c.loop-place.place (coming c.args.self.now.timers) (omega arith)) c.loop-place.invariant.some)
