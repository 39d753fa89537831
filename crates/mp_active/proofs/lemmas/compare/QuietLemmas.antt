-- A unit in which no number has an old change, and nothing new comes.
use Rattle.std.proofs.Common.{◌≡◌, ◌≢◌, ℕ, ◌+◌, ◌-◌, ◌<◌, ◌≤◌, Bool, true, false, ◌&&◌, ◌||◌, List, [], length, refl, sym, ap, ◌∙◌, arith, inl, inr}
use Rattle.std.specs.Prelude.{◌==◌}
use Rattle.std.proofs.lemmas.Bool.{cases_lt, ne_eqb, lt-ltb}
use Rattle.mp_kernel.specs.events.Adding.{listed}
use Rattle.mp_kernel.specs.declared.timers.timer_wheel.TimerWheel.{TimerWheel}
use Rattle.mp_kernel.specs.timers.TimerWheels.{never, time_in, time_of, coming, IsTimerWheel, ComesUp}
use Rattle.mp_partition.specs.runs.Outcomes.{Outcome}
use Rattle.mp_active.specs.declared.compare.comparison.Comparison.{Comparison}
use Rattle.mp_active.specs.compare.Comparing.{wire_of, delay_of, late, source_at, follows, may_differ, asleep_at, is_following, is_tracked, IsOldRun, HasCursors, IsComplete, AgreeFrom, AgreeAsleep}
use Rattle.mp_active.specs.compare.Passing.{is_set}
use Rattle.mp_active.proofs.lemmas.compare.CursorLemmas.{rests, is_number, cannot_differ}
use Rattle.mp_active.proofs.lemmas.compare.SetLemmas.{up_is}
use Rattle.mp_active.proofs.lemmas.compare.UnitLemmas.{needed_now}

-- no number is listed for a time
abbrev pub NoneIsDue : ℕ → Comparison → Type 0
NoneIsDue u c = (x : ℕ) → time_of c.timers x ≢ u

-- so it is where none comes up
pub none_due : (t : ℕ) (c : Comparison) → ComesUp → IsTimerWheel t [] c.timers → t + 1 < never → coming c.timers ≡ [] → NoneIsDue (t + 1) c
none_due t c up is low none x due =
    let once = up t c.timers is x due low in
    let nothing = ap (listed x) none in
    absurd (omega arith)

-- and where each that is listed has its time later
pub later_due : (t u : ℕ) (c : Comparison) → u ≤ t → u < never → ((x : ℕ) → time_of c.timers x ≢ never → t < time_of c.timers x) → NoneIsDue u c
later_due t u c early low later x due =
    let some : time_of c.timers x ≢ never = λ e. absurd (omega arith) in
    let after = later x some in
    absurd (omega arith)

module _ (before : ℕ → ℕ → ℕ) (run : Outcome) (t : ℕ) (c : Comparison) (has : HasCursors run t [] c) (none : NoneIsDue (t + 1) c) (old : IsOldRun before run (t + 1)) (complete : IsComplete run t c) where
  -- where nothing new comes, no number that is read asleep departs
  pub none_departs : (after : ℕ → ℕ → ℕ) → AgreeFrom before after (t + 1) c → AgreeAsleep before after t c →
      ((x : ℕ) → is_tracked c x (t + 1) ≡ true → late after c.numbers x t ≡ late after c.numbers x (t + 1)) →
      (x : ℕ) → 0 < asleep_at c x → late before c.numbers x (t + 1) ≡ late after c.numbers x (t + 1)
  none_departs after from asleep stays x some = by (is_tracked c x (t + 1)) refl
    where
      low : x < length c.numbers.wires.items
      low = is_number run t [] c x has some

      may : Bool
      may = may_differ (source_at c (wire_of c.numbers x)) (delay_of c.numbers x) (t + 1)

      or_right : (a b : Bool) → b ≡ true → (a || b) ≡ true
      or_right true b e = refl
      or_right false b e = e

      by : (b : Bool) → is_tracked c x (t + 1) ≡ b → late before c.numbers x (t + 1) ≡ late after c.numbers x (t + 1)
      by true e =
          rests before run t (t + 1) c x refl old has (complete x low (or_right (is_following c x) (is_tracked c x (t + 1)) e)) (none x)
          ∙ asleep x some ∙ stays x e
      by false e = cannot_differ before after (t + 1) c x (has.shape.wires x low) from (sym (ap (λ b. b && may) (lt-ltb 0 (asleep_at c x) some)) ∙ e)

  -- and no wire is set that follows its old wave
  pub none_set : (w : ℕ) → t + 1 < never → is_set before (t + 1) c w ≡ false
  none_set w low =
      sym (up_is before run t (t + 1) c refl low has old complete w)
      ∙ ap (λ b. b && ((w == wire_of c.numbers w) && follows (source_at c (wire_of c.numbers w)) (t + 1))) (ne_eqb (time_of c.timers w) (t + 1) (none w))

-- one unit later, with a timer wheel of the same times
module _ (run : Outcome) (t : ℕ) (c : Comparison) (k : TimerWheel) (times : k.times.items ≡ c.timers.times.items) where
  same : (x : ℕ) → time_of k x ≡ time_of c.timers x
  same x = ap (λ (ts : List ℕ). time_in ts x) times

  pub cursors_on : HasCursors run t [] c → NoneIsDue (t + 1) c → IsTimerWheel (t + 1) [] k → HasCursors run (t + 1) [] (record c { timers = k })
  cursors_on has none timers = record {
    shape = record {
      delays = has.shape.delays;
      next = has.shape.next;
      have_data = has.shape.have_data;
      asleep = has.shape.asleep;
      times = ap (length {A = ℕ}) times ∙ has.shape.times;
      places = has.shape.places;
      seen = has.shape.seen;
      few = has.shape.few;
      wires = has.shape.wires;
      own = has.shape.own;
    };
    form = has.form;
    timers = timers;
    room = has.room;
    place = λ x some. has.place x (λ e. some (same x ∙ e));
    time = λ x some. same x ∙ has.time x (λ e. some (same x ∙ e));
    over = λ x j some less. let early = has.over x j (λ e. some (same x ∙ e)) less in omega arith;
    later = λ x some.
        let after = has.later x (λ e. some (same x ∙ e)) in
        let e = same x in
        elim (cases_lt (t + 1) (time_of c.timers x)) as (λ _. t + 1 < time_of k x + 0) [
          | inl less ↦ omega arith
          | inr more ↦ absurd (none x (omega arith))
        ];
  }

  pub complete_on : IsComplete run t c → IsComplete run (t + 1) (record c { timers = k })
  complete_on complete x within needed gone j less =
      let once = complete x within (needed_now c x (t + 1) needed) (sym (same x) ∙ gone) j less in
      omega arith
