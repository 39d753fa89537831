-- All changes are met, and what is known of the old run stays.
use Rattle.std.proofs.Common.{◌≡◌, ℕ, ◌<◌, not, cond, List, [], ◌++◌, All, length, get_or, refl, sym, ap, ◌∙◌, arith, subst, inl, inr}
use Rattle.std.specs.Prelude.{◌==◌}
use Rattle.std.proofs.lemmas.Bool.{cases_lt, eq-eqb}
use Rattle.std.proofs.lemmas.List.{append-nil, get_or_past}
use Rattle.std.proofs.lemmas.List.Elements.{All-from_get_or}
use Rattle.std.proofs.lemmas.List.Sums.{get_or-le-sum_by}
use Rattle.mp_modules.specs.automata.Codes.{bit}
use Rattle.mp_kernel.specs.events.Adding.{listed}
use Rattle.mp_kernel.specs.timers.TimerWheels.{never, time_of, coming}
use Rattle.mp_kernel.specs.declared.datapath.level_change.LevelChange.{LevelChange}
use Rattle.mp_partition.specs.runs.Outcomes.{Outcome}
use Rattle.mp_active.specs.declared.compare.numbers.Numbers.{Numbers}
use Rattle.mp_active.specs.declared.compare.new_changes.NewChanges.{NewChanges}
use Rattle.mp_active.specs.declared.compare.comparison.Comparison.{Comparison}
use Rattle.mp_active.specs.compare.Comparing.{ArePlaced, HasCursors, AreNumbers, AreWithin}
use Rattle.mp_active.specs.compare.Meeting.{HasMet}
use Rattle.mp_active.proofs.lemmas.compare.MeetingLemmas.{met_join, numbers_kept}

-- three lists of toggles, or two of changes, are met
pub toggles_met : (run : Outcome) (time : ℕ) (ps qs rs : List ℕ) (one two three four : Comparison) → HasMet run time ps [] one two → HasMet run time qs [] two three →
    HasMet run time rs [] three four → HasMet run time (ps ++ qs ++ rs) [] one four
toggles_met run time ps qs rs one two three four a b c =
    met_join run time (ps ++ qs) rs [] [] one three four (met_join run time ps qs [] [] one two three a b) c

pub levels_met : (run : Outcome) (time : ℕ) (ps qs : List LevelChange) (one two three : Comparison) → HasMet run time [] ps one two → HasMet run time [] qs two three →
    HasMet run time [] (ps ++ qs) one three
levels_met run time ps qs one two three a b = met_join run time [] [] ps qs one two three a b

-- toggles and changes are met
pub both_met : (run : Outcome) (time : ℕ) (bits : List ℕ) (levels : List LevelChange) (one two three : Comparison) → HasMet run time bits [] one two → HasMet run time [] levels two three →
    HasMet run time bits levels one three
both_met run time bits levels one two three a b =
    subst (λ (xs : List ℕ). HasMet run time xs levels one three) (append-nil bits) (met_join run time bits [] [] levels one two three a b)

pub bits_kept : (run : Outcome) (time : ℕ) (bits : List ℕ) (levels : List LevelChange) (was is : Comparison) (xs : List ℕ) → HasMet run time bits levels was is →
    All (λ x. x < length was.numbers.wires.items) xs → All (λ x. x < length is.numbers.wires.items) xs
bits_kept run time bits levels was is xs met all = subst (λ (numbers : Numbers). All (λ x. x < length numbers.wires.items) xs) (sym (numbers_kept run time bits levels was is met)) all

pub levels_kept : (run : Outcome) (time : ℕ) (bits : List ℕ) (levels : List LevelChange) (was is : Comparison) (xs : List LevelChange) → HasMet run time bits levels was is →
    All (λ (change : LevelChange). change.number < length was.numbers.wires.items) xs → All (λ (change : LevelChange). change.number < length is.numbers.wires.items) xs
levels_kept run time bits levels was is xs met all =
    subst (λ (numbers : Numbers). All (λ (change : LevelChange). change.number < length numbers.wires.items) xs) (sym (numbers_kept run time bits levels was is met)) all

-- what is seen and gathered is no part of what is known of the old run
pub cursors_kept : (run : Outcome) (t : ℕ) (taken : List ℕ) (was is : Comparison) → is ≡ record was { seen = is.seen; departing = is.departing } → length is.seen.items ≡ length was.seen.items →
    HasCursors run t taken was → HasCursors run t taken is
cursors_kept run t taken was is kept long has = subst (HasCursors run t taken) (sym kept) (record {
  shape = record {
    delays = has.shape.delays;
    next = has.shape.next;
    have_data = has.shape.have_data;
    asleep = has.shape.asleep;
    times = has.shape.times;
    places = has.shape.places;
    seen = long ∙ has.shape.seen;
    few = has.shape.few;
    wires = has.shape.wires;
    own = has.shape.own;
  };
  form = has.form;
  timers = has.timers;
  room = has.room;
  place = has.place;
  time = has.time;
  over = has.over;
  later = has.later;
})

pub is_placed : (run : Outcome) (t u : ℕ) (taken : List ℕ) (c : Comparison) → u < never → HasCursors run t taken c → ArePlaced run u c
is_placed run t u taken c low has x due = has.place x (λ e. absurd (omega arith))

pub within_kept : (run : Outcome) (time : ℕ) (bits : List ℕ) (levels : List LevelChange) (was is : Comparison) (new : NewChanges) → HasMet run time bits levels was is →
    AreWithin was.numbers new → AreWithin is.numbers new
within_kept run time bits levels was is new met within = subst (λ (numbers : Numbers). AreWithin numbers new) (sym (numbers_kept run time bits levels was is met)) within

-- what comes up is a number
pub coming_numbers : (run : Outcome) (t : ℕ) (c : Comparison) → HasCursors run t [] c → AreNumbers c.numbers (coming c.timers)
coming_numbers run t c has = All-from_get_or (λ x. x < length c.numbers.wires.items) (coming c.timers) 0 each
  where
    each : (i : ℕ) → i < length (coming c.timers) → get_or (coming c.timers) i 0 < length c.numbers.wires.items
    each i low = elim (cases_lt x (length c.numbers.wires.items)) as (λ _. x < length c.numbers.wires.items) [
      | inl within ↦ within
      | inr past ↦
          let none = get_or_past c.timers.times.items x never (let long = has.shape.times in omega arith) in
          let off = ap (λ b. bit (not b)) (eq-eqb (time_of c.timers x) never none) in
          let once = has.timers.once x in
          let in_wheel = get_or-le-sum_by (listed x) c.timers.wheel 0 [] has.timers.some in
          let here = get_or-le-sum_by (λ d. cond (d == x) 1 0) (coming c.timers) i 0 low in
          let own = ap bit (eq-eqb x x refl) in
          absurd (omega arith)
    ]
      where
        x : ℕ
        x = get_or (coming c.timers) i 0

pub coming_kept : (run : Outcome) (time : ℕ) (bits : List ℕ) (levels : List LevelChange) (was is : Comparison) → HasMet run time bits levels was is →
    AreNumbers was.numbers (coming was.timers) → AreNumbers is.numbers (coming is.timers)
coming_kept run time bits levels was is met all = subst (λ (c : Comparison). AreNumbers c.numbers (coming c.timers)) (sym met.kept) all

pub kept_through : (was then is : Comparison) → then ≡ record was { seen = then.seen; departing = then.departing } → is ≡ record then { departing = is.departing } →
    is ≡ record was { seen = is.seen; departing = is.departing }
kept_through was then is first second =
    second ∙ ap (λ (c : Comparison). record c { departing = is.departing }) first
    ∙ ap (λ (c : Comparison). record was { seen = c.seen; departing = is.departing }) (sym second)
