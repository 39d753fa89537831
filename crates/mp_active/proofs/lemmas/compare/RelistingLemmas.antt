-- All that is needed stays listed, where readers and sources change.
use Rattle.std.proofs.Common.{◌≡◌, ℕ, ◌+◌, ◌<◌, Bool, true, ◌&&◌, ◌||◌, List, length, sym, ap, ◌∙◌, arith, subst, inl, inr, ◌⊎◌}
use Rattle.std.specs.Prelude.{◌==◌, nat_lt}
use Rattle.mp_partition.specs.runs.Outcomes.{Outcome}
use Rattle.mp_active.specs.declared.compare.numbers.Numbers.{Numbers}
use Rattle.mp_active.specs.declared.compare.wire_source.WireSource.{WireSource}
use Rattle.mp_active.specs.declared.compare.comparison.Comparison.{Comparison}
use Rattle.mp_active.specs.compare.Comparing.{wire_of, delay_of, source_at, asleep_at, may_differ, is_to_follow, is_following, is_tracked, HasCursors, IsListed, IsComplete}

-- the timer wheel stays right where other inputs are asleep
pub counted_cursors : (run : Outcome) (t : ℕ) (taken : List ℕ) (was is : Comparison) → is ≡ record was { asleep = is.asleep } → length is.asleep.items ≡ length was.asleep.items →
    HasCursors run t taken was → HasCursors run t taken is
counted_cursors run t taken was is kept long has = subst (HasCursors run t taken) (sym kept) (record {
  shape = record {
    delays = has.shape.delays;
    next = has.shape.next;
    have_data = has.shape.have_data;
    asleep = long ∙ has.shape.asleep;
    times = has.shape.times;
    places = has.shape.places;
    seen = has.shape.seen;
    few = has.shape.few;
    wires = has.shape.wires;
    own = has.shape.own;
  };
  form = has.form;
  timers = has.timers;
  room = has.room;
  place = has.place;
  time = has.time;
  over = has.over;
  later = has.later;
})

-- so many sources stay
pub sources_long : (run : Outcome) (t : ℕ) (taken : List ℕ) (was is : Comparison) → is.numbers ≡ was.numbers → HasCursors run t taken was → HasCursors run t taken is → length is.sources.items ≡ length was.sources.items
sources_long run t taken was is same before after = sym after.shape.have_data ∙ ap (λ (ns : Numbers). length ns.have_data.items) same ∙ before.shape.have_data

-- whether a number is needed rests on its source and its readers alone
pub needed_same : (was is : Comparison) (x u : ℕ) → is.numbers ≡ was.numbers → asleep_at is x ≡ asleep_at was x → source_at is (wire_of was.numbers x) ≡ source_at was (wire_of was.numbers x) →
    (is_following is x || is_tracked is x u) ≡ (is_following was x || is_tracked was x u)
needed_same was is x u numbers asleep source =
    ap (λ ns. needed ns (source_at is (wire_of ns x)) (asleep_at is x)) numbers ∙ ap (λ s. needed was.numbers s (asleep_at is x)) source
    ∙ ap (needed was.numbers (source_at was (wire_of was.numbers x))) asleep
  where
    needed : Numbers → WireSource → ℕ → Bool
    needed ns s a = ((x == wire_of ns x) && is_to_follow s) || (nat_lt 0 a && may_differ s (delay_of ns x) u)

pub listed_same : (run : Outcome) (t x : ℕ) (was is : Comparison) → is.numbers ≡ was.numbers → is.timers ≡ was.timers → IsListed run t was x → IsListed run t is x
listed_same run t x was is numbers timers before =
    subst (λ (ns : Numbers). IsListed run t (record is { numbers = ns }) x) (sym numbers)
    (subst (λ cal. IsListed run t (record is { numbers = was.numbers; timers = cal }) x) (sym timers) before)

-- a number was listed, or some were, where they weren't
pub record HasRelisted (run : Outcome) (t : ℕ) (was is : Comparison) : Type 0 where
  pub kept : is ≡ record was { timers = is.timers; places = is.places }
  pub others : (x : ℕ) → IsListed run t was x → IsListed run t is x

-- all that is needed is listed after a step in which few numbers came to be needed
pub step_complete : (run : Outcome) (t : ℕ) (was mid is : Comparison) → mid.numbers ≡ was.numbers → mid.timers ≡ was.timers → HasRelisted run t mid is →
    ((x : ℕ) → x < length was.numbers.wires.items → (is_following mid x || is_tracked mid x (t + 1)) ≡ true → ((is_following was x || is_tracked was x (t + 1)) ≡ true) ⊎ IsListed run t is x) →
    IsComplete run t was → IsComplete run t is
step_complete run t was mid is numbers timers listing new complete x low needed =
    by (new x within (ap (λ (c : Comparison). is_following c x || is_tracked c x (t + 1)) (sym listing.kept) ∙ needed))
  where
    within : x < length was.numbers.wires.items
    within =
        let a = ap (λ (c : Comparison). length c.numbers.wires.items) listing.kept in
        let b = ap (λ (ns : Numbers). length ns.wires.items) numbers in
        omega arith

    by : ((is_following was x || is_tracked was x (t + 1)) ≡ true) ⊎ IsListed run t is x → IsListed run t is x
    by (inl old) = listing.others x (listed_same run t x was mid numbers timers (complete x within old))
    by (inr here) = here
