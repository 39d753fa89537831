-- The comparison before anything is evaluated again.
use Rattle.std.proofs.Common.{◌≡◌, ℕ, ◌+◌, ◌<◌, ◌≤◌, Bool, true, false, ◌||◌, not, List, [], length, refl, sym, ap, ◌∙◌, arith, subst, inl, inr}
use Rattle.std.specs.Prelude.{◌==◌, Option, nat_lt, slice_index_or}
use Rattle.std.proofs.lemmas.Bool.{cases_eq, eqb-true, ltb-true, and_parts, or_cases}
use Rattle.mp_netlist.specs.Circuit.{Circuit, IsCircuit}
use Rattle.mp_netlist.proofs.LimitLemmas.{horizon_within}
use Rattle.mp_partition.specs.runs.Marks.{is_marked}
use Rattle.mp_partition.specs.runs.Outcomes.{Outcome}
use Rattle.mp_partition.specs.runs.Runs.{IsRun}
use Rattle.mp_kernel.specs.timers.TimerWheels.{never}
use Rattle.mp_active.specs.declared.compare.numbers.Numbers.{Numbers}
use Rattle.mp_active.specs.declared.compare.wire_source.WireSource.{WireSource}
use Rattle.mp_active.specs.declared.compare.comparison.Comparison.{Comparison}
use Rattle.mp_active.specs.compare.Comparing.{wire_of, delay_of, off, source_at, asleep_at, seen_at, is_following, is_tracked, is_to_follow, may_differ, HasCursors, AreUnseen, IsListed, IsComplete}
use Rattle.mp_active.specs.compare.Numbering.{AreNumbersOf}
use Rattle.mp_active.specs.compare.Reading.{asleep_below, active_below, HasRead}
use Rattle.mp_active.specs.compare.First.{IsFirst, AreFirst, IsNeverOrZero, IsUnread}
use Rattle.mp_active.proofs.lemmas.compare.OldRunLemmas.{runs_have_waves, runs_end}
use Rattle.mp_active.proofs.lemmas.compare.FirstLemmas.{first_read, never_or_zero}

-- a comparison in which nobody is known to read a number
pub record IsPrepared (old new : Circuit) (active : List Bool) (c : Comparison) : Type 0 where
  pub are : AreNumbersOf new c.numbers
  pub long : length c.sources.items ≡ length new.wires
  pub first : (w : ℕ) → w < length new.wires → IsFirst old new active w false (source_at c w)
  pub unread : IsUnread c

pub prepared : (old new : Circuit) (active : List Bool) (numbers : Numbers) (sources : List WireSource) (c : Comparison) → c.numbers ≡ numbers → c.sources.items ≡ sources → IsUnread c →
    AreNumbersOf new numbers → length sources ≡ length new.wires →
    ((w : ℕ) → w < length new.wires → IsFirst old new active w false (slice_index_or sources w off)) → IsPrepared old new active c
prepared old new active numbers sources c same alike unread are long first = record {
  are = subst (AreNumbersOf new) (sym same) are;
  long = ap (length {A = WireSource}) alike ∙ long;
  first = λ w low. subst (λ (ss : List WireSource). IsFirst old new active w false (slice_index_or ss w off)) (sym alike) (first w low);
  unread = unread;
}

pub within_sources : (old new : Circuit) (active : List Bool) (c : Comparison) → IsPrepared old new active c → (x : ℕ) → x < length c.numbers.wires.items → wire_of c.numbers x < length c.sources.items
within_sources old new active c ready x low = let within = ready.are.wires x low in let long = ready.long in omega arith

-- nothing is listed in an old run
pub unread_cursors : (old n : Circuit) → IsCircuit old → (run : Outcome) → IsRun old run → (c : Comparison) → AreNumbersOf n c.numbers → length c.sources.items ≡ length n.wires → IsUnread c → HasCursors run 0 [] c
unread_cursors old n ok run is c are long unread = record {
  shape = record {
    delays = are.delays;
    next = are.next;
    have_data = are.have_data ∙ sym long;
    asleep = unread.asleep;
    times = unread.times;
    places = unread.places;
    seen = unread.seen;
    few = let enough = are.enough in omega arith;
    wires = λ x low. let within = are.wires x low in omega arith;
    own = λ w low. are.own w (omega arith);
  };
  form = runs_have_waves old run is;
  timers = unread.timers 0;
  room = λ x k low within.
      let early = runs_end old ok run is (wire_of c.numbers x) k within in
      let most = horizon_within old ok in
      let delay = are.low x in
      omega arith;
  place = λ x listed. absurd (listed (unread.free x));
  time = λ x listed. absurd (listed (unread.free x));
  over = λ x k listed. absurd (listed (unread.free x));
  later = λ x listed. absurd (listed (unread.free x));
}

-- what is noted of readers leaves the timer wheel
pub read_cursors : (run : Outcome) (t : ℕ) (taken : List ℕ) (f : ℕ → ℕ) (p : ℕ → Bool) (was is : Comparison) → HasRead f p was is → HasCursors run t taken was → HasCursors run t taken is
read_cursors run t taken f p was is read has = subst (HasCursors run t taken) (sym read.kept) (record {
  shape = record {
    delays = has.shape.delays;
    next = has.shape.next;
    have_data = has.shape.have_data ∙ sym read.long;
    asleep = read.places ∙ has.shape.asleep;
    times = has.shape.times;
    places = has.shape.places;
    seen = has.shape.seen;
    few = let few = has.shape.few in let long = read.long in omega arith;
    wires = λ x low. let within = has.shape.wires x low in let long = read.long in omega arith;
    own = λ w low. has.shape.own w (let long = read.long in omega arith);
  };
  form = has.form;
  timers = has.timers;
  room = has.room;
  place = has.place;
  time = has.time;
  over = has.over;
  later = has.later;
})

-- the sources and readers at time 0, whatever was listed
pub are_first : (old new : Circuit) (active : List Bool) (inputs : List (List (Option ℕ))) (was read is : Comparison) → length was.sources.items ≡ length new.wires →
    ((w : ℕ) → w < length new.wires → IsFirst old new active w false (source_at was w)) → IsUnread was →
    HasRead (asleep_below new (is_marked active) inputs (length new.modules)) (active_below new (is_marked active) inputs was.numbers (length new.modules)) was read →
    is ≡ record read { timers = is.timers; places = is.places } → AreFirst old new active inputs is
are_first old new active inputs was read is long first unread reads kept = subst (AreFirst old new active inputs) (sym kept) (record {
  places = reads.long ∙ long;
  sources = λ w low.
      subst (λ (numbers : Numbers). IsFirst old new active w (active_below new (is_marked active) inputs numbers (length new.modules) w) (source_at read w)) (sym (ap (λ (c : Comparison). c.numbers) reads.kept))
      (first_read old new active w (active_below new (is_marked active) inputs was.numbers (length new.modules) w) (source_at was w) (source_at read w) (first w low) (reads.sources w (omega arith)));
  asleep = λ x. let at = reads.asleep x in let none = unread.none x in omega arith;
})

-- no change was seen
pub are_unseen : (was read is : Comparison) (f : ℕ → ℕ) (p : ℕ → Bool) → IsUnread was → HasRead f p was read → is ≡ record read { timers = is.timers; places = is.places } → AreUnseen 1 is
are_unseen was read is f p unread reads kept x =
    let same = ap (λ (c : Comparison). seen_at c x) kept in
    let before = ap (λ (c : Comparison). seen_at c x) reads.kept in
    let none = unread.unseen x in
    omega arith

-- each wire has its old levels always or never
pub are_never_or_zero : (old new : Circuit) (active : List Bool) (was read : Comparison) (f : ℕ → ℕ) (p : ℕ → Bool) → length was.sources.items ≡ length new.wires →
    ((w : ℕ) → w < length new.wires → IsFirst old new active w false (source_at was w)) → HasRead f p was read → (w : ℕ) → w < length read.sources.items → IsNeverOrZero (source_at read w)
are_never_or_zero old new active was read f p long first reads w low =
    let within : w < length was.sources.items = (let same = reads.long in omega arith) in
    never_or_zero old new active w (p w) (source_at read w) (first_read old new active w (p w) (source_at was w) (source_at read w) (first w (omega arith)) (reads.sources w within))

-- of any other wire its own number is listed where it is on
pub followed_listed : (run : Outcome) (wire : ℕ) (was is : Comparison) → (source_at was wire).until ≡ 0 → ((source_at was wire).is_on ≡ true → IsListed run 0 is wire) →
    (x : ℕ) → wire_of was.numbers x ≡ wire → (is_following was x || is_tracked was x 1) ≡ true → IsListed run 0 is x
followed_listed run wire was is zero_is listed x of needed = elim (or_cases (is_following was x) (is_tracked was x 1) needed) as (λ _. IsListed run 0 is x) [
  | inl follows ↦
      let both = and_parts (x == wire_of was.numbers x) (is_to_follow (source_at was (wire_of was.numbers x))) follows in
      let on = (and_parts (source_at was (wire_of was.numbers x)).is_on (not ((source_at was (wire_of was.numbers x)).until == never)) both.1).0 in
      subst (IsListed run 0 is) (sym (eqb-true x (wire_of was.numbers x) both.0 ∙ of)) (listed (ap (λ w. (source_at was w).is_on) (sym of) ∙ on))
  | inr tracks ↦
      let may = (and_parts (nat_lt 0 (asleep_at was x)) (may_differ (source_at was (wire_of was.numbers x)) (delay_of was.numbers x) 1) tracks).1 in
      let some = ltb-true 0 (source_at was (wire_of was.numbers x)).until
      (and_parts (nat_lt 1 ((source_at was (wire_of was.numbers x)).until + delay_of was.numbers x)) (nat_lt 0 (source_at was (wire_of was.numbers x)).until) may).1 in
      let none = ap (λ w. (source_at was w).until) of in
      absurd (omega arith)
]

-- the wires so far are listed where it is needed
pub record AreListedTo (run : Outcome) (wires : ℕ) (was is : Comparison) : Type 0 where
  pub kept : is ≡ record was { timers = is.timers; places = is.places }
  pub cursors : HasCursors run 0 [] is
  pub listed : ((w : ℕ) → w < length was.sources.items → IsNeverOrZero (source_at was w)) → (x : ℕ) → x < length was.numbers.wires.items → wire_of was.numbers x < wires →
      (is_following was x || is_tracked was x 1) ≡ true → IsListed run 0 is x

pub nothing_listed : (run : Outcome) (c : Comparison) → HasCursors run 0 [] c → AreListedTo run 0 c c
nothing_listed run c has = record { kept = refl; cursors = has; listed = λ sources x low less. absurd (omega arith) }

pub listed_more : (run : Outcome) (wire : ℕ) (was mid is : Comparison) → wire < length was.sources.items → AreListedTo run wire was mid → is ≡ record mid { timers = is.timers; places = is.places } →
    HasCursors run 0 [] is → (IsNeverOrZero (source_at mid wire) → (x : ℕ) → x < length mid.numbers.wires.items → wire_of mid.numbers x ≡ wire → (is_following mid x || is_tracked mid x 1) ≡ true → IsListed run 0 is x) →
    ((x : ℕ) → IsListed run 0 mid x → IsListed run 0 is x) → AreListedTo run (wire + 1) was is
listed_more run wire was mid is within before kept has here others = record {
  kept = kept ∙ ap (λ (c : Comparison). record c { timers = is.timers; places = is.places }) before.kept;
  cursors = has;
  listed = λ sources x low less needed. elim (cases_eq (wire_of was.numbers x) wire) as (λ _. IsListed run 0 is x) [
    | inl own ↦
        subst (λ (c : Comparison). IsNeverOrZero (source_at c wire) → (y : ℕ) → y < length c.numbers.wires.items → wire_of c.numbers y ≡ wire → (is_following c y || is_tracked c y 1) ≡ true → IsListed run 0 is y)
        before.kept here (sources wire within) x low own needed
    | inr other ↦ others x (before.listed sources x low (omega arith) needed)
  ];
}

pub listed_all : (run : Outcome) (wires : ℕ) (was is : Comparison) → length was.sources.items ≤ wires → HasCursors run 0 [] was → AreListedTo run wires was is →
    ((w : ℕ) → w < length was.sources.items → IsNeverOrZero (source_at was w)) → IsComplete run 0 is
listed_all run wires was is end has listed sources x low needed =
    listed.listed sources x (let same = ap (λ (c : Comparison). length c.numbers.wires.items) listed.kept in omega arith)
    (let within = has.shape.wires x (let same = ap (λ (c : Comparison). length c.numbers.wires.items) listed.kept in omega arith) in omega arith)
    (ap (λ (c : Comparison). is_following c x || is_tracked c x 1) (sym listed.kept) ∙ needed)
