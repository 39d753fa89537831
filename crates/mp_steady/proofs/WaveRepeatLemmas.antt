-- Since when a wave repeats, looked for from its last changes back.
use Rattle.std.proofs.Common.{◌≡◌, ℕ, ◌+◌, ◌-◌, ◌<◌, ◌≤◌, ◌==◌, ◌⊎◌, inl, inr, Bool, true, false, cond, List, [], ◌∷◌, length, max, get_or, slice_get, take, Option, Some, None, zero, suc, refl, ap, sym, subst, ◌∙◌, arith}
use Rattle.std.specs.Prelude.{◌≢◌}
use Rattle.std.proofs.lemmas.Bool.{cases_lt, eq-eqb, ne_eqb, lt-ltb, le-ltb}
use Rattle.std.proofs.lemmas.Option.{none-some, slice_get-get_or}
use Rattle.mp_wave.specs.Waveform.{AreChanges, IsWaveform, Waveform, between, earlier_than, last_from, last_time, level_from, level_of}
use Rattle.mp_wave.proofs.PrefixLemmas.{AreChanges-earlier_than, all_later, last_time-earlier_than, level_from-earlier_than, last_from-earlier_than, level_from-over}
use Rattle.mp_steady.specs.Periods.{repeats_from}

-- ---- since when a level repeats

pub repeats_end : (f : ℕ → ℕ) (units t : ℕ) → f t ≢ f (t + units) → repeats_from f units t ≡ t + 1
repeats_end f units zero apart = ap (λ b. cond b 0 1) (ne_eqb (f 0) (f (0 + units)) apart)
repeats_end f units (suc t) apart =
    let e : suc (suc t) ≡ suc t + 1 = omega arith in
    ap (λ b. cond b (repeats_from f units t) (suc (suc t))) (ne_eqb (f (suc t)) (f (suc t + units)) apart) ∙ e

repeats_bound : (f : ℕ → ℕ) (units t : ℕ) → repeats_from f units t ≤ t + 1
repeats_bound f units zero = by (f 0 == f (0 + units))
  where
    by : (b : Bool) → cond b 0 1 ≤ 1
    by true = omega arith
    by false = omega arith
repeats_bound f units (suc t) = by (f (suc t) == f (suc t + units)) (repeats_bound f units t)
  where
    by : (b : Bool) → repeats_from f units t ≤ t + 1 → cond b (repeats_from f units t) (suc (suc t)) ≤ suc t + 1
    by true low = omega (arith, low)
    by false low = omega arith

-- over times at which it is the level so many units later
repeats_skip : (f : ℕ → ℕ) (units b k : ℕ) → ((s : ℕ) → b < s → s ≤ b + k → f s ≡ f (s + units)) → repeats_from f units (b + k) ≡ repeats_from f units b
repeats_skip f units b zero same = let e : b + 0 ≡ b = omega arith in ap (repeats_from f units) e
repeats_skip f units b (suc k) same =
    let e : b + suc k ≡ suc (b + k) = omega arith in
    ap (repeats_from f units) e ∙ ap (λ t. cond t (repeats_from f units (b + k)) (suc (suc (b + k)))) (eq-eqb (f (suc (b + k))) (f (suc (b + k) + units)) (same (suc (b + k)) (omega arith) (omega arith)))
    ∙ repeats_skip f units b k (λ s low high. same s low (omega (arith, high)))

repeats_all : (f : ℕ → ℕ) (units t : ℕ) → ((s : ℕ) → s ≤ t → f s ≡ f (s + units)) → repeats_from f units t ≡ 0
repeats_all f units zero same = ap (λ b. cond b 0 1) (eq-eqb (f 0) (f (0 + units)) (same 0 (omega arith)))
repeats_all f units (suc t) same =
    ap (λ b. cond b (repeats_from f units t) (suc (suc t))) (eq-eqb (f (suc t)) (f (suc t + units)) (same (suc t) (omega arith))) ∙ repeats_all f units t (λ s low. same s (omega (arith, low)))

pub repeats_before : (f : ℕ → ℕ) (units from last : ℕ) → 0 < from → from ≤ last → ((s : ℕ) → from ≤ s → s ≤ last → f s ≡ f (s + units)) → repeats_from f units last ≡ repeats_from f units (from - 1)
repeats_before f units from last some low same =
    let k : ℕ = last - (from - 1) in
    let e : from - 1 + k ≡ last = omega (arith, some, low) in
    ap (repeats_from f units) (sym e) ∙ repeats_skip f units (from - 1) k (λ s above upto. same s (omega (arith, above, some)) (omega (arith, upto, e)))

pub repeats_low : (f : ℕ → ℕ) (units from last : ℕ) → from ≤ last → ((s : ℕ) → from ≤ s → s ≤ last → f s ≡ f (s + units)) → repeats_from f units last ≤ from
repeats_low f units zero last low same = omega (arith, repeats_all f units last (λ s upto. same s (omega arith) upto))
repeats_low f units (suc from) last low same =
    let e : suc from - 1 ≡ from = omega arith in
    omega (arith, repeats_before f units (suc from) last (omega arith) low same, ap (repeats_from f units) e, repeats_bound f units from)

-- ---- a wave

-- from its last change up to a time on the level is what it is then
pub same_since : (wave : Waveform) (last s : ℕ) → IsWaveform wave → last_time 0 (earlier_than (last + 1) wave.changes) ≤ s → s ≤ last → level_of wave s ≡ level_of wave last
same_since wave last s form past low =
    let sooner = earlier_than (last + 1) wave.changes in
    let are = AreChanges-earlier_than (last + 1) 0 wave.initial wave.changes form in
    sym (level_from-earlier_than (last + 1) 0 wave.initial s wave.changes (omega (arith, low)) form) ∙ level_from-over 0 wave.initial s sooner are past
    ∙ sym (level_from-over 0 wave.initial last sooner are (omega (arith, past, low))) ∙ level_from-earlier_than (last + 1) 0 wave.initial last wave.changes (omega arith) form

-- the last of its levels up to a time
pub last_level : (wave : Waveform) (last : ℕ) → IsWaveform wave → last_from wave.initial (earlier_than (last + 1) wave.changes) ≡ level_of wave last
last_level wave last form =
    let e : last + 1 - 1 ≡ last = omega arith in
    last_from-earlier_than (last + 1) 0 wave.initial wave.changes (omega arith) form ∙ ap (level_from wave.initial wave.changes) e

-- ---- the changes before a time

pub earlier_twice : (b c : ℕ) (xs : List (ℕ × ℕ)) → b ≤ c → earlier_than b (earlier_than c xs) ≡ earlier_than b xs
earlier_twice b c [] le = refl
earlier_twice b c (x ∷ xs) le = by (cases_lt x.0 c) (cases_lt x.0 b) (earlier_twice b c xs le)
  where
    by : (x.0 < c) ⊎ (c ≤ x.0) → (x.0 < b) ⊎ (b ≤ x.0) → earlier_than b (earlier_than c xs) ≡ earlier_than b xs → earlier_than b (earlier_than c (x ∷ xs)) ≡ earlier_than b (x ∷ xs)
    by (inl sooner) (inl first) rest = rw (lt-ltb x.0 c sooner, lt-ltb x.0 b first) (ap (λ ys. x ∷ ys) rest)
    by (inl sooner) (inr later) rest = rw (lt-ltb x.0 c sooner, le-ltb x.0 b later) rest
    by (inr late) (inl first) rest = absurd (omega (arith, late, first, le))
    by (inr late) (inr later) rest = rw (le-ltb x.0 c late, le-ltb x.0 b later) rest

time_rises : (before level : ℕ) (xs : List (ℕ × ℕ)) → AreChanges before level xs → before ≤ last_time before xs
time_rises before level [] are = omega arith
time_rises before level (x ∷ xs) are = omega (arith, are.0, time_rises x.0 x.1 xs are.2)

pub all_earlier : (b before level : ℕ) (xs : List (ℕ × ℕ)) → AreChanges before level xs → last_time before xs < b → earlier_than b xs ≡ xs
all_earlier b before level [] are low = refl
all_earlier b before level (x ∷ xs) are low =
    let first : x.0 < b = omega (arith, time_rises x.0 x.1 xs are.2, low) in
    rw (lt-ltb x.0 b first) (ap (λ ys. x ∷ ys) (all_earlier b x.0 x.1 xs are.2 low))

pub last_dropped : (b before level : ℕ) (xs : List (ℕ × ℕ)) → AreChanges before level xs → last_time before xs ≡ b → take (length xs - 1) xs ≡ earlier_than b xs
last_dropped b before level [] are is = refl
last_dropped b before level (x ∷ []) are is = rw (le-ltb x.0 b (omega (arith, is))) refl
last_dropped b before level (x ∷ y ∷ ys) are is =
    let shorter : length (x ∷ y ∷ ys) - 1 ≡ suc (length (y ∷ ys) - 1) = omega arith in
    let first : x.0 < b = omega (arith, time_rises y.0 y.1 ys are.2.2, is, are.2.0) in
    ap (λ k. take k (x ∷ y ∷ ys)) shorter ∙ ap (λ zs. x ∷ zs) (last_dropped b x.0 x.1 (y ∷ ys) are.2 is)
    ∙ sym (ap (λ c. cond c (x ∷ earlier_than b (y ∷ ys)) (earlier_than b (y ∷ ys))) (lt-ltb x.0 b first))

-- ---- the last change of a list

same_pair : (x y : ℕ × ℕ) → (let o : Option (ℕ × ℕ) = Some x in o) ≡ Some y → x ≡ y
same_pair x y same = cc

pub last_from_some : (level : ℕ) (xs : List (ℕ × ℕ)) (x : ℕ × ℕ) → Some x ≡ slice_get xs (length xs - 1) → x.1 ≡ last_from level xs
last_from_some level [] x is = let no : ⊥ = cc in absurd no
last_from_some level (y ∷ []) x is = ap (λ (c : ℕ × ℕ). c.1) (same_pair x y is)
last_from_some level (y ∷ z ∷ zs) x is =
    let shorter : length (y ∷ z ∷ zs) - 1 ≡ suc (length (z ∷ zs) - 1) = omega arith in
    last_from_some y.1 (z ∷ zs) x (is ∙ ap (slice_get (y ∷ z ∷ zs)) shorter)

pub last_time_some : (before : ℕ) (xs : List (ℕ × ℕ)) (x : ℕ × ℕ) → Some x ≡ slice_get xs (length xs - 1) → x.0 ≡ last_time before xs
last_time_some before [] x is = let no : ⊥ = cc in absurd no
last_time_some before (y ∷ []) x is = ap (λ (c : ℕ × ℕ). c.0) (same_pair x y is)
last_time_some before (y ∷ z ∷ zs) x is =
    let shorter : length (y ∷ z ∷ zs) - 1 ≡ suc (length (z ∷ zs) - 1) = omega arith in
    last_time_some y.0 (z ∷ zs) x (is ∙ ap (slice_get (y ∷ z ∷ zs)) shorter)

pub no_last : (xs : List (ℕ × ℕ)) → (let o : Option (ℕ × ℕ) = None in o) ≡ slice_get xs (length xs - 1) → xs ≡ []
no_last [] is = refl
no_last (x ∷ xs) is =
    absurd (none-some (get_or (x ∷ xs) (length (x ∷ xs) - 1) x) (is ∙ slice_get-get_or (x ∷ xs) (length (x ∷ xs) - 1) x (omega arith)))

-- ---- looking back

-- all changes are later than time 0
pub from_start : (to : ℕ) (wave : Waveform) → IsWaveform wave → between 0 to wave.changes ≡ earlier_than to wave.changes
from_start to wave form = ap (earlier_than to) (all_later 0 0 wave.initial wave.changes (omega arith) form)

-- of changes that are those before a time, those before an earlier time
pub looked_back : (b c d : ℕ) (wave : Waveform) (xs ys : List (ℕ × ℕ)) → IsWaveform wave → xs ≡ earlier_than c wave.changes → b ≤ c → b ≡ d → ((level : ℕ) → AreChanges 0 level xs → ys ≡ earlier_than b xs)
    → ys ≡ earlier_than d wave.changes
looked_back b c d wave xs ys form is le same earlier =
    earlier wave.initial (subst (AreChanges 0 wave.initial) (sym is) (AreChanges-earlier_than c 0 wave.initial wave.changes form)) ∙ ap (earlier_than b) is ∙ earlier_twice b c wave.changes le
    ∙ ap (λ t. earlier_than t wave.changes) same

-- up to a time, the wave has from another time on the level of so many units later
pub record IsSameFrom (wave : Waveform) (units last from : ℕ) : Type 0 where
  pub low : from ≤ last
  pub same : (s : ℕ) → from ≤ s → s ≤ last → level_of wave s ≡ level_of wave (s + units)

time_low : (wave : Waveform) (last : ℕ) → IsWaveform wave → last_time 0 (earlier_than (last + 1) wave.changes) ≤ last
time_low wave last form = omega (arith, last_time-earlier_than (last + 1) 0 wave.initial wave.changes (omega arith) form)

-- from the last change up to it, and the last one up to so many units later
pub same_from : (wave : Waveform) (units last from : ℕ) (late early : List (ℕ × ℕ)) → IsWaveform wave → late ≡ earlier_than (last + units + 1) wave.changes → early ≡ earlier_than (last + 1) wave.changes
    → last_from wave.initial late ≡ last_from wave.initial early → from ≡ max (last_time 0 late - units) (last_time 0 early) → IsSameFrom wave units last from
same_from wave units last from late early form is_late is_early level is =
    let late_low = time_low wave (last + units) form in
    let early_low = time_low wave last form in
    let late_is : last_time 0 late ≡ last_time 0 (earlier_than (last + units + 1) wave.changes) = ap (last_time 0) is_late in
    let early_is : last_time 0 early ≡ last_time 0 (earlier_than (last + 1) wave.changes) = ap (last_time 0) is_early in
    let here : level_of wave last ≡ level_of wave (last + units) =
    sym (last_level wave last form) ∙ sym (ap (last_from wave.initial) is_early) ∙ sym level ∙ ap (last_from wave.initial) is_late ∙ last_level wave (last + units) form in
    record {
      low = omega (arith, is, late_is, early_is, late_low, early_low);
      same = λ s past upto.
          same_since wave last s form (omega (arith, is, early_is, past)) upto ∙ here ∙ sym (same_since wave (last + units) (s + units) form (omega (arith, is, late_is, past)) (omega (arith, upto)));
    }

-- it has another level so many units later
pub apart_at : (wave : Waveform) (units last : ℕ) (late early : List (ℕ × ℕ)) → IsWaveform wave → late ≡ earlier_than (last + units + 1) wave.changes → early ≡ earlier_than (last + 1) wave.changes
    → (last_from wave.initial late ≡ last_from wave.initial early → ⊥) → repeats_from (level_of wave) units last ≡ last + 1
apart_at wave units last late early form is_late is_early apart =
    repeats_end (level_of wave) units last (λ same.
    apart (ap (last_from wave.initial) is_late ∙ last_level wave (last + units) form ∙ sym same ∙ sym (last_level wave last form) ∙ sym (ap (last_from wave.initial) is_early)))
