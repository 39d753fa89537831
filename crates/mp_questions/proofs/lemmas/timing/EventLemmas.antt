-- The events of a level are the changes of its wave.
use Rattle.std.proofs.Common.{◌≡◌, ◌≢◌, ℕ, ◌+◌, ◌-◌, ◌<◌, ◌≤◌, Bool, true, false, not, ◌==◌, List, [], ◌∷◌, Option, Some, None, filter, zero, suc, refl, sym, ap, subst, ◌∙◌, inl, inr, add-one, arith}
use Rattle.std.proofs.lemmas.Bool.Decides.{nat_tests}
use Rattle.std.proofs.lemmas.Bool.{cases_lt}
use Rattle.std.specs.List.{All, range_with_len}
use Rattle.mp_wave.specs.Waveform.{Waveform, IsWaveform, AreChanges, level_from, level_of, last_time, later_than, between, changes_after}
use Rattle.mp_wave.proofs.WaveformLemmas.{nat_le-true, nat_le-false, level_from-before, level_from-rest, le-last_time}
use Rattle.mp_wave.proofs.PrefixLemmas.{AreChanges-between, AreChanges-later_than, last_time-between, none_earlier, cut_levels}
use Rattle.mp_wave.proofs.ChangesLemmas.{last_time-changes_after, AreChanges-changes_after, level_from-changes_after}
use Rattle.mp_modules.specs.Histories.{has_event}
use Rattle.mp_questions.specs.timing.Events.{event_times, last_event, first_event, times_of}
use Rattle.mp_questions.specs.timing.Trails.{last_upto, next_after}

pub same_true : (a b : ℕ) → a ≡ b → (a == b) ≡ true
same_true a b same = grind (arith, nat_tests)

pub same_false : (a b : ℕ) → a ≢ b → (a == b) ≡ false
same_false a b other = grind (arith, nat_tests)

-- a level that stays has no event, one that differs has
pub no_event : (f : ℕ → ℕ) (s : ℕ) → f s ≡ f (s + 1) → has_event f (s + 1) ≡ false
no_event f s same = rw (add-one s) (ap not (same_true (f s) (f (suc s)) (same ∙ ap f (add-one s))))

pub an_event : (f : ℕ → ℕ) (s : ℕ) → f s ≢ f (s + 1) → has_event f (s + 1) ≡ true
an_event f s other = rw (add-one s) (ap not (same_false (f s) (f (suc s)) (λ same. other (same ∙ ap f (sym (add-one s))))))

-- ---- the changes of a level from one time on to before another

pub record AreOf (f : ℕ → ℕ) (s v e : ℕ) (changes : List (ℕ × ℕ)) : Type 0 where
  pub form : AreChanges s v changes
  pub within : last_time s changes < e
  pub levels : (t : ℕ) → s ≤ t → t < e → level_from v changes t ≡ f t

-- nothing changes at the next time
pub record IsQuiet (f : ℕ → ℕ) (s v e : ℕ) (changes : List (ℕ × ℕ)) : Type 0 where
  pub none : has_event f (s + 1) ≡ false
  pub rest : AreOf f (s + 1) v e changes

pub record IsEvent (f : ℕ → ℕ) (s v e : ℕ) (changes : List (ℕ × ℕ)) : Type 0 where
  pub some : has_event f (s + 1) ≡ true
  pub rest : AreOf f (s + 1) v e changes

pub empty_next : (f : ℕ → ℕ) (s v e : ℕ) → s + 1 < e → AreOf f s v e [] → IsQuiet f s v e []
empty_next f s v e below are = record {
  none = no_event f s (sym (are.levels s (omega arith) (omega (arith, below))) ∙ are.levels (s + 1) (omega arith) below);
  rest = record { form = tt; within = below; levels = λ t low high. are.levels t (omega (arith, low)) high };
}

here : (f : ℕ → ℕ) (s v e : ℕ) (changes : List (ℕ × ℕ)) → s < e → AreOf f s v e changes → f s ≡ v
here f s v e changes below are = sym (are.levels s (omega arith) below) ∙ level_from-before s v s changes are.form (omega arith)

pub later_next : (f : ℕ → ℕ) (s v e : ℕ) (x : ℕ × ℕ) (rest : List (ℕ × ℕ)) → s + 1 < e → s + 1 < x.0 → AreOf f s v e (x ∷ rest) → IsQuiet f s v e (x ∷ rest)
later_next f s v e x rest below sooner are =
    let form = are.form in
    let now = here f s v e (x ∷ rest) (omega (arith, below)) are in
    let next : f (s + 1) ≡ v = sym (are.levels (s + 1) (omega arith) below) ∙ level_from-before (s + 1) v (s + 1) (x ∷ rest) (sooner, form.1, form.2) (omega arith) in
    record {
      none = no_event f s (now ∙ sym next);
      rest = record { form = (sooner, form.1, form.2); within = are.within; levels = λ t low high. are.levels t (omega (arith, low)) high };
    }

pub event_next : (f : ℕ → ℕ) (s v e : ℕ) (x : ℕ × ℕ) (rest : List (ℕ × ℕ)) → s + 1 < e → x.0 ≡ s + 1 → AreOf f s v e (x ∷ rest) → IsEvent f s x.1 e rest
event_next f s v e x rest below at are =
    let form = are.form in
    let now = here f s v e (x ∷ rest) (omega (arith, below)) are in
    let next : f (s + 1) ≡ x.1 =
    sym (are.levels (s + 1) (omega arith) below) ∙ level_from-rest v (s + 1) x rest (omega (arith, at)) ∙ level_from-before x.0 x.1 (s + 1) rest form.2 (omega (arith, at)) in
    record {
      some = an_event f s (λ same. form.1 (sym now ∙ same ∙ next));
      rest = record {
        form = subst (λ (k : ℕ). AreChanges k x.1 rest) at form.2;
        within = subst (λ (k : ℕ). last_time k rest < e) at are.within;
        levels = λ t low high. sym (level_from-rest v t x rest (omega (arith, at, low))) ∙ are.levels t (omega (arith, low)) high;
      };
    }

-- a first change comes at the next time or later
pub next_change : (f : ℕ → ℕ) (s v e : ℕ) (x : ℕ × ℕ) (rest : List (ℕ × ℕ)) → AreOf f s v e (x ∷ rest) → (s < x.0) × (x.0 < e)
next_change f s v e x rest are = let form = are.form in (form.0, omega (arith, are.within, le-last_time x.0 x.1 rest form.2))

-- ---- the times of events

kept : (p : ℕ → Bool) (x : ℕ) (xs : List ℕ) → p x ≡ true → filter p (x ∷ xs) ≡ x ∷ filter p xs
kept p x xs is = rw is refl

left_out : (p : ℕ → Bool) (x : ℕ) (xs : List ℕ) → p x ≡ false → filter p (x ∷ xs) ≡ filter p xs
left_out p x xs is = rw is refl

pub times_are : (f : ℕ → ℕ) (n s v e : ℕ) (changes : List (ℕ × ℕ)) → s + 1 + n ≡ e → AreOf f s v e changes → times_of changes ≡ filter (has_event f) (range_with_len (s + 1) n)
times_are f zero s v e [] is are = refl
times_are f zero s v e (x ∷ rest) is are = let next = next_change f s v e x rest are in absurd (omega (arith, is, next.0, next.1))
times_are f (suc n) s v e [] is are =
    let quiet = empty_next f s v e (omega (arith, is)) are in
    times_are f n (s + 1) v e [] (omega (arith, is)) quiet.rest ∙ sym (left_out (has_event f) (s + 1) (range_with_len (s + 1 + 1) n) quiet.none)
times_are f (suc n) s v e (x ∷ rest) is are =
    let next = next_change f s v e x rest are in
    elim (cases_lt (s + 1) x.0) as (λ _. times_of (x ∷ rest) ≡ filter (has_event f) (range_with_len (s + 1) (suc n))) [
      | inl sooner ↦
          let quiet = later_next f s v e x rest (omega (arith, is)) sooner are in
          times_are f n (s + 1) v e (x ∷ rest) (omega (arith, is)) quiet.rest ∙ sym (left_out (has_event f) (s + 1) (range_with_len (s + 1 + 1) n) quiet.none)
      | inr over ↦
          let at : x.0 ≡ s + 1 = omega (arith, over, next.0) in
          let event = event_next f s v e x rest (omega (arith, is)) at are in
          let later = times_are f n (s + 1) x.1 e rest (omega (arith, is)) event.rest in
          ap (λ (t : ℕ). t ∷ times_of rest) at ∙ ap (λ (ts : List ℕ). (s + 1) ∷ ts) later ∙ sym (kept (has_event f) (s + 1) (range_with_len (s + 1 + 1) n) event.some)
    ]

-- a range that begins at 0 may leave 0 out
from_next : (f : ℕ → ℕ) (from to : ℕ) → from - 1 < to → filter (has_event f) (range_with_len (from - 1 + 1) (to - (from - 1) - 1)) ≡ event_times f from to
from_next f zero zero some = absurd (omega arith)
from_next f zero (suc to) some =
    let first : 0 - 1 + 1 ≡ 0 + 1 = omega arith in
    let count : suc to - (0 - 1) - 1 ≡ to = omega arith in
    let whole : suc to ≡ suc to - 0 = omega arith in
    ap (λ a. filter (has_event f) (range_with_len a (suc to - (0 - 1) - 1))) first ∙ ap (λ k. filter (has_event f) (range_with_len (0 + 1) k)) count
    ∙ ap (λ k. filter (has_event f) (range_with_len 0 k)) whole
from_next f (suc from) to some =
    let first : suc from - 1 + 1 ≡ suc from = omega arith in
    let count : to - (suc from - 1) - 1 ≡ to - suc from = omega arith in
    ap (λ a. filter (has_event f) (range_with_len a (to - (suc from - 1) - 1))) first ∙ ap (λ k. filter (has_event f) (range_with_len (suc from) k)) count

pub none_between : (wave : Waveform) (from to : ℕ) → IsWaveform wave → to ≤ from → between from to wave.changes ≡ []
none_between wave from to form none =
    none_earlier to from (level_of wave from) (later_than from wave.changes) (omega (arith, none)) (AreChanges-later_than from 0 wave.initial wave.changes (omega arith) form)

-- the changes of a cut
pub cut_of : (f : ℕ → ℕ) (wave : Waveform) (from to : ℕ) → IsWaveform wave → ((t : ℕ) → t < to → level_of wave t ≡ f t) → from < to → AreOf f from (level_of wave from) to (between from to wave.changes)
cut_of f wave from to form same some = record {
  form = AreChanges-between wave from to form;
  within = last_time-between wave from to form some;
  levels = λ t low high. cut_levels wave from to t form low high ∙ same t high;
}

pub times_within : (f : ℕ → ℕ) (wave : Waveform) (from to : ℕ) → IsWaveform wave → ((t : ℕ) → t < to → level_of wave t ≡ f t) → times_of (between (from - 1) to wave.changes) ≡ event_times f from to
times_within f wave from to form same =
    elim (cases_lt (from - 1) to) as (λ _. times_of (between (from - 1) to wave.changes) ≡ event_times f from to) [
      | inl some ↦
          times_are f (to - (from - 1) - 1) (from - 1) (level_of wave (from - 1)) to (between (from - 1) to wave.changes) (omega (arith, some)) (cut_of f wave (from - 1) to form same some)
          ∙ from_next f from to some
      | inr none ↦
          let zero_units : 0 ≡ to - from = omega (arith, none) in
          ap times_of (none_between wave (from - 1) to form none) ∙ ap (λ k. filter (has_event f) (range_with_len from k)) zero_units
    ]

-- they lie before the end
all_below : (s v e : ℕ) (changes : List (ℕ × ℕ)) → AreChanges s v changes → last_time s changes < e → All (λ (c : ℕ × ℕ). c.0 < e) changes
all_below s v e [] are over k d within = absurd (omega (arith, within))
all_below s v e (x ∷ xs) are over zero d within = omega (arith, over, le-last_time x.0 x.1 xs are.2)
all_below s v e (x ∷ xs) are over (suc k) d within = all_below x.0 x.1 e xs are.2 over k d (omega (arith, within))

pub between_below : (wave : Waveform) (from to e : ℕ) → IsWaveform wave → to ≤ e → All (λ (c : ℕ × ℕ). c.0 < e) (between from to wave.changes)
between_below wave from to e form le =
    elim (cases_lt from to) as (λ _. All (λ (c : ℕ × ℕ). c.0 < e) (between from to wave.changes)) [
      | inl some ↦
          let last = last_time-between wave from to form some in
          all_below from (level_of wave from) e (between from to wave.changes) (AreChanges-between wave from to form) (omega (arith, last, le))
      | inr none ↦ subst (All (λ (c : ℕ × ℕ). c.0 < e)) (sym (none_between wave from to form none)) (λ k d within. absurd (omega (arith, within)))
    ]

-- ---- the last event and the next one

pub last_quiet : (f : ℕ → ℕ) (s : ℕ) → has_event f (s + 1) ≡ false → last_event f (s + 1) ≡ last_event f s
last_quiet f s none = let back : has_event f (suc s) ≡ false = subst (λ k. has_event f k ≡ false) (add-one s) none in rw (add-one s) (rw back refl)

pub last_now : (f : ℕ → ℕ) (s : ℕ) → has_event f (s + 1) ≡ true → last_event f (s + 1) ≡ Some (s + 1)
last_now f s some = let back : has_event f (suc s) ≡ true = subst (λ k. has_event f k ≡ true) (add-one s) some in rw (add-one s) (rw back refl)

pub last_is : (f : ℕ → ℕ) (n s v e t : ℕ) (last : Option ℕ) (changes : List (ℕ × ℕ)) → s + n ≡ t → t < e → last ≡ last_event f s → AreOf f s v e changes → last_upto last changes t ≡ last_event f t
last_is f zero s v e t last [] is below known are = let same : s ≡ t = omega (arith, is) in known ∙ ap (last_event f) same
last_is f zero s v e t last (x ∷ rest) is below known are =
    let next = next_change f s v e x rest are in
    let same : s ≡ t = omega (arith, is) in
    rw (nat_le-false x.0 t (omega (arith, is, next.0))) (known ∙ ap (last_event f) same)
last_is f (suc n) s v e t last [] is below known are =
    let quiet = empty_next f s v e (omega (arith, is, below)) are in
    last_is f n (s + 1) v e t last [] (omega (arith, is)) below (known ∙ sym (last_quiet f s quiet.none)) quiet.rest
last_is f (suc n) s v e t last (x ∷ rest) is below known are =
    let next = next_change f s v e x rest are in
    elim (cases_lt (s + 1) x.0) as (λ _. last_upto last (x ∷ rest) t ≡ last_event f t) [
      | inl sooner ↦
          let quiet = later_next f s v e x rest (omega (arith, is, below)) sooner are in
          last_is f n (s + 1) v e t last (x ∷ rest) (omega (arith, is)) below (known ∙ sym (last_quiet f s quiet.none)) quiet.rest
      | inr over ↦
          let at : x.0 ≡ s + 1 = omega (arith, over, next.0) in
          let event = event_next f s v e x rest (omega (arith, is, below)) at are in
          rw (nat_le-true x.0 t (omega (arith, is, at)))
          (last_is f n (s + 1) x.1 e t (Some x.0) rest (omega (arith, is)) below (ap (λ k. let o : Option ℕ = Some k in o) at ∙ sym (last_now f s event.some)) event.rest)
    ]

first_quiet : (f : ℕ → ℕ) (s k : ℕ) → has_event f (s + 1) ≡ false → first_event f s (suc k) ≡ first_event f (s + 1) k
first_quiet f s k none = rw none refl

first_now : (f : ℕ → ℕ) (s k : ℕ) → has_event f (s + 1) ≡ true → first_event f s (suc k) ≡ Some (s + 1)
first_now f s k some = rw some refl

next_first : (x : ℕ × ℕ) (rest : List (ℕ × ℕ)) (t : ℕ) → t < x.0 → next_after (x ∷ rest) t ≡ Some x.0
next_first x rest t before = rw (nat_le-false x.0 t before) refl

-- from the time before the changes
first_is : (f : ℕ → ℕ) (k s v e : ℕ) (changes : List (ℕ × ℕ)) → s + k + 1 ≡ e → AreOf f s v e changes → next_after changes s ≡ first_event f s k
first_is f zero s v e [] is are = refl
first_is f zero s v e (x ∷ rest) is are = let next = next_change f s v e x rest are in absurd (omega (arith, is, next.0, next.1))
first_is f (suc k) s v e [] is are =
    let quiet = empty_next f s v e (omega (arith, is)) are in first_is f k (s + 1) v e [] (omega (arith, is)) quiet.rest ∙ sym (first_quiet f s k quiet.none)
first_is f (suc k) s v e (x ∷ rest) is are =
    let next = next_change f s v e x rest are in
    elim (cases_lt (s + 1) x.0) as (λ _. next_after (x ∷ rest) s ≡ first_event f s (suc k)) [
      | inl sooner ↦
          let quiet = later_next f s v e x rest (omega (arith, is)) sooner are in
          next_first x rest s next.0 ∙ sym (next_first x rest (s + 1) sooner) ∙ first_is f k (s + 1) v e (x ∷ rest) (omega (arith, is)) quiet.rest ∙ sym (first_quiet f s k quiet.none)
      | inr over ↦
          let at : x.0 ≡ s + 1 = omega (arith, over, next.0) in
          let event = event_next f s v e x rest (omega (arith, is)) at are in
          next_first x rest s next.0 ∙ ap (λ k. let o : Option ℕ = Some k in o) at ∙ sym (first_now f s k event.some)
    ]

pub next_is : (f : ℕ → ℕ) (n s v e t k : ℕ) (changes : List (ℕ × ℕ)) → s + n ≡ t → t + k + 1 ≡ e → AreOf f s v e changes → next_after changes t ≡ first_event f t k
next_is f zero s v e t k changes is end are =
    let same : s ≡ t = omega (arith, is) in
    subst (λ (u : ℕ). next_after changes u ≡ first_event f u k) same (first_is f k s v e changes (omega (arith, is, end)) are)
next_is f (suc n) s v e t k [] is end are =
    let quiet = empty_next f s v e (omega (arith, is, end)) are in next_is f n (s + 1) v e t k [] (omega (arith, is)) end quiet.rest
next_is f (suc n) s v e t k (x ∷ rest) is end are =
    let next = next_change f s v e x rest are in
    elim (cases_lt (s + 1) x.0) as (λ _. next_after (x ∷ rest) t ≡ first_event f t k) [
      | inl sooner ↦
          let quiet = later_next f s v e x rest (omega (arith, is, end)) sooner are in
          next_is f n (s + 1) v e t k (x ∷ rest) (omega (arith, is)) end quiet.rest
      | inr over ↦
          let at : x.0 ≡ s + 1 = omega (arith, over, next.0) in
          let event = event_next f s v e x rest (omega (arith, is, end)) at are in
          rw (nat_le-true x.0 t (omega (arith, is, at))) (next_is f n (s + 1) x.1 e t k rest (omega (arith, is)) end event.rest)
    ]

-- ---- of a wave

pub of_wave : (f : ℕ → ℕ) (end : ℕ) → 0 < end → AreOf f 0 (f 0) end (changes_after f 0 (end - 1))
of_wave f end some =
    let last = last_time-changes_after f 0 (end - 1) in
    record {
      form = AreChanges-changes_after f 0 (end - 1);
      within = omega (arith, last, some);
      levels = λ t low high. level_from-changes_after f 0 (end - 1) t (omega arith) (omega (arith, high, some));
    }

pub last_of_wave : (f : ℕ → ℕ) (end t : ℕ) → t < end → last_upto None (changes_after f 0 (end - 1)) t ≡ last_event f t
last_of_wave f end t below = last_is f t 0 (f 0) end t None (changes_after f 0 (end - 1)) (omega arith) below refl (of_wave f end (omega (arith, below)))

pub next_of_wave : (f : ℕ → ℕ) (end t : ℕ) → t < end → next_after (changes_after f 0 (end - 1)) t ≡ first_event f t (end - 1 - t)
next_of_wave f end t below = next_is f t 0 (f 0) end t (end - 1 - t) (changes_after f 0 (end - 1)) (omega arith) (omega (arith, below)) (of_wave f end (omega (arith, below)))
