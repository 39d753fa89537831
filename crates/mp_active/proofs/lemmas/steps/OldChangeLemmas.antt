-- The changes of a wave between two times, and what is put of them.
use Rattle.std.proofs.Common.{◌≡◌, ℕ, ◌+◌, ◌-◌, ◌<◌, ◌≤◌, Bool, true, false, not, List, [], ◌∷◌, All, cond, nat_lt, refl, ap, sym, subst, ◌∙◌, arith, inl, inr}
use Rattle.std.specs.Prelude.{◌==◌, ◌&&◌, slice_index_or}
use Rattle.std.specs.List.{count_by, filter}
use Rattle.std.proofs.lemmas.Bool.{cases_lt, lt-ltb, le-ltb, cases_eq, eqb-true, eq-eqb, ne_eqb, ltb-true, and_right}
use Rattle.std.proofs.lemmas.List.Elements.{All-nil, All-cons, All-head, All-tail, All-append}
use Rattle.std.proofs.lemmas.List.Sums.{sum_by-cons, sum_by-append}
use Rattle.mp_wave.specs.Waveform.{Waveform, IsWaveform, AreChanges, level_of, level_from, between, later_than}
use Rattle.mp_netlist.specs.Circuit.{Circuit}
use Rattle.mp_model.specs.Evaluations.{AreRising}
use Rattle.mp_model.specs.Waves.{level}
use Rattle.mp_modules.specs.automata.Codes.{bit}
use Rattle.mp_simulation.specs.bits.Changes.{change_at}
use Rattle.mp_kernel.specs.declared.datapath.level_change.LevelChange.{LevelChange}
use Rattle.mp_simulation.specs.run.Stimuli.{set_changes}
use Rattle.mp_simulation.proofs.lemmas.run.StimulusLemmas.{timed, timed_cons, plus_none, toggles_change, set_levels}
use Rattle.mp_active.specs.steps.Putting.{entry_of, entries_of}
use Rattle.mp_active.specs.steps.Ahead.{is_entry_of, IsEntryOf, AreChangesOf, OldChangesAreAhead, SpansJoin}
use Rattle.mp_active.proofs.lemmas.steps.PutLemmas.{all_between}

-- ---- the changes of a wave are all set, each to another level
set_of : (before level : ℕ) (cs : List (ℕ × ℕ)) → AreChanges before level cs → set_changes level cs ≡ cs
set_of before level [] are = refl
set_of before level (c ∷ cs) are =
    ap (λ b. cond b (set_changes c.1 cs) (c ∷ set_changes c.1 cs)) (ne_eqb level c.1 are.1) ∙ ap (λ (xs : List (ℕ × ℕ)). c ∷ xs) (set_of c.0 c.1 cs are.2)

rising_of : (before level : ℕ) (cs : List (ℕ × ℕ)) → AreChanges before level cs → AreRising before cs
rising_of before level [] are = tt
rising_of before level (c ∷ cs) are = (are.0, rising_of c.0 c.1 cs are.2)

pub timed_wave : (wave : Waveform) → IsWaveform wave → (k : ℕ) → timed (k + 1) wave.changes ≡ bit (not (level_of wave k == level_of wave (k + 1)))
timed_wave wave form k =
    ap (λ (cs : List (ℕ × ℕ)). timed (k + 1) cs) (sym (set_of 0 wave.initial wave.changes form)) ∙ toggles_change wave.initial 0 k wave.changes (rising_of 0 wave.initial wave.changes form)

pub levels_in : (wave : Waveform) → IsWaveform wave → All (λ (c : ℕ × ℕ). level_of wave c.0 ≡ c.1) wave.changes
levels_in wave form = λ k d low.
    let is = subst (λ (cs : List (ℕ × ℕ)). All (λ (c : ℕ × ℕ). (0 < c.0) × (level_from wave.initial wave.changes c.0 ≡ c.1)) cs) (set_of 0 wave.initial wave.changes form)
    (set_levels wave.initial 0 wave.changes (rising_of 0 wave.initial wave.changes form)) k d low in
    is.1

-- ---- those that are kept by their times
none_kept : (b : Bool) → ◌≡◌ {A = ℕ} 0 (cond b 0 0)
none_kept true = refl
none_kept false = refl

kept_step : (p : ℕ → Bool) (u : ℕ) (c : ℕ × ℕ) (kept cs : List (ℕ × ℕ)) (b same : Bool) → p c.0 ≡ b → (c.0 == u) ≡ same → timed u kept ≡ cond (p u) (timed u cs) 0 →
    timed u (cond b (c ∷ kept) kept) ≡ cond (p u) (timed u (c ∷ cs)) 0
kept_step p u c kept cs true true is same rest =
    let e : p u ≡ true = ap p (sym (eqb-true c.0 u same)) ∙ is in
    timed_cons u c kept ∙ ap (λ j. bit (c.0 == u) + j) (rest ∙ ap (λ b. cond b (timed u cs) 0) e) ∙ sym (ap (λ b. cond b (timed u (c ∷ cs)) 0) e ∙ timed_cons u c cs)
kept_step p u c kept cs true false is same rest =
    timed_cons u c kept ∙ plus_none (bit (c.0 == u)) (timed u kept) (ap bit same) ∙ rest
    ∙ sym (ap (λ j. cond (p u) j 0) (timed_cons u c cs ∙ plus_none (bit (c.0 == u)) (timed u cs) (ap bit same)))
kept_step p u c kept cs false true is same rest =
    let e : p u ≡ false = ap p (sym (eqb-true c.0 u same)) ∙ is in
    rest ∙ ap (λ b. cond b (timed u cs) 0) e ∙ sym (ap (λ b. cond b (timed u (c ∷ cs)) 0) e)
kept_step p u c kept cs false false is same rest =
    rest ∙ sym (ap (λ j. cond (p u) j 0) (timed_cons u c cs ∙ plus_none (bit (c.0 == u)) (timed u cs) (ap bit same)))

timed_kept : (p : ℕ → Bool) (u : ℕ) (cs : List (ℕ × ℕ)) → timed u (filter (λ (c : ℕ × ℕ). p c.0) cs) ≡ cond (p u) (timed u cs) 0
timed_kept p u [] = none_kept (p u)
timed_kept p u (c ∷ cs) = kept_step p u c (filter (λ (c : ℕ × ℕ). p c.0) cs) cs (p c.0) (c.0 == u) refl refl (timed_kept p u cs)

all_step : (P : ℕ × ℕ → Type 0) (c : ℕ × ℕ) (kept : List (ℕ × ℕ)) (b : Bool) → P c → All P kept → All P (cond b (c ∷ kept) kept)
all_step P c kept true first rest = All-cons P c kept first rest
all_step P c kept false first rest = rest

pub all_kept : (P : ℕ × ℕ → Type 0) (p : ℕ → Bool) (cs : List (ℕ × ℕ)) → All P cs → All P (filter (λ (c : ℕ × ℕ). p c.0) cs)
all_kept P p [] each = All-nil P
all_kept P p (c ∷ cs) each = all_step P c (filter (λ (c : ℕ × ℕ). p c.0) cs) (p c.0) (All-head P c cs each) (all_kept P p cs (All-tail P c cs each))

pub timed_between : (from to u : ℕ) (cs : List (ℕ × ℕ)) → timed u (between from to cs) ≡ cond (nat_lt u to) (cond (nat_lt from u) (timed u cs) 0) 0
timed_between from to u cs =
    timed_kept (λ v. nat_lt v to) u (later_than from cs) ∙ ap (λ j. cond (nat_lt u to) j 0) (timed_kept (λ v. nat_lt from v) u cs)

-- ---- as they are put
counted : (k x : ℕ) (entry : ℕ × LevelChange) (entries : List (ℕ × LevelChange)) → count_by (is_entry_of k x) (entry ∷ entries) ≡ bit (is_entry_of k x entry) + count_by (is_entry_of k x) entries
counted k x entry entries = sum_by-cons (λ (e : ℕ × LevelChange). cond (is_entry_of k x e) 1 0) entry entries

same_time : (time t k : ℕ) → t < time → (time - t - 1 == k) ≡ (time == t + 1 + k)
same_time time t k later = elim (cases_eq time (t + 1 + k)) as (λ _. (time - t - 1 == k) ≡ (time == t + 1 + k)) [
  | inl is ↦ eq-eqb (time - t - 1) k (omega (arith, is, later)) ∙ sym (eq-eqb time (t + 1 + k) is)
  | inr other ↦ ne_eqb (time - t - 1) k (λ e. other (omega (arith, e, later))) ∙ sym (ne_eqb time (t + 1 + k) other)
]

one_entry : (own here : Bool) (rest : ℕ) → bit (here && own) + cond own rest 0 ≡ cond own (bit here + rest) 0
one_entry true true rest = refl
one_entry true false rest = refl
one_entry false true rest = refl
one_entry false false rest = refl

pub counted_entries : (w t k x : ℕ) (cs : List (ℕ × ℕ)) → All (λ (c : ℕ × ℕ). t < c.0) cs → count_by (is_entry_of k x) (entries_of w t cs) ≡ cond (w == x) (timed (t + 1 + k) cs) 0
counted_entries w t k x [] later = none_kept (w == x)
counted_entries w t k x (c ∷ cs) later =
    counted k x (entry_of w t c) (entries_of w t cs)
    ∙ ap (λ j. bit (is_entry_of k x (entry_of w t c)) + j) (counted_entries w t k x cs (All-tail (λ (c : ℕ × ℕ). t < c.0) c cs later))
    ∙ ap (λ b. bit (b && (w == x)) + cond (w == x) (timed (t + 1 + k) cs) 0) (same_time c.0 t k (All-head (λ (c : ℕ × ℕ). t < c.0) c cs later))
    ∙ one_entry (w == x) (c.0 == t + 1 + k) (timed (t + 1 + k) cs)
    ∙ ap (λ j. cond (w == x) j 0) (sym (timed_cons (t + 1 + k) c cs))

module _ (n : Circuit) (w t from to : ℕ) (wave : Waveform) (form : IsWaveform wave) (later : t ≤ from) (agree : (u : ℕ) → from ≤ u → u < to → level_of wave u ≡ level n w u) where
  all_later : All (λ (c : ℕ × ℕ). t < c.0) (between from to wave.changes)
  all_later = λ k d low. let is = all_between from to wave.changes k d low in let first = is.0 in omega (arith, later, first)

  -- what changes in the wave changes on the wire
  when : (k : ℕ) (own after before : Bool) → nat_lt from (t + 1 + k) ≡ after → nat_lt (t + 1 + k) to ≡ before →
      cond own (cond before (cond after (timed (t + 1 + k) wave.changes) 0) 0) 0 ≡ bit (own && (change_at n w (t + 1 + k) && (after && before)))
  when k false after before is too = refl
  when k true after false is too = sym (ap bit (and_right (change_at n w (t + 1 + k)) (after && false) (and_right after false refl)))
  when k true false true is too = sym (ap bit (and_right (change_at n w (t + 1 + k)) false refl))
  when k true true true is too =
      let one : from < t + 1 + k = ltb-true from (t + 1 + k) is in
      let other : t + 1 + k < to = ltb-true (t + 1 + k) to too in
      let e : t + 1 + k ≡ t + k + 1 = omega arith in
      let was : t + 1 + k - 1 ≡ t + k = omega arith in
      ap (λ u. timed u wave.changes) e
      ∙ timed_wave wave form (t + k)
      ∙ ap (λ u. bit (not (level_of wave (t + k) == level_of wave u))) (sym e)
      ∙ ap (λ v. bit (not (v == level_of wave (t + 1 + k)))) (agree (t + k) (omega (arith, one)) (omega (arith, other)))
      ∙ ap (λ v. bit (not (level n w (t + k) == v))) (agree (t + 1 + k) (omega (arith, one)) other)
      ∙ ap (λ u. bit (not (level n w u == level n w (t + 1 + k)))) (sym was)
      ∙ sym (ap bit (by (change_at n w (t + 1 + k))))
    where
      by : (b : Bool) → (b && true) ≡ b
      by true = refl
      by false = refl

  put_all : (cs : List (ℕ × ℕ)) → All (λ (c : ℕ × ℕ). (t < c.0) × (c.1 ≡ level n w c.0)) cs → All (IsEntryOf n w t) (entries_of w t cs)
  put_all [] each = All-nil (IsEntryOf n w t)
  put_all (c ∷ cs) each =
      let first = All-head (λ (c : ℕ × ℕ). (t < c.0) × (c.1 ≡ level n w c.0)) c cs each in
      let after = first.0 in
      let is : c.0 ≡ t + 1 + (c.0 - t - 1) = omega (arith, after) in
      All-cons (IsEntryOf n w t) (entry_of w t c) (entries_of w t cs) (record { wire = refl; level = first.1 ∙ ap (level n w) is })
      (put_all cs (All-tail (λ (c : ℕ × ℕ). (t < c.0) × (c.1 ≡ level n w c.0)) c cs each))

  old_ahead : AreChangesOf n w t from to (entries_of w t (between from to wave.changes))
  old_ahead = record {
    each = λ k x.
        counted_entries w t k x (between from to wave.changes) all_later
        ∙ ap (λ j. cond (w == x) j 0) (timed_between from to (t + 1 + k) wave.changes)
        ∙ when k (w == x) (nat_lt from (t + 1 + k)) (nat_lt (t + 1 + k) to) refl refl;
    own = put_all (between from to wave.changes) (λ k d low.
        let is = all_between from to wave.changes k d low in
        let first = is.0 in
        let last = is.1 in
        let has = all_kept (λ (c : ℕ × ℕ). level_of wave c.0 ≡ c.1) (λ v. nat_lt v to) (later_than from wave.changes)
        (all_kept (λ (c : ℕ × ℕ). level_of wave c.0 ≡ c.1) (λ v. nat_lt from v) wave.changes (levels_in wave form)) k d low in
        (omega (arith, later, first), sym has ∙ agree (slice_index_or (between from to wave.changes) k d).0 (omega (arith, first)) last));
  }

pub old_changes_are_ahead : OldChangesAreAhead
old_changes_are_ahead = old_ahead

-- ---- two spans that meet
join_tests : (own c a m p b : Bool) → (m ≡ true → (p ≡ false) × (b ≡ true)) → (m ≡ false → (p ≡ true) × (a ≡ true)) →
    bit (own && (c && (a && m))) + bit (own && (c && (p && b))) ≡ bit (own && (c && (a && b)))
join_tests false c a m p b early late = refl
join_tests true false a m p b early late = refl
join_tests true true true true false true early late = refl
join_tests true true false true false true early late = refl
join_tests true true a true true b early late = let no : ⊥ = (let is = (early refl).0 in cc) in absurd no
join_tests true true a true false false early late = let no : ⊥ = (let is = (early refl).1 in cc) in absurd no
join_tests true true true false true true early late = refl
join_tests true true true false true false early late = refl
join_tests true true a false false b early late = let no : ⊥ = (let is = (late refl).0 in cc) in absurd no
join_tests true true false false true b early late = let no : ⊥ = (let is = (late refl).1 in cc) in absurd no

pub spans_join : SpansJoin
spans_join n w t from middle to one other some short first second = record {
  each = λ k x.
      sum_by-append (λ (e : ℕ × LevelChange). cond (is_entry_of k x e) 1 0) one other
      ∙ ap (λ j. j + count_by (is_entry_of k x) other) (first.each k x)
      ∙ ap (λ j. bit ((w == x) && (change_at n w (t + 1 + k) && (nat_lt from (t + 1 + k) && nat_lt (t + 1 + k) middle))) + j) (second.each k x)
      ∙ join_tests (w == x) (change_at n w (t + 1 + k)) (nat_lt from (t + 1 + k)) (nat_lt (t + 1 + k) middle) (nat_lt (middle - 1) (t + 1 + k)) (nat_lt (t + 1 + k) to)
      (λ is. let low = ltb-true (t + 1 + k) middle is in (le-ltb (middle - 1) (t + 1 + k) (omega (arith, low, some)), lt-ltb (t + 1 + k) to (omega (arith, low, short))))
      (λ is. let high = past (t + 1 + k) middle is in (lt-ltb (middle - 1) (t + 1 + k) (omega (arith, high, some)), lt-ltb from (t + 1 + k) (omega (arith, high, some))));
  own = All-append (IsEntryOf n w t) one other first.own second.own;
}
  where
    past : (u middle : ℕ) → nat_lt u middle ≡ false → middle ≤ u
    past u middle is = elim (cases_lt u middle) as (λ _. middle ≤ u) [
      | inl low ↦ let no : ⊥ = (let never = sym (lt-ltb u middle low) ∙ is in cc) in absurd no
      | inr high ↦ high
    ]
