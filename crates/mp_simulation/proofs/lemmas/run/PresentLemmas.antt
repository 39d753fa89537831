-- What stimuli set in one unit, and what is ahead of it.
use Rattle.std.proofs.Common.{◌≡◌, ◌≢◌, ℕ, zero, suc, ◌+◌, ◌<◌, Bool, true, false, not, cond, drop, List, [], ◌∷◌, ◌++◌, None, All, length, nat_lt, refl, sym, ap, ◌∙◌, arith, subst, inl, inr}
use Rattle.std.specs.Prelude.{◌==◌, ◌&&◌}
use Rattle.std.specs.List.{count_by}
use Rattle.std.proofs.lemmas.Bool.{cases_lt, cases_eq, eq-eqb, eqb-true, ne_eqb}
use Rattle.std.proofs.lemmas.Bool.Decides.{nat_tests}
use Rattle.std.proofs.lemmas.List.{get_or_past, append_assoc}
use Rattle.std.proofs.lemmas.List.Elements.{All-head, All-tail, All-append}
use Rattle.std.proofs.lemmas.List.Sums.{sum_by-append, sum_by-cons}
use Rattle.mp_netlist.specs.Circuit.{Circuit, IsCircuit, stimulus_at, stimulus_in}
use Rattle.mp_netlist.specs.Drivers.{driver}
use Rattle.mp_model.specs.Waves.{level}
use Rattle.mp_modules.specs.automata.Codes.{bit}
use Rattle.mp_kernel.specs.events.Adding.{listed}
use Rattle.mp_simulation.specs.bits.Changes.{change_at}
use Rattle.mp_simulation.specs.bits.WholeRuns.{is_stimulus}
use Rattle.mp_kernel.specs.declared.datapath.level_change.LevelChange.{LevelChange}
use Rattle.mp_simulation.specs.units.DataLevels.{is_data, is_bit_wire, changes_of}
use Rattle.mp_simulation.specs.units.NetlistSimulations.{AreStimuli}
use Rattle.mp_simulation.proofs.lemmas.units.LevelWheelLemmas.{changes_append}
use Rattle.mp_simulation.specs.declared.run.stimuli.StimulusChange.{StimulusChange}
use Rattle.mp_simulation.specs.declared.run.stimuli.Stimuli.{Stimuli}
use Rattle.mp_simulation.specs.run.Stimuli.{rest_of, bits_of, levels_of, bits_at, levels_at, changes_after, AreFrom, is_change, IsSetting, AreAhead, Advances}
use Rattle.mp_simulation.proofs.lemmas.run.StimulusLemmas.{no_stimulus, none_listed, plus_none}

-- ---- a unit begins

none_from : (w v u : ℕ) (ss : List StimulusChange) → AreFrom u ss → v < u → count_by (is_change w v) ss ≡ 0
none_from w v u [] from low = refl
none_from w v u (s ∷ ss) from low =
    let late = from.0 in
    sum_by-cons (λ (x : StimulusChange). cond (is_change w v x) 1 0) s ss
    ∙ plus_none (cond (is_change w v s) 1 0) (count_by (is_change w v) ss) (none_listed (s.wire == w) (s.time == v) (ne_eqb s.time v (λ e. omega arith)))
    ∙ none_from w v s.time ss from.1 (omega arith)

listed_cons : (w x : ℕ) (xs : List ℕ) → listed w (x ∷ xs) ≡ bit (x == w) + listed w xs
listed_cons w x xs = sum_by-cons (λ d. cond (d == w) 1 0) x xs

changes_cons : (w v l : ℕ) (cs : List LevelChange) → changes_of w (record { number = v; level = l } ∷ cs) ≡ bit (v == w) + changes_of w cs
changes_cons w v l cs = sum_by-cons (λ (c : LevelChange). cond (c.number == w) 1 0) (record { number = v; level = l }) cs

-- the wires of one sort that are listed at a time
one_bit : (w v : ℕ) (has data_too : Bool) (l : ℕ) → has ≡ data_too → v ≡ w → listed w (cond has [] (v ∷ [])) ≡ cond data_too 0 1
one_bit w v true data_too l sort same = ap (λ b. cond b 0 1) sort
one_bit w v false data_too l sort same = listed_cons w v [] ∙ ap (λ b. bit b + 0) (eq-eqb v w same) ∙ ap (λ b. cond b 0 1) sort

other_bit : (w v : ℕ) (has : Bool) → v ≢ w → listed w (cond has [] (v ∷ [])) ≡ 0
other_bit w v true other = refl
other_bit w v false other = listed_cons w v [] ∙ ap (λ b. bit b + 0) (ne_eqb v w other)

one_level : (w v : ℕ) (has data_too : Bool) (l : ℕ) → has ≡ data_too → v ≡ w → changes_of w (cond has (record { number = v; level = l } ∷ []) []) ≡ cond data_too 1 0
one_level w v true data_too l sort same = changes_cons w v l [] ∙ ap (λ b. bit b + 0) (eq-eqb v w same) ∙ ap (λ b. cond b 1 0) sort
one_level w v false data_too l sort same = ap (λ b. cond b 1 0) sort

other_level : (w v : ℕ) (has : Bool) (l : ℕ) → v ≢ w → changes_of w (cond has (record { number = v; level = l } ∷ []) []) ≡ 0
other_level w v true l other = changes_cons w v l [] ∙ ap (λ b. bit b + 0) (ne_eqb v w other)
other_level w v false l other = refl

only_bits : (b : Bool) (k : ℕ) → cond b 0 1 + cond b 0 k ≡ cond b 0 (1 + k)
only_bits true k = refl
only_bits false k = refl

only_levels : (b : Bool) (k : ℕ) → cond b 1 0 + cond b k 0 ≡ cond b (1 + k) 0
only_levels true k = refl
only_levels false k = refl

none_or : (b : Bool) → ◌≡◌ {A = ℕ} 0 (cond b 0 0)
none_or true = refl
none_or false = refl

module _ (n : Circuit) (w u : ℕ) where
  counted_now : (s : StimulusChange) (ss : List StimulusChange) → s.time ≡ u → s.wire ≡ w → 1 + count_by (is_change w u) ss ≡ count_by (is_change w u) (s ∷ ss)
  counted_now s ss now own =
      sym (sum_by-cons (λ (x : StimulusChange). cond (is_change w u x) 1 0) s ss
      ∙ ap (λ b. cond (b && (s.time == u)) 1 0 + count_by (is_change w u) ss) (eq-eqb s.wire w own)
      ∙ ap (λ b. cond (true && b) 1 0 + count_by (is_change w u) ss) (eq-eqb s.time u now))

  counted_else : (s : StimulusChange) (ss : List StimulusChange) → s.wire ≢ w → count_by (is_change w u) ss ≡ count_by (is_change w u) (s ∷ ss)
  counted_else s ss other =
      sym (sum_by-cons (λ (x : StimulusChange). cond (is_change w u x) 1 0) s ss
      ∙ ap (λ b. cond (b && (s.time == u)) 1 0 + count_by (is_change w u) ss) (ne_eqb s.wire w other)
      ∙ plus_none 0 (count_by (is_change w u) ss) refl)

  none_now : (s : StimulusChange) (ss : List StimulusChange) → AreFrom u (s ∷ ss) → s.time ≢ u → count_by (is_change w u) (s ∷ ss) ≡ 0
  none_now s ss from other =
      let late = from.0 in
      sum_by-cons (λ (x : StimulusChange). cond (is_change w u x) 1 0) s ss
      ∙ plus_none (cond (is_change w u s) 1 0) (count_by (is_change w u) ss) (none_listed (s.wire == w) (s.time == u) (ne_eqb s.time u other))
      ∙ none_from w u s.time ss from.1 (omega (arith, late, other))

  sort_of : (s : StimulusChange) → IsSetting n s → s.wire ≡ w → s.has_data ≡ is_data n w
  sort_of s is own = is.sort ∙ ap (is_data n) own

  pub bits_now : (ss : List StimulusChange) → All (IsSetting n) ss → AreFrom u ss → listed w (bits_at u ss) ≡ cond (is_data n w) 0 (count_by (is_change w u) ss)
  bits_now [] set from = none_or (is_data n w)
  bits_now (s ∷ ss) set from = elim (cases_eq s.time u) as (λ _. listed w (bits_at u (s ∷ ss)) ≡ cond (is_data n w) 0 (count_by (is_change w u) (s ∷ ss))) [
    | inl now ↦
        let rest = bits_now ss (All-tail (IsSetting n) s ss set) (subst (λ t. AreFrom t ss) now from.1) in
        ap (λ b. listed w (cond b (bits_of s ++ bits_at u ss) [])) (eq-eqb s.time u now)
        ∙ sum_by-append (λ d. cond (d == w) 1 0) (bits_of s) (bits_at u ss)
        ∙ ap (λ k. listed w (bits_of s) + k) rest
        ∙ elim (cases_eq s.wire w) as (λ _. listed w (bits_of s) + cond (is_data n w) 0 (count_by (is_change w u) ss) ≡ cond (is_data n w) 0 (count_by (is_change w u) (s ∷ ss))) [
          | inl own ↦
              ap (λ k. k + cond (is_data n w) 0 (count_by (is_change w u) ss)) (one_bit w s.wire s.has_data (is_data n w) 0 (sort_of s (All-head (IsSetting n) s ss set) own) own)
              ∙ only_bits (is_data n w) (count_by (is_change w u) ss)
              ∙ ap (λ k. cond (is_data n w) 0 k) (counted_now s ss now own)
          | inr other ↦
              ap (λ k. k + cond (is_data n w) 0 (count_by (is_change w u) ss)) (other_bit w s.wire s.has_data other)
              ∙ plus_none 0 (cond (is_data n w) 0 (count_by (is_change w u) ss)) refl
              ∙ ap (λ k. cond (is_data n w) 0 k) (counted_else s ss other)
        ]
    | inr other ↦
        ap (λ b. listed w (cond b (bits_of s ++ bits_at u ss) [])) (ne_eqb s.time u other)
        ∙ none_or (is_data n w)
        ∙ ap (λ k. cond (is_data n w) 0 k) (sym (none_now s ss from other))
  ]

  pub levels_now : (ss : List StimulusChange) → All (IsSetting n) ss → AreFrom u ss → changes_of w (levels_at u ss) ≡ cond (is_data n w) (count_by (is_change w u) ss) 0
  levels_now [] set from = none_or (is_data n w)
  levels_now (s ∷ ss) set from = elim (cases_eq s.time u) as (λ _. changes_of w (levels_at u (s ∷ ss)) ≡ cond (is_data n w) (count_by (is_change w u) (s ∷ ss)) 0) [
    | inl now ↦
        let rest = levels_now ss (All-tail (IsSetting n) s ss set) (subst (λ t. AreFrom t ss) now from.1) in
        ap (λ b. changes_of w (cond b (levels_of s ++ levels_at u ss) [])) (eq-eqb s.time u now)
        ∙ changes_append w (levels_of s) (levels_at u ss)
        ∙ ap (λ k. changes_of w (levels_of s) + k) rest
        ∙ elim (cases_eq s.wire w) as (λ _. changes_of w (levels_of s) + cond (is_data n w) (count_by (is_change w u) ss) 0 ≡ cond (is_data n w) (count_by (is_change w u) (s ∷ ss)) 0) [
          | inl own ↦
              ap (λ k. k + cond (is_data n w) (count_by (is_change w u) ss) 0) (one_level w s.wire s.has_data (is_data n w) s.level (sort_of s (All-head (IsSetting n) s ss set) own) own)
              ∙ only_levels (is_data n w) (count_by (is_change w u) ss)
              ∙ ap (λ k. cond (is_data n w) k 0) (counted_now s ss now own)
          | inr other ↦
              ap (λ k. k + cond (is_data n w) (count_by (is_change w u) ss) 0) (other_level w s.wire s.has_data s.level other)
              ∙ plus_none 0 (cond (is_data n w) (count_by (is_change w u) ss) 0) refl
              ∙ ap (λ k. cond (is_data n w) k 0) (counted_else s ss other)
        ]
    | inr other ↦
        ap (λ b. changes_of w (cond b (levels_of s ++ levels_at u ss) [])) (ne_eqb s.time u other)
        ∙ none_or (is_data n w)
        ∙ ap (λ k. cond (is_data n w) k 0) (sym (none_now s ss from other))
  ]

-- with their levels
one_set : (n : Circuit) (u : ℕ) (s : StimulusChange) (has : Bool) → (has ≡ true → s.level ≡ level n s.wire s.time) → s.time ≡ u →
    All (λ (c : LevelChange). c.level ≡ level n c.number u) (cond has (record { number = s.wire; level = s.level } ∷ []) [])
one_set n u s true is now zero d within = is refl ∙ ap (level n s.wire) now
one_set n u s true is now (suc k) d within = absurd (omega arith)
one_set n u s false is now k d within = absurd (omega arith)

set_when : (n : Circuit) (u : ℕ) (s : StimulusChange) (rest : List LevelChange) → IsSetting n s → (b : Bool) → (s.time == u) ≡ b → All (λ (c : LevelChange). c.level ≡ level n c.number u) rest →
    All (λ (c : LevelChange). c.level ≡ level n c.number u) (cond b (levels_of s ++ rest) [])
set_when n u s rest set true is all = All-append (λ (c : LevelChange). c.level ≡ level n c.number u) (levels_of s) rest (one_set n u s s.has_data set.level (eqb-true s.time u is)) all
set_when n u s rest set false is all = λ k d within. absurd (omega arith)

pub set_at : (n : Circuit) (u : ℕ) (ss : List StimulusChange) → All (IsSetting n) ss → All (λ (c : LevelChange). c.level ≡ level n c.number u) (levels_at u ss)
set_at n u [] set = λ k d within. absurd (omega arith)
set_at n u (s ∷ ss) set =
    set_when n u s (levels_at u ss) (All-head (IsSetting n) s ss set) (s.time == u) refl (set_at n u ss (All-tail (IsSetting n) s ss set))

pub after_now : (w v u : ℕ) (ss : List StimulusChange) → u < v → count_by (is_change w v) (changes_after u ss) ≡ count_by (is_change w v) ss
after_now w v u [] later = refl
after_now w v u (s ∷ ss) later = elim (cases_eq s.time u) as (λ _. count_by (is_change w v) (changes_after u (s ∷ ss)) ≡ count_by (is_change w v) (s ∷ ss)) [
  | inl now ↦
      ap (λ b. count_by (is_change w v) (cond b (changes_after u ss) (s ∷ ss))) (eq-eqb s.time u now)
      ∙ after_now w v u ss later
      ∙ sym (sum_by-cons (λ (x : StimulusChange). cond (is_change w v x) 1 0) s ss
      ∙ plus_none (cond (is_change w v s) 1 0) (count_by (is_change w v) ss) (none_listed (s.wire == w) (s.time == v) (ne_eqb s.time v (λ e. omega arith))))
  | inr other ↦ ap (λ b. count_by (is_change w v) (cond b (changes_after u ss) (s ∷ ss))) (ne_eqb s.time u other)
]

pub from_after : (u : ℕ) (ss : List StimulusChange) → AreFrom u ss → AreFrom (u + 1) (changes_after u ss)
from_after u [] from = tt
from_after u (s ∷ ss) from = elim (cases_eq s.time u) as (λ _. AreFrom (u + 1) (changes_after u (s ∷ ss))) [
  | inl now ↦ rw (eq-eqb s.time u now) (from_after u ss (subst (λ t. AreFrom t ss) now from.1))
  | inr other ↦ rw (ne_eqb s.time u other) (let late = from.0 in omega (arith, late, other), from.1)
]

all_when : (P : StimulusChange → Type 0) (b : Bool) (xs ys : List StimulusChange) → All P xs → All P ys → All P (cond b xs ys)
all_when P true xs ys one other = one
all_when P false xs ys one other = other

pub settings_after : (n : Circuit) (u : ℕ) (ss : List StimulusChange) → All (IsSetting n) ss → All (IsSetting n) (changes_after u ss)
settings_after n u [] set = set
settings_after n u (s ∷ ss) set = all_when (IsSetting n) (s.time == u) (changes_after u ss) (s ∷ ss) (settings_after n u ss (All-tail (IsSetting n) s ss set)) set

bit_sort : (c data_too : Bool) → cond data_too 0 (bit c) ≡ bit (c && not data_too)
bit_sort true true = refl
bit_sort true false = refl
bit_sort false true = refl
bit_sort false false = refl

level_sort : (c data_too : Bool) → cond data_too (bit c) 0 ≡ bit (c && data_too)
level_sort true true = refl
level_sort true false = refl
level_sort false true = refl
level_sort false false = refl

-- no stimulus drives what is no wire
within_wires : (n : Circuit) → IsCircuit n → (w u : ℕ) → bit ((change_at n w u && is_stimulus (driver n w)) && not (is_data n w)) ≡ bit ((change_at n w u && is_stimulus (driver n w)) && is_bit_wire n w)
within_wires n ok w u = elim (cases_lt w (length n.wires)) as (λ _. bit ((change_at n w u && is_stimulus (driver n w)) && not (is_data n w)) ≡ bit ((change_at n w u && is_stimulus (driver n w)) && is_bit_wire n w)) [
  | inl low ↦ let test : nat_lt w (length n.wires) ≡ true = grind (arith, nat_tests) in ap (λ b. bit ((change_at n w u && is_stimulus (driver n w)) && (b && not (is_data n w)))) (sym test)
  | inr past ↦
      let none : stimulus_at n w ≡ None = ap stimulus_in (get_or_past n.wires w None past) in
      let never : (change_at n w u && is_stimulus (driver n w)) ≡ false = ap (λ b. change_at n w u && b) (no_stimulus n ok w none) ∙ and_false (change_at n w u) in
      ap (λ b. bit (b && not (is_data n w))) never ∙ sym (ap (λ b. bit (b && is_bit_wire n w)) never)
]
  where
    and_false : (c : Bool) → (c && false) ≡ false
    and_false true = refl
    and_false false = refl

-- wires and levels that are listed as often as stimuli change them are what stimuli change
pub stimuli_counted : (n : Circuit) → IsCircuit n → (u : ℕ) (set : List ℕ) (changes : List LevelChange) →
    ((w : ℕ) → listed w set ≡ cond (is_data n w) 0 (bit (change_at n w u && is_stimulus (driver n w)))) →
    ((w : ℕ) → changes_of w changes ≡ cond (is_data n w) (bit (change_at n w u && is_stimulus (driver n w))) 0) →
    All (λ (c : LevelChange). c.level ≡ level n c.number u) changes → AreStimuli n set changes u
stimuli_counted n ok u set changes bits levels right = record {
  bits = λ scope traces w.
      bits w
      ∙ bit_sort (change_at n w u && is_stimulus (driver n w)) (is_data n w)
      ∙ within_wires n ok w u
      ∙ ap (λ b. bit ((change_at n w u && is_stimulus (driver n w)) && b)) (sym (traces w));
  levels = record {
    each = λ w. levels w ∙ level_sort (change_at n w u && is_stimulus (driver n w)) (is_data n w);
    levels = right;
  };
}

-- the changes that come first are those of the next unit
pub stimuli_now : (n : Circuit) → IsCircuit n → (t : ℕ) (rest : List StimulusChange) (set : List ℕ) (changes : List LevelChange) → set ≡ bits_at (t + 1) rest →
    changes ≡ levels_at (t + 1) rest → AreAhead n t rest → AreStimuli n set changes (t + 1)
stimuli_now n ok t rest set changes bits levels are =
    stimuli_counted n ok (t + 1) set changes
    (λ w. ap (listed w) bits ∙ bits_now n w (t + 1) rest are.set are.listed ∙ ap (λ k. cond (is_data n w) 0 k) (are.each w (t + 1) (omega arith)))
    (λ w. ap (changes_of w) levels ∙ levels_now n w (t + 1) rest are.set are.listed ∙ ap (λ k. cond (is_data n w) k 0) (are.each w (t + 1) (omega arith)))
    (subst (λ (cs : List LevelChange). All (λ (c : LevelChange). c.level ≡ level n c.number (t + 1)) cs) (sym levels) (set_at n (t + 1) rest are.set))

pub unit_begins : (n : Circuit) → IsCircuit n → (t : ℕ) (old new : Stimuli) → new.bits.items ≡ bits_at (t + 1) (rest_of old) → new.levels.items ≡ levels_at (t + 1) (rest_of old) →
    rest_of new ≡ changes_after (t + 1) (rest_of old) → AreAhead n t (rest_of old) → Advances n t new
unit_begins n ok t old new bits levels left are = record {
  present = stimuli_now n ok t (rest_of old) new.bits.items new.levels.items bits levels are;
  ahead = subst (AreAhead n (t + 1)) (sym left) (record {
    listed = from_after (t + 1) (rest_of old) are.listed;
    each = λ w u later. after_now w u (t + 1) (rest_of old) later ∙ are.each w u (omega arith);
    set = settings_after n (t + 1) (rest_of old) are.set;
  });
}

-- ---- the present changes are put one after the other

pub bits_step : (time place : ℕ) (list : List StimulusChange) (s : StimulusChange) (xs : List ℕ) → drop place list ≡ s ∷ drop (place + 1) list → (s.time == time) ≡ true →
    (xs ++ bits_of s) ++ bits_at time (drop (place + 1) list) ≡ xs ++ bits_at time (drop place list)
bits_step time place list s xs is now =
    append_assoc xs (bits_of s) (bits_at time (drop (place + 1) list))
    ∙ ap (λ (ys : List ℕ). xs ++ ys) (sym (ap (bits_at time) is ∙ ap (λ b. cond b (bits_of s ++ bits_at time (drop (place + 1) list)) []) now))

pub levels_step : (time place : ℕ) (list : List StimulusChange) (s : StimulusChange) (xs : List LevelChange) → drop place list ≡ s ∷ drop (place + 1) list → (s.time == time) ≡ true →
    (xs ++ levels_of s) ++ levels_at time (drop (place + 1) list) ≡ xs ++ levels_at time (drop place list)
levels_step time place list s xs is now =
    append_assoc xs (levels_of s) (levels_at time (drop (place + 1) list))
    ∙ ap (λ (ys : List LevelChange). xs ++ ys) (sym (ap (levels_at time) is ∙ ap (λ b. cond b (levels_of s ++ levels_at time (drop (place + 1) list)) []) now))

pub left_step : (time place : ℕ) (list : List StimulusChange) (s : StimulusChange) → drop place list ≡ s ∷ drop (place + 1) list → (s.time == time) ≡ true →
    changes_after time (drop (place + 1) list) ≡ changes_after time (drop place list)
left_step time place list s is now = sym (ap (changes_after time) is ∙ ap (λ b. cond b (changes_after time (drop (place + 1) list)) (s ∷ drop (place + 1) list)) now)
