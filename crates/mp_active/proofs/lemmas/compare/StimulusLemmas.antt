-- The stimuli of wires whose levels come from the new run alone.
use Rattle.std.proofs.Common.{◌≡◌, ℕ, ◌+◌, ◌<◌, ◌≤◌, Bool, true, false, cond, ◌&&◌, List, [], ◌∷◌, ◌++◌, length, get_or, drop, refl, sym, ap, ◌∙◌, arith}
use Rattle.std.specs.Prelude.{◌==◌}
use Rattle.std.specs.List.{count_by, filter}
use Rattle.std.proofs.lemmas.Bool.{eqb-true}
use Rattle.std.proofs.lemmas.List.{append-nil, append_assoc, drop_more, drop_all}
use Rattle.std.proofs.lemmas.List.Elements.{All-filter}
use Rattle.std.proofs.lemmas.List.Sums.{sum_by-cons}
use Rattle.mp_netlist.specs.Circuit.{Circuit}
use Rattle.mp_netlist.specs.Drivers.{driver}
use Rattle.mp_modules.specs.automata.Codes.{bit}
use Rattle.mp_simulation.specs.bits.Changes.{change_at}
use Rattle.mp_simulation.specs.bits.WholeRuns.{is_stimulus}
use Rattle.mp_simulation.specs.declared.run.stimuli.StimulusChange.{StimulusChange}
use Rattle.mp_simulation.specs.run.Stimuli.{AreFrom, AreAhead, IsSetting, is_change}
use Rattle.mp_active.specs.declared.compare.wire_source.WireSource.{WireSource}
use Rattle.mp_active.specs.compare.ChangedStimuli.{until_in, is_new_in, AreSetAnew}

-- the changes of wires that are new
abbrev pub is_kept : List WireSource → StimulusChange → Bool
is_kept sources s = is_new_in sources s.wire

from_sooner : (t u : ℕ) (ss : List StimulusChange) → t ≤ u → AreFrom u ss → AreFrom t ss
from_sooner t u [] sooner from = tt
from_sooner t u (s ∷ ss) sooner from = (let first = from.0 in omega arith, from.1)

-- in order some of them are, too
from_some : (p : StimulusChange → Bool) (t : ℕ) (ss : List StimulusChange) → AreFrom t ss → AreFrom t (filter p ss)
from_some p t [] from = tt
from_some p t (s ∷ ss) from = by (p s) (from_some p s.time ss from.1)
  where
    by : (b : Bool) → AreFrom s.time (filter p ss) → AreFrom t (cond b (s ∷ filter p ss) (filter p ss))
    by true rest = (from.0, rest)
    by false rest = from_sooner t s.time (filter p ss) from.0 rest

-- a wire that is new has its changes among them, and another none
some_changes : (sources : List WireSource) (w u : ℕ) (ss : List StimulusChange) →
    count_by (is_change w u) (filter (is_kept sources) ss) ≡ cond (is_new_in sources w) (count_by (is_change w u) ss) 0
some_changes sources w u [] = none (is_new_in sources w) 0
  where
    none : (b : Bool) (k : ℕ) → k ≡ cond b k k
    none true k = refl
    none false k = refl
some_changes sources w u (s ∷ ss) = by (is_new_in sources s.wire) refl (is_change w u s) refl (some_changes sources w u ss)
  where
    same : is_change w u s ≡ true → is_new_in sources s.wire ≡ is_new_in sources w
    same is = ap (is_new_in sources) (eqb-true s.wire w (first (s.wire == w) (s.time == u) is))
      where
        first : (a b : Bool) → (a && b) ≡ true → a ≡ true
        first true b e = refl
        first false b e = e

    whole : (now : Bool) → is_change w u s ≡ now → count_by (is_change w u) (s ∷ ss) ≡ bit now + count_by (is_change w u) ss
    whole now is = sum_by-cons (λ x. bit (is_change w u x)) s ss ∙ ap (λ b. bit b + count_by (is_change w u) ss) is

    split : (b : Bool) (k : ℕ) → cond b k 0 ≡ cond b (0 + k) 0
    split b k = let e : k ≡ 0 + k = omega arith in ap (λ n. cond b n 0) e

    by : (kept : Bool) → is_new_in sources s.wire ≡ kept → (now : Bool) → is_change w u s ≡ now → count_by (is_change w u) (filter (is_kept sources) ss) ≡ cond (is_new_in sources w) (count_by (is_change w u) ss) 0 →
        count_by (is_change w u) (cond kept (s ∷ filter (is_kept sources) ss) (filter (is_kept sources) ss)) ≡ cond (is_new_in sources w) (count_by (is_change w u) (s ∷ ss)) 0
    by true is true now rest =
        let new_is : is_new_in sources w ≡ true = sym (same now) ∙ is in
        let here = sum_by-cons (λ x. bit (is_change w u x)) s (filter (is_kept sources) ss) ∙ ap (λ b. bit b + count_by (is_change w u) (filter (is_kept sources) ss)) now in
        let all = whole true now in
        let left = ap (λ b. cond b (count_by (is_change w u) ss) 0) new_is in
        let right = ap (λ b. cond b (count_by (is_change w u) (s ∷ ss)) 0) new_is in
        omega arith
    by true is false now rest =
        sum_by-cons (λ x. bit (is_change w u x)) s (filter (is_kept sources) ss) ∙ ap (λ b. bit b + count_by (is_change w u) (filter (is_kept sources) ss)) now
        ∙ ap (λ k. 0 + k) rest ∙ zero_more (cond (is_new_in sources w) (count_by (is_change w u) ss) 0)
        ∙ split (is_new_in sources w) (count_by (is_change w u) ss) ∙ ap (λ k. cond (is_new_in sources w) k 0) (sym (whole false now))
      where
        zero_more : (k : ℕ) → 0 + k ≡ k
        zero_more k = omega arith
    by false is true now rest =
        let old_is : is_new_in sources w ≡ false = sym (same now) ∙ is in
        rest ∙ ap (λ b. cond b (count_by (is_change w u) ss) 0) old_is ∙ sym (ap (λ b. cond b (count_by (is_change w u) (s ∷ ss)) 0) old_is)
    by false is false now rest =
        rest ∙ split (is_new_in sources w) (count_by (is_change w u) ss) ∙ ap (λ k. cond (is_new_in sources w) k 0) (sym (whole false now))

-- those of all that are kept
pub set_anew : (n : Circuit) (sources : List WireSource) (t : ℕ) (ss : List StimulusChange) → AreAhead n t ss → AreSetAnew n (until_in sources) t (filter (is_kept sources) ss)
set_anew n sources t ss are = record {
  listed = from_some (is_kept sources) (t + 1) ss are.listed;
  each = λ w u later.
      some_changes sources w u ss ∙ ap (λ k. cond (is_new_in sources w) k 0) (are.each w u later)
      ∙ both (change_at n w u) (is_stimulus (driver n w)) (is_new_in sources w);
  set = All-filter (is_kept sources) (IsSetting n) ss are.set;
}
  where
    both : (a b c : Bool) → cond c (bit (a && b)) 0 ≡ bit (a && (b && c))
    both true true true = refl
    both true true false = refl
    both true false true = refl
    both true false false = refl
    both false b true = refl
    both false b false = refl

-- one change more is gone through
pub kept_more : (sources : List WireSource) (xs : List StimulusChange) (i : ℕ) (d : StimulusChange) (all was is : List StimulusChange) → i < length xs → all ≡ was ++ filter (is_kept sources) (drop i xs) →
    is ≡ was ++ cond (is_kept sources (get_or xs i d)) (get_or xs i d ∷ []) [] → all ≡ is ++ filter (is_kept sources) (drop (i + 1) xs)
kept_more sources xs i d all was is low before pushed =
    before ∙ ap (λ (ys : List StimulusChange). was ++ filter (is_kept sources) ys) (drop_more xs i d low) ∙ by (is_kept sources (get_or xs i d))
    ∙ ap (λ (ys : List StimulusChange). ys ++ rest) (sym pushed)
  where
    rest : List StimulusChange
    rest = filter (is_kept sources) (drop (i + 1) xs)

    by : (b : Bool) → was ++ cond b (get_or xs i d ∷ rest) rest ≡ (was ++ cond b (get_or xs i d ∷ []) []) ++ rest
    by true = sym (append_assoc was (get_or xs i d ∷ []) rest)
    by false = ap (λ (ys : List StimulusChange). ys ++ rest) (sym (append-nil was))

-- and when all were
pub kept_all : (sources : List WireSource) (xs : List StimulusChange) (i : ℕ) (all is : List StimulusChange) → length xs ≤ i → all ≡ is ++ filter (is_kept sources) (drop i xs) → all ≡ is
kept_all sources xs i all is past before = before ∙ ap (λ (ys : List StimulusChange). is ++ filter (is_kept sources) ys) (drop_all i xs past) ∙ append-nil is
