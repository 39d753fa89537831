-- What parts of a netlist tell each other is what the simulation of each knows ahead.
use Rattle.std.proofs.Common.{◌≡◌, ◌≢◌, ◌⊎◌, ℕ, zero, ◌+◌, ◌<◌, ◌≤◌, Bool, true, false, cond, List, [], ◌∷◌, ◌++◌, All, slice_index_or, refl, sym, ap, ◌∙◌, arith, subst, inl, inr}
use Rattle.std.specs.Prelude.{◌==◌, ◌&&◌}
use Rattle.std.specs.List.{count_by}
use Rattle.std.proofs.lemmas.Bool.{cases_eq, eq-eqb, eqb-true, ne_eqb}
use Rattle.std.proofs.lemmas.List.Sums.{sum_by-append, sum_by-cons}
use Rattle.std.proofs.lemmas.List.Elements.{All-append}
use Rattle.mp_netlist.specs.Circuit.{Circuit}
use Rattle.mp_kernel.specs.events.Adding.{listed}
use Rattle.mp_simulation.specs.bits.Changes.{change_at}
use Rattle.mp_simulation.proofs.lemmas.bits.ListedLemmas.{listed_append}
use Rattle.mp_kernel.specs.declared.datapath.level_change.LevelChange.{LevelChange}
use Rattle.mp_simulation.specs.units.DataLevels.{changes_of}
use Rattle.mp_simulation.specs.declared.run.stimuli.StimulusChange.{StimulusChange}
use Rattle.mp_simulation.specs.run.Stimuli.{is_change, IsSetting}
use Rattle.mp_partition.specs.runs.Marks.{is_marked}
use Rattle.mp_partition.specs.regions.Regions.{partition_of}
use Rattle.mp_engine.specs.declared.messages.message.Window.{Window}
use Rattle.mp_engine.specs.messages.Messages.{AreTold, toggles_told, levels_told}
use Rattle.mp_engine.proofs.lemmas.messages.CountLemmas.{all_where, all_rest, none_counted}

-- ---- how often a wire is told

listed_next : (w x : ℕ) (xs : List ℕ) → listed w (x ∷ xs) ≡ cond (x == w) 1 0 + listed w xs
listed_next w x xs = sum_by-cons (λ d. cond (d == w) 1 0) x xs

changes_next : (w : ℕ) (c : LevelChange) (cs : List LevelChange) → changes_of w (c ∷ cs) ≡ cond (c.number == w) 1 0 + changes_of w cs
changes_next w c cs = sum_by-cons (λ (x : LevelChange). cond (x.number == w) 1 0) c cs

one_told : (w u time x : ℕ) (has : Bool) (l : ℕ) → count_by (is_change w u) (record { time = time; wire = x; has_data = has; level = l } ∷ []) ≡ cond (x == w && (time == u)) 1 0
one_told w u time x has l =
    let one = sum_by-cons (λ (s : StimulusChange). cond (is_change w u s) 1 0) (record { time = time; wire = x; has_data = has; level = l }) [] in
    omega arith

front : (w u time x : ℕ) (has : Bool) (l : ℕ) (is : Bool) → count_by (is_change w u) (cond is (record { time = time; wire = x; has_data = has; level = l } ∷ []) []) ≡ cond is (cond (x == w && (time == u)) 1 0) 0
front w u time x has l true = one_told w u time x has l
front w u time x has l false = refl

marked_sum : (is same_wire now marked : Bool) (k : ℕ) → (same_wire ≡ true → is ≡ marked) → now ≡ true →
    cond is (cond (same_wire && now) 1 0) 0 + cond marked k 0 ≡ cond marked (cond same_wire 1 0 + k) 0
marked_sum true true true true k same now = refl
marked_sum false true true false k same now = refl
marked_sum true true now false k same is = absurd (let no : ⊥ = (let e = same refl in cc) in no)
marked_sum false true now true k same is = absurd (let no : ⊥ = (let e = same refl in cc) in no)
marked_sum true false now true k same is = refl
marked_sum false false now true k same is = refl
marked_sum true false now false k same is = refl
marked_sum false false now false k same is = refl
marked_sum is same_wire false marked k same now = absurd (let no : ⊥ = cc in no)

pub toggles_counted : (heard : List Bool) (w time : ℕ) (ws : List ℕ) → count_by (is_change w time) (toggles_told heard time ws) ≡ cond (is_marked heard w) (listed w ws) 0
toggles_counted heard w time [] = none (is_marked heard w)
  where
    none : (b : Bool) → ◌≡◌ {A = ℕ} 0 (cond b 0 0)
    none true = refl
    none false = refl
toggles_counted heard w time (x ∷ ws) =
    sum_by-append (λ (s : StimulusChange). cond (is_change w time s) 1 0) (cond (is_marked heard x) (record { time = time; wire = x; has_data = false; level = 0 } ∷ []) []) (toggles_told heard time ws)
    ∙ ap (λ k. k + count_by (is_change w time) (toggles_told heard time ws)) (front w time time x false 0 (is_marked heard x))
    ∙ ap (λ k. cond (is_marked heard x) (cond (x == w && (time == time)) 1 0) 0 + k) (toggles_counted heard w time ws)
    ∙ marked_sum (is_marked heard x) (x == w) (time == time) (is_marked heard w) (listed w ws) (λ same. ap (is_marked heard) (eqb-true x w same)) (eq-eqb time time refl)
    ∙ sym (ap (λ k. cond (is_marked heard w) k 0) (listed_next w x ws))

pub levels_counted : (heard : List Bool) (w time : ℕ) (cs : List LevelChange) → count_by (is_change w time) (levels_told heard time cs) ≡ cond (is_marked heard w) (changes_of w cs) 0
levels_counted heard w time [] = none (is_marked heard w)
  where
    none : (b : Bool) → ◌≡◌ {A = ℕ} 0 (cond b 0 0)
    none true = refl
    none false = refl
levels_counted heard w time (c ∷ cs) =
    sum_by-append (λ (s : StimulusChange). cond (is_change w time s) 1 0) (cond (is_marked heard c.number) (record { time = time; wire = c.number; has_data = true; level = c.level } ∷ []) []) (levels_told heard time cs)
    ∙ ap (λ k. k + count_by (is_change w time) (levels_told heard time cs)) (front w time time c.number true c.level (is_marked heard c.number))
    ∙ ap (λ k. cond (is_marked heard c.number) (cond (c.number == w && (time == time)) 1 0) 0 + k) (levels_counted heard w time cs)
    ∙ marked_sum (is_marked heard c.number) (c.number == w) (time == time) (is_marked heard w) (changes_of w cs) (λ same. ap (is_marked heard) (eqb-true c.number w same)) (eq-eqb time time refl)
    ∙ sym (ap (λ k. cond (is_marked heard w) k 0) (changes_next w c cs))

-- ---- what holds of all that is told

pub toggles_all : (P : StimulusChange → Type 0) (heard : List Bool) (time : ℕ) (ws : List ℕ)
    → All (λ (w : ℕ). is_marked heard w ≡ true → P (record { time = time; wire = w; has_data = false; level = 0 })) ws → All P (toggles_told heard time ws)
toggles_all P heard time [] each = λ k d within. absurd (omega arith)
toggles_all P heard time (x ∷ xs) each =
    All-append P (cond (is_marked heard x) (record { time = time; wire = x; has_data = false; level = 0 } ∷ []) []) (toggles_told heard time xs)
    (all_where P (record { time = time; wire = x; has_data = false; level = 0 }) (is_marked heard x) (each zero x (omega arith)))
    (toggles_all P heard time xs (all_rest (λ (w : ℕ). is_marked heard w ≡ true → P (record { time = time; wire = w; has_data = false; level = 0 })) x xs each))

pub levels_all : (P : StimulusChange → Type 0) (heard : List Bool) (time : ℕ) (cs : List LevelChange)
    → All (λ (c : LevelChange). is_marked heard c.number ≡ true → P (record { time = time; wire = c.number; has_data = true; level = c.level })) cs → All P (levels_told heard time cs)
levels_all P heard time [] each = λ k d within. absurd (omega arith)
levels_all P heard time (x ∷ xs) each =
    All-append P (cond (is_marked heard x.number) (record { time = time; wire = x.number; has_data = true; level = x.level } ∷ []) []) (levels_told heard time xs)
    (all_where P (record { time = time; wire = x.number; has_data = true; level = x.level }) (is_marked heard x.number) (each zero x (omega arith)))
    (levels_all P heard time xs (all_rest (λ (c : LevelChange). is_marked heard c.number ≡ true → P (record { time = time; wire = c.number; has_data = true; level = c.level })) x xs each))

another_time : (w u : ℕ) (s : StimulusChange) → (s.time ≡ u → ⊥) → is_change w u s ≡ false
another_time w u s apart = rw (ne_eqb s.time u apart) (last_false (s.wire == w))
  where
    last_false : (b : Bool) → (b && false) ≡ false
    last_false true = refl
    last_false false = refl

-- ---- messages unit by unit, and messages together

none_within : (c : Bool) → ◌≡◌ {A = ℕ} 0 (cond c 0 0)
none_within true = refl
none_within false = refl

-- all is told, at a time, of the wires that are heard and that are at home in these parts
pub record AreToldAt (n : Circuit) (wires : List ℕ) (heard : List Bool) (bys : List ℕ) (time : ℕ) (ss : List StimulusChange) : Type 0 where
  pub now : All (λ (s : StimulusChange). s.time ≡ time) ss
  pub heard_alone : All (λ (s : StimulusChange). is_marked heard s.wire ≡ true) ss
  pub each : (w : ℕ) → count_by (is_change w time) ss ≡ cond (change_at n w time && is_marked heard w) (listed (partition_of wires w) bys) 0
  pub set : All (IsSetting n) ss

pub told_none : (n : Circuit) (wires : List ℕ) (heard : List Bool) (bys : List ℕ) (from : ℕ) → AreTold n wires heard bys (record { from = from; until = from }) []
told_none n wires heard bys from = record {
  later = λ k d within. absurd (omega arith);
  before = λ k d within. absurd (omega arith);
  heard_alone = λ k d within. absurd (omega arith);
  each = λ w u later before. absurd (omega (arith, later, before));
  set = λ k d within. absurd (omega arith);
}

pub told_next : (n : Circuit) (wires : List ℕ) (heard : List Bool) (bys : List ℕ) (from time : ℕ) (ss ts : List StimulusChange) → from ≤ time
    → AreTold n wires heard bys (record { from = from; until = time }) ss → AreToldAt n wires heard bys time ts → AreTold n wires heard bys (record { from = from; until = time + 1 }) (ss ++ ts)
told_next n wires heard bys from time ss ts some told now = record {
  later = All-append (λ (s : StimulusChange). from ≤ s.time) ss ts told.later (λ k d within. let at = now.now k d within in omega (arith, some, at));
  before = All-append (λ (s : StimulusChange). s.time < time + 1) ss ts (λ k d within. let low = told.before k d within in omega (arith, low)) (λ k d within. let at = now.now k d within in omega (arith, at));
  heard_alone = All-append (λ (s : StimulusChange). is_marked heard s.wire ≡ true) ss ts told.heard_alone now.heard_alone;
  each = λ w u later low. sum_by-append (λ (s : StimulusChange). cond (is_change w u s) 1 0) ss ts ∙ by w u later low (cases_eq u time);
  set = All-append (IsSetting n) ss ts told.set now.set;
}
  where
    by : (w u : ℕ) → from ≤ u → u < time + 1 → (u ≡ time) ⊎ (u ≢ time)
        → count_by (is_change w u) ss + count_by (is_change w u) ts ≡ cond (change_at n w u && is_marked heard w) (listed (partition_of wires w) bys) 0
    by w u later low (inl same) =
        let none : count_by (is_change w u) ss ≡ 0 = none_counted (is_change w u) ss (λ k d within. another_time w u (slice_index_or ss k d) (λ at. let before = told.before k d within in omega (arith, before, at, same))) in
        let all : count_by (is_change w u) ts ≡ cond (change_at n w u && is_marked heard w) (listed (partition_of wires w) bys) 0 =
        subst (λ v. count_by (is_change w v) ts ≡ cond (change_at n w v && is_marked heard w) (listed (partition_of wires w) bys) 0) (sym same) (now.each w) in
        omega (arith, none, all)
    by w u later low (inr apart) =
        let before : u < time = omega (arith, low, apart) in
        let none : count_by (is_change w u) ts ≡ 0 = none_counted (is_change w u) ts (λ k d within. another_time w u (slice_index_or ts k d) (λ at. let here = now.now k d within in omega (arith, before, at, here))) in
        let first = told.each w u later before in
        omega (arith, none, first)

both_lists : (c : Bool) (j k l : ℕ) → l ≡ j + k → cond c j 0 + cond c k 0 ≡ cond c l 0
both_lists true j k l same = sym same
both_lists false j k l same = refl

pub told_more : (n : Circuit) (wires : List ℕ) (heard : List Bool) (bys more : List ℕ) (window : Window) (ss ts : List StimulusChange)
    → AreTold n wires heard bys window ss → AreTold n wires heard more window ts → AreTold n wires heard (bys ++ more) window (ss ++ ts)
told_more n wires heard bys more window ss ts first second = record {
  later = All-append (λ (s : StimulusChange). window.from ≤ s.time) ss ts first.later second.later;
  before = All-append (λ (s : StimulusChange). s.time < window.until) ss ts first.before second.before;
  heard_alone = All-append (λ (s : StimulusChange). is_marked heard s.wire ≡ true) ss ts first.heard_alone second.heard_alone;
  each = λ w u later low.
      sum_by-append (λ (s : StimulusChange). cond (is_change w u s) 1 0) ss ts
      ∙ ap (λ k. k + count_by (is_change w u) ts) (first.each w u later low)
      ∙ ap (λ k. cond (change_at n w u && is_marked heard w) (listed (partition_of wires w) bys) 0 + k) (second.each w u later low)
      ∙ both_lists (change_at n w u && is_marked heard w) (listed (partition_of wires w) bys) (listed (partition_of wires w) more) (listed (partition_of wires w) (bys ++ more)) (listed_append (partition_of wires w) bys more);
  set = All-append (IsSetting n) ss ts first.set second.set;
}

-- no lines tell nothing
pub told_by_none : (n : Circuit) (wires : List ℕ) (heard : List Bool) (window : Window) → AreTold n wires heard [] window []
told_by_none n wires heard window = record {
  later = λ k d within. absurd (omega arith);
  before = λ k d within. absurd (omega arith);
  heard_alone = λ k d within. absurd (omega arith);
  each = λ w u later low. none_within (change_at n w u && is_marked heard w);
  set = λ k d within. absurd (omega arith);
}
