-- The changes that all stimuli set, by time.
use Rattle.std.proofs.Common.{◌≡◌, ◌≢◌, ℕ, zero, suc, ◌+◌, ◌<◌, ◌≤◌, Bool, true, false, cond, List, [], ◌∷◌, ◌++◌, Option, Some, None, is_some, unwrap_or, All, length, map, nat_lt, refl, sym, ap, ◌∙◌, arith, subst, inl, inr}
use Rattle.std.specs.Prelude.{◌==◌, ◌&&◌, slice_index_or}
use Rattle.std.specs.List.{count_by}
use Rattle.std.specs.List.Sorted.{IsNonDecreasingBy, IsPermutation}
use Rattle.std.proofs.lemmas.Bool.{cases_lt, cases_eq, eq-eqb, ne_eqb}
use Rattle.std.proofs.lemmas.Bool.Decides.{nat_tests}
use Rattle.std.proofs.lemmas.List.{get_or_past}
use Rattle.std.proofs.lemmas.List.Elements.{All-map}
use Rattle.std.proofs.lemmas.List.Sums.{sum_by-append, sum_by-cons}
use Rattle.std.proofs.lemmas.List.Sorted.{sum_by-IsPermutation, All-permutation}
use Rattle.mp_netlist.specs.Circuit.{Circuit, IsCircuit, wire_at, stimulus_at, stimulus_in}
use Rattle.mp_netlist.specs.Drivers.{driver}
use Rattle.mp_netlist.proofs.DriverLemmas.{stimulus_drives}
use Rattle.mp_model.specs.Levels.{initial_of, stimulus_level, driven_level}
use Rattle.mp_model.specs.Waves.{level, state}
use Rattle.mp_model.proofs.BehaviourLemmas.{satisfies}
use Rattle.mp_modules.specs.automata.Codes.{bit}
use Rattle.mp_simulation.specs.bits.Changes.{change_at}
use Rattle.mp_simulation.specs.bits.WholeRuns.{is_stimulus}
use Rattle.mp_simulation.specs.units.DataLevels.{is_data}
use Rattle.mp_simulation.specs.declared.run.stimuli.StimulusChange.{StimulusChange}
use Rattle.mp_simulation.specs.run.Stimuli.{change_of, set_changes, AreFrom, is_change, IsSetting, AreAhead}
use Rattle.mp_simulation.proofs.lemmas.run.StimulusLemmas.{no_stimulus, not_set, plus_none, rises_at, set_levels, timed, timed_cons, times_change, times_of}

-- ---- the changes of all wires

-- the changes of the wires below a number are listed, each once
pub record AreBelow (n : Circuit) (wires : ℕ) (ss : List StimulusChange) : Type 0 where
  pub later : All (λ (s : StimulusChange). 0 < s.time) ss
  pub set : All (IsSetting n) ss
  pub each : (w u : ℕ) → 0 < u → count_by (is_change w u) ss ≡ bit (nat_lt w wires && (change_at n w u && is_stimulus (driver n w)))

none_yet : (c : Bool) (w : ℕ) → 0 ≡ bit (nat_lt w 0 && c)
none_yet c w = let test : nat_lt w 0 ≡ false = grind (arith, nat_tests) in sym (ap (λ b. bit (b && c)) test)

pub below_none : (n : Circuit) → AreBelow n 0 []
below_none n = record { later = λ k d within. absurd (omega arith); set = λ k d within. absurd (omega arith); each = λ w u some. none_yet (change_at n w u && is_stimulus (driver n w)) w }

counted_own : (w u : ℕ) (has : Bool) (cs : List (ℕ × ℕ)) → count_by (is_change w u) (map (change_of w has) cs) ≡ timed u cs
counted_own w u has [] = refl
counted_own w u has (c ∷ cs) =
    sum_by-cons (λ (s : StimulusChange). cond (is_change w u s) 1 0) (change_of w has c) (map (change_of w has) cs)
    ∙ ap (λ b. cond (b && (c.0 == u)) 1 0 + count_by (is_change w u) (map (change_of w has) cs)) (eq-eqb w w refl)
    ∙ ap (λ k. bit (c.0 == u) + k) (counted_own w u has cs)
    ∙ sym (timed_cons u c cs)

counted_other : (w v u : ℕ) (has : Bool) (cs : List (ℕ × ℕ)) → w ≢ v → count_by (is_change v u) (map (change_of w has) cs) ≡ 0
counted_other w v u has [] other = refl
counted_other w v u has (c ∷ cs) other =
    sum_by-cons (λ (s : StimulusChange). cond (is_change v u s) 1 0) (change_of w has c) (map (change_of w has) cs)
    ∙ ap (λ b. cond (b && (c.0 == u)) 1 0 + count_by (is_change v u) (map (change_of w has) cs)) (ne_eqb w v other)
    ∙ ap (λ k. 0 + k) (counted_other w v u has cs other)

-- what is set by the stimulus of a wire
all_set : (n : Circuit) → IsCircuit n → (w : ℕ) → All (λ (c : ℕ × ℕ). (0 < c.0) × (level n w c.0 ≡ c.1)) (times_of n w)
all_set n ok w = by (stimulus_at n w) refl
  where
    by : (set : Option (List (ℕ × ℕ))) → stimulus_at n w ≡ set → All (λ (c : ℕ × ℕ). (0 < c.0) × (level n w c.0 ≡ c.1)) (set_changes (initial_of (wire_at n w)) (unwrap_or set []))
    by None is k d within = absurd (omega arith)
    by (Some changes) is k d within =
        let drives = stimulus_drives n ok w (ap is_some is) in
        let c = slice_index_or (set_changes (initial_of (wire_at n w)) changes) k d in
        let has = set_levels (initial_of (wire_at n w)) 0 changes (rises_at n ok w changes is) k d within in (
          has.0,
          (satisfies n ok).levels w c.0 ∙ ap (λ d. driven_level d n (state n) w c.0) drives ∙ ap (λ s. stimulus_level s (initial_of (wire_at n w)) c.0) is ∙ has.1,
        )

mapped_later : (w : ℕ) (has : Bool) (P : ℕ × ℕ → Type 0) (cs : List (ℕ × ℕ)) → All P cs → (Q : StimulusChange → Type 0) → ((c : ℕ × ℕ) → P c → Q (change_of w has c)) → All Q (map (change_of w has) cs)
mapped_later w has P cs all Q each = All-map Q (change_of w has) cs (λ k d within. each (slice_index_or cs k d) (all k d within))

one_more : (a b c : Bool) → b ≡ false → a ≡ true → bit (b && c) + bit c ≡ bit (a && c)
one_more a b c none all = ap (λ x. bit (x && c) + bit c) none ∙ plus_none 0 (bit c) refl ∙ sym (ap (λ x. bit (x && c)) all)

pub below_next : (n : Circuit) → IsCircuit n → (w : ℕ) (ss : List StimulusChange) → AreBelow n w ss → AreBelow n (w + 1) (ss ++ map (change_of w (is_data n w)) (times_of n w))
below_next n ok w ss are = record {
  later = all_both (λ (s : StimulusChange). 0 < s.time) ss (map (change_of w (is_data n w)) (times_of n w)) are.later
      (mapped_later w (is_data n w) (λ (c : ℕ × ℕ). (0 < c.0) × (level n w c.0 ≡ c.1)) (times_of n w) (all_set n ok w) (λ (s : StimulusChange). 0 < s.time) (λ c is. is.0));
  set = all_both (IsSetting n) ss (map (change_of w (is_data n w)) (times_of n w)) are.set
      (mapped_later w (is_data n w) (λ (c : ℕ × ℕ). (0 < c.0) × (level n w c.0 ≡ c.1)) (times_of n w) (all_set n ok w) (IsSetting n) (λ c is. record { sort = refl; level = λ has. sym is.1 }));
  each = λ v u some.
      sum_by-append (λ (s : StimulusChange). cond (is_change v u s) 1 0) ss (map (change_of w (is_data n w)) (times_of n w))
      ∙ ap (λ k. k + count_by (is_change v u) (map (change_of w (is_data n w)) (times_of n w))) (are.each v u some)
      ∙ elim (cases_eq w v) as (λ _. bit (nat_lt v w && (change_at n v u && is_stimulus (driver n v))) + count_by (is_change v u) (map (change_of w (is_data n w)) (times_of n w)) ≡
      bit (nat_lt v (w + 1) && (change_at n v u && is_stimulus (driver n v)))) [
        | inl same ↦
            let none : nat_lt v w ≡ false = grind (arith, nat_tests) in
            let all : nat_lt v (w + 1) ≡ true = grind (arith, nat_tests) in
            let own : count_by (is_change v u) (map (change_of w (is_data n w)) (times_of n w)) ≡ bit (change_at n v u && is_stimulus (driver n v)) =
            subst (λ x. count_by (is_change x u) (map (change_of w (is_data n w)) (times_of n w)) ≡ bit (change_at n x u && is_stimulus (driver n x))) same (counted_own w u (is_data n w) (times_of n w) ∙ times_change n ok w u some) in
            ap (λ k. bit (nat_lt v w && (change_at n v u && is_stimulus (driver n v))) + k) own
            ∙ one_more (nat_lt v (w + 1)) (nat_lt v w) (change_at n v u && is_stimulus (driver n v)) none all
        | inr other ↦
            let test : nat_lt v (w + 1) ≡ nat_lt v w = grind (arith, nat_tests, other) in
            let none = counted_other w v u (is_data n w) (times_of n w) other in
            let still = ap (λ b. bit (b && (change_at n v u && is_stimulus (driver n v)))) test in
            omega arith
      ];
}
  where
    all_both : (P : StimulusChange → Type 0) (xs ys : List StimulusChange) → All P xs → All P ys → All P (xs ++ ys)
    all_both P [] ys first second k d within = second k d within
    all_both P (x ∷ xs) ys first second zero d within = first 0 d (omega arith)
    all_both P (x ∷ xs) ys first second (suc k) d within = all_both P xs ys (λ j e low. first (suc j) e (omega arith)) second k d (omega arith)

-- ---- by time

pub in_order : (u : ℕ) (ss : List StimulusChange) → All (λ (s : StimulusChange). u ≤ s.time) ss → IsNonDecreasingBy (λ (s : StimulusChange). s.time) ss → AreFrom u ss
in_order u [] later sorted = tt
in_order u (s ∷ ss) later sorted = (
  later 0 s (omega arith),
  in_order s.time ss (λ i d within. sorted 0 (suc i) d (omega arith) (omega (arith, within))) (λ i j d le within. sorted (suc i) (suc j) d (omega (arith, le)) (omega (arith, within))),
)

only_wires : (n : Circuit) → IsCircuit n → (w u : ℕ) → bit (nat_lt w (length n.wires) && (change_at n w u && is_stimulus (driver n w))) ≡ bit (change_at n w u && is_stimulus (driver n w))
only_wires n ok w u = elim (cases_lt w (length n.wires)) as (λ _. bit (nat_lt w (length n.wires) && (change_at n w u && is_stimulus (driver n w))) ≡ bit (change_at n w u && is_stimulus (driver n w))) [
  | inl within ↦ let test : nat_lt w (length n.wires) ≡ true = grind (arith, nat_tests) in ap (λ b. bit (b && (change_at n w u && is_stimulus (driver n w)))) test
  | inr past ↦
      let none : stimulus_at n w ≡ None = ap stimulus_in (get_or_past n.wires w None past) in
      let not_driven = not_set (change_at n w u) (is_stimulus (driver n w)) (no_stimulus n ok w none) in
      let test : nat_lt w (length n.wires) ≡ false = grind (arith, nat_tests) in
      ap (λ b. bit (b && (change_at n w u && is_stimulus (driver n w)))) test ∙ sym not_driven
]

pub changes_sorted : (n : Circuit) → IsCircuit n → (ss sorted : List StimulusChange) → AreBelow n (length n.wires) ss → IsPermutation ss sorted →
    IsNonDecreasingBy (λ (s : StimulusChange). s.time) sorted → AreAhead n 0 sorted
changes_sorted n ok ss sorted are permutation order = record {
  listed = in_order 1 sorted (λ k d within. let low = All-permutation (λ (s : StimulusChange). 0 < s.time) ss sorted permutation are.later k d within in omega (arith, low)) order;
  each = λ w u some. sum_by-IsPermutation (λ (s : StimulusChange). cond (is_change w u s) 1 0) ss sorted permutation ∙ are.each w u some ∙ only_wires n ok w u;
  set = All-permutation (IsSetting n) ss sorted permutation are.set;
}
