-- What a C and a REG hold while two of their inputs differ.
use Rattle.std.proofs.Common.{◌≡◌, ◌≢◌, ℕ, ◌+◌, ◌-◌, ◌<◌, ◌^◌, Bool, true, false, not, cond, ◌==◌, List, slice_index, get_or, length, Option, Some, zero, suc, refl, sym, ap, subst, ◌∙◌, add-one, arith}
use Rattle.std.specs.Prelude.{unwrap_or}
use Rattle.std.proofs.lemmas.Bool.{eqb-true, eqb-false}
use Rattle.mp_modules.specs.declared.kind.Kind.{Kind}
use Rattle.mp_modules.specs.declared.kind.Kind.TheVariants as kinds
use Rattle.mp_modules.specs.declared.memory.Memory.{Memory}
use Rattle.mp_modules.specs.CElement.{bubbled}
use Rattle.mp_modules.specs.Kinds.{input_count, input_width}
use Rattle.mp_modules.specs.Memories.{output_of}
use Rattle.mp_modules.specs.Tables.{rendezvous}
use Rattle.mp_modules.specs.storage.AnyModules.{any_part_of, settle, step}
use Rattle.mp_records.specs.declared.module_record.ModuleRecord.{ModuleRecord}
use Rattle.mp_records.specs.declared.ports.Input.{Input}
use Rattle.mp_records.specs.Inputs.{no_input}
use Rattle.mp_netlist.specs.Circuit.{Circuit, IsCircuit, IsModule, module_at, module_width}
use Rattle.mp_model.specs.Levels.{input_by, inputs_by}
use Rattle.mp_model.specs.Waves.{level, state}
use Rattle.mp_model.proofs.BehaviourLemmas.{satisfies}
use Rattle.mp_model.proofs.InputLemmas.{input_is}
use Rattle.mp_model.proofs.LevelFitLemmas.{level_fits}
use Rattle.mp_questions.specs.timing.Events.{last_event, since}
use Rattle.mp_questions.specs.timing.TimingLaws.{first_level, second_level}
use Rattle.mp_questions.specs.timing.Waits.{apart, given, heard}
use Rattle.mp_questions.proofs.lemmas.timing.ApartLemmas.{held_is}
use Rattle.mp_questions.proofs.lemmas.timing.EarLemmas.{map_at}
use Rattle.mp_questions.proofs.lemmas.timing.EventLemmas.{same_true, same_false}

-- ---- bubbles leave open since when levels of width 1 differ

same_kept : (p q : ℕ) → p < 2 → q < 2 → (1 - p == 1 - q) ≡ (p == q)
same_kept p q low_p low_q = by (p == q) refl
  where
    by : (b : Bool) → (p == q) ≡ b → (1 - p == 1 - q) ≡ b
    by true is = same_true (1 - p) (1 - q) (ap (λ v. 1 - v) (eqb-true p q is))
    by false is = let differ = eqb-false p q is in same_false (1 - p) (1 - q) (λ same. absurd (omega arith))

first_turned : (p q : ℕ) → p < 2 → q < 2 → (1 - p == q) ≡ not (p == q)
first_turned p q low_p low_q = by (p == q) refl
  where
    by : (b : Bool) → (p == q) ≡ b → (1 - p == q) ≡ not b
    by true is = let same = eqb-true p q is in same_false (1 - p) q (λ other. absurd (omega arith))
    by false is = let differ = eqb-false p q is in same_true (1 - p) q (omega arith)

second_turned : (p q : ℕ) → p < 2 → q < 2 → (p == 1 - q) ≡ not (p == q)
second_turned p q low_p low_q = by (p == q) refl
  where
    by : (b : Bool) → (p == q) ≡ b → (p == 1 - q) ≡ not b
    by true is = let same = eqb-true p q is in same_false p (1 - q) (λ other. absurd (omega arith))
    by false is = let differ = eqb-false p q is in same_true p (1 - q) (omega arith)

turned_test : (t s : Bool) → (cond (not t) 0 1 == cond (not s) 0 1) ≡ (cond t 0 1 == cond s 0 1)
turned_test true true = refl
turned_test true false = refl
turned_test false true = refl
turned_test false false = refl

alike : (h k : ℕ → ℕ) → ((u : ℕ) → (h u == h (suc u)) ≡ (k u == k (suc u))) → (t : ℕ) → last_event h t ≡ last_event k t
alike h k same zero = refl
alike h k same (suc t) =
    ap (λ b. cond (not b) (Some (suc t)) (last_event h t)) (same t) ∙ ap (λ (o : Option ℕ). cond (not (k t == k (suc t))) (Some (suc t)) o) (alike h k same t)

module _ (f g : ℕ → ℕ) (bits_f : (t : ℕ) → f t < 2) (bits_g : (t : ℕ) → g t < 2) where
  by_tests : (h : ℕ → Bool) → ((u : ℕ) → h u ≡ (f u == g u)) → (u : ℕ) → (cond (h u) 0 1 == cond (h (suc u)) 0 1) ≡ (apart f g u == apart f g (suc u))
  by_tests h same u = ap (λ b. cond b 0 1 == cond (h (suc u)) 0 1) (same u) ∙ ap (λ b. apart f g u == cond b 0 1) (same (suc u))

  by_turned : (h : ℕ → Bool) → ((u : ℕ) → h u ≡ not (f u == g u)) → (u : ℕ) → (cond (h u) 0 1 == cond (h (suc u)) 0 1) ≡ (apart f g u == apart f g (suc u))
  by_turned h same u =
      ap (λ b. cond b 0 1 == cond (h (suc u)) 0 1) (same u) ∙ ap (λ b. cond (not (f u == g u)) 0 1 == cond b 0 1) (same (suc u)) ∙ turned_test (f u == g u) (f (suc u) == g (suc u))

  tests : (a b : Bool) (u : ℕ) → (apart (λ t. bubbled a (f t)) (λ t. bubbled b (g t)) u == apart (λ t. bubbled a (f t)) (λ t. bubbled b (g t)) (suc u)) ≡ (apart f g u == apart f g (suc u))
  tests false false u = refl
  tests true true u = by_tests (λ t. 1 - f t == 1 - g t) (λ t. same_kept (f t) (g t) (bits_f t) (bits_g t)) u
  tests true false u = by_turned (λ t. 1 - f t == g t) (λ t. first_turned (f t) (g t) (bits_f t) (bits_g t)) u
  tests false true u = by_turned (λ t. f t == 1 - g t) (λ t. second_turned (f t) (g t) (bits_f t) (bits_g t)) u

  pub since_behind : (a b : Bool) (t : ℕ) → since (apart (λ u. bubbled a (f u)) (λ u. bubbled b (g u))) t ≡ since (apart f g) t
  since_behind a b t = ap (λ (o : Option ℕ). unwrap_or o 0) (alike (apart (λ u. bubbled a (f u)) (λ u. bubbled b (g u))) (apart f g) (tests a b) t)

-- ---- inputs of width 1

module _ (n : Circuit) (ok : IsCircuit n) (r : ModuleRecord) (form : IsModule n r) where
  narrow : (p : ℕ) → p < length r.inputs → input_width r.kind (module_width n r) p ≡ 1 → (t : ℕ) → heard n r p t < 2
  narrow p within one t =
      let i = get_or r.inputs p no_input in
      let wide = (form.reads p no_input within).1 ∙ one in
      let low : level n i.wire.0 (t - i.delay) < 2 ^ 1 = subst (λ w. level n i.wire.0 (t - i.delay) < 2 ^ w) wide (level_fits n ok i.wire.0 (t - i.delay)) in
      let is : heard n r p t ≡ level n i.wire.0 (t - i.delay) = map_at (λ (j : Input). input_by n (level n) j t) r.inputs p no_input within ∙ input_is n ok i t in
      subst (λ v. v < 2) (sym is) low

  pub first_of_c : r.kind ≡ kinds.C → (t : ℕ) → heard n r 0 t < 2
  first_of_c kind t =
      let count : length r.inputs ≡ 2 = form.inputs ∙ ap input_count kind in narrow 0 (omega (arith, count)) (ap (λ (k : Kind). input_width k (module_width n r) 0) kind) t

  pub second_of_c : r.kind ≡ kinds.C → (t : ℕ) → heard n r 1 t < 2
  second_of_c kind t =
      let count : length r.inputs ≡ 2 = form.inputs ∙ ap input_count kind in narrow 1 (omega (arith, count)) (ap (λ (k : Kind). input_width k (module_width n r) 1) kind) t

  pub second_of_reg : r.kind ≡ kinds.Reg → (t : ℕ) → heard n r 1 t < 2
  second_of_reg kind t =
      let count : length r.inputs ≡ 3 = form.inputs ∙ ap input_count kind in narrow 1 (omega (arith, count)) (ap (λ (k : Kind). input_width k (module_width n r) 1) kind) t

  pub third_of_reg : r.kind ≡ kinds.Reg → (t : ℕ) → heard n r 2 t < 2
  third_of_reg kind t =
      let count : length r.inputs ≡ 3 = form.inputs ∙ ap input_count kind in narrow 2 (omega (arith, count)) (ap (λ (k : Kind). input_width k (module_width n r) 2) kind) t

-- ---- the output of a C and of a REG

abbrev c_out : List ℕ → List ℕ → ℕ → ℕ
c_out params x former =
    let a = bubbled (rendezvous params).bubble_a (slice_index x 0) in
    cond (a == bubbled (rendezvous params).bubble_b (slice_index x 1)) a former

c_first : (params : List ℕ) (width : ℕ) (x : List ℕ) → output_of (settle (any_part_of kinds.C params width) x) 0 ≡ c_out params x (cond (rendezvous params).initial 1 0)
unfolding any_part_of settle
c_first params width x = refl

c_next : (params : List ℕ) (width : ℕ) (s : Memory) (x : List ℕ) → output_of (step (any_part_of kinds.C params width) s x) 0 ≡ c_out params x (output_of s 0)
unfolding any_part_of step
c_next params width s x = refl

abbrev reg_out : List ℕ → ℕ → ℕ
reg_out x former = cond (slice_index x 1 == slice_index x 2) (slice_index x 0) former

reg_first : (params : List ℕ) (width : ℕ) (x : List ℕ) → output_of (settle (any_part_of kinds.Reg params width) x) 0 ≡ reg_out x (slice_index params 0)
unfolding any_part_of settle
reg_first params width x = refl

reg_next : (params : List ℕ) (width : ℕ) (s : Memory) (x : List ℕ) → output_of (step (any_part_of kinds.Reg params width) s x) 0 ≡ reg_out x (output_of s 0)
unfolding any_part_of step
reg_next params width s x = refl

module _ (n : Circuit) (m : ℕ) (r : ModuleRecord) (ok : IsCircuit n) (at : module_at n m ≡ Some r) where
  abbrev x : ℕ → List ℕ
  x t = inputs_by n (level n) r t

  first_of : (k : Kind) → r.kind ≡ k → given n m 0 0 ≡ output_of (settle (any_part_of k r.params (module_width n r)) (x 0)) 0
  first_of k kind = ap (λ (s : Memory). output_of s 0) ((satisfies n ok).settled m r at) ∙ ap (λ (j : Kind). output_of (settle (any_part_of j r.params (module_width n r)) (x 0)) 0) kind

  next_of : (k : Kind) → r.kind ≡ k → (u : ℕ) → given n m 0 (suc u) ≡ output_of (step (any_part_of k r.params (module_width n r)) (state n m u) (x (suc u))) 0
  next_of k kind u =
      subst (λ v. given n m 0 v ≡ output_of (step (any_part_of k r.params (module_width n r)) (state n m u) (x v)) 0) (add-one u)
      (ap (λ (s : Memory). output_of s 0) ((satisfies n ok).stepped m u r at) ∙ ap (λ (j : Kind). output_of (step (any_part_of j r.params (module_width n r)) (state n m u) (x (u + 1))) 0) kind)

  pub c_output : r.kind ≡ kinds.C → (t : ℕ) → first_level n r t ≢ second_level n r t → (s out : ℕ) → s ≡ since (apart (first_level n r) (second_level n r)) t
      → (s ≡ 0 → out ≡ cond (rendezvous r.params).initial 1 0) → ((e : ℕ) → s ≡ suc e → out ≡ first_level n r e) → out ≡ given n m 0 t
  c_output kind =
      held_is (given n m 0) (first_level n r) (second_level n r) (first_level n r) (cond (rendezvous r.params).initial 1 0) (first_of kinds.C kind ∙ c_first r.params (module_width n r) (x 0))
      (λ u. next_of kinds.C kind u ∙ c_next r.params (module_width n r) (state n m u) (x (suc u)))

  pub reg_output : r.kind ≡ kinds.Reg → (t : ℕ) → heard n r 1 t ≢ heard n r 2 t → (s out : ℕ) → s ≡ since (apart (heard n r 1) (heard n r 2)) t
      → (s ≡ 0 → out ≡ slice_index r.params 0) → ((e : ℕ) → s ≡ suc e → out ≡ heard n r 0 e) → out ≡ given n m 0 t
  reg_output kind =
      held_is (given n m 0) (heard n r 1) (heard n r 2) (heard n r 0) (slice_index r.params 0) (first_of kinds.Reg kind ∙ reg_first r.params (module_width n r) (x 0))
      (λ u. next_of kinds.Reg kind u ∙ reg_next r.params (module_width n r) (state n m u) (x (suc u)))
