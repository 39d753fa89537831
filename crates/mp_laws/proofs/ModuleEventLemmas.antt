-- What an XOR and a C of a netlist do with events.
use Rattle.std.proofs.Common.{◌≡◌, ◌≢◌, ◌↔◌, ◌⊎◌, ⊎_elim, inl, inr, ℕ, zero, suc, ◌+◌, ◌-◌, ◌^◌, ◌<◌, ◌≤◌, ◌==◌, Bool, true, false, not, cond, ◌&&◌, List, length, Some, refl, sym, ap, subst, ◌∙◌, add-one, eq-eqb, true≢false, arith, slice_index, slice_index_or}
use Rattle.std.specs.Prelude.{IsTrue}
use Rattle.std.specs.List.{Contains}
use Rattle.std.proofs.lemmas.Bool.{cases_Bool, cases_lt, eqb-true, le-ltb, or_parts}
use Rattle.std.proofs.lemmas.Bool.Decides.{nat_tests}
use Rattle.std.proofs.lemmas.List.{get_or-map, get_or_past, length-map}
use Rattle.mp_modules.specs.declared.core_module.CoreModule.{CoreModule}
use Rattle.mp_modules.specs.declared.core_module.CoreModule.TheVariants as core
use Rattle.mp_modules.specs.declared.finding_code.FindingCode.TheVariants.{Withdrawn}
use Rattle.mp_modules.specs.declared.kind.Kind.{Kind}
use Rattle.mp_modules.specs.declared.kind.Kind.TheVariants as kinds
use Rattle.mp_modules.specs.declared.function.Function.TheVariants.{Xor}
use Rattle.mp_modules.specs.declared.memory.Memory.{Memory}
use Rattle.mp_modules.specs.declared.rendezvous.Rendezvous.{Rendezvous}
use Rattle.mp_modules.specs.CElement.{bubbled, joined, is_withdrawn, is_withdrawn_at}
use Rattle.mp_modules.specs.Findings.{has_code, no_findings, with_code_if}
use Rattle.mp_modules.specs.Histories.{has_event, events}
use Rattle.mp_modules.specs.Kinds.{input_width}
use Rattle.mp_modules.specs.Memories.{input_levels, output_of}
use Rattle.mp_modules.specs.Tables as tables
use Rattle.mp_modules.specs.Tables.{rendezvous, first_output}
use Rattle.mp_modules.specs.declared.storage.any_module.AnyModule.{AnyModule}
use Rattle.mp_modules.specs.declared.storage.any_module.AnyModule.TheVariants.{Core}
use Rattle.mp_modules.specs.storage.AnyModules.{any_part_of, settle, step, found}
use Rattle.mp_records.specs.declared.module_record.ModuleRecord.{ModuleRecord}
use Rattle.mp_records.specs.Inputs.{no_input}
use Rattle.mp_netlist.specs.Circuit.{Circuit, IsCircuit, module_at, module_width}
use Rattle.mp_model.specs.Levels.{built, input_by, inputs_by}
use Rattle.mp_model.specs.Waves.{level, state}
use Rattle.mp_model.specs.Findings.{module_place, findings}
use Rattle.mp_model.proofs.BehaviourLemmas.{satisfies}
use Rattle.mp_model.proofs.FindingLemmas.{finds_by_rule}
use Rattle.mp_model.proofs.InputLemmas.{input_is}
use Rattle.mp_model.proofs.LevelFitLemmas.{level_fits}
use Rattle.mp_laws.specs.ModuleEvents.{input, output, MergesEvents, FindsNothingAt, waiting, CountsEvents, JoinsEvents, AgreeFirst, KeepsPace}

abbrev bit : Bool → ℕ
bit b = cond b 1 0

-- 1 where two levels differ
abbrev gap : ℕ → ℕ → ℕ
gap a b = cond (a == b) 0 1

-- ---- a level that follows another, behind its bubble

unit : (former now before after : ℕ) → (now ≡ former) ⊎ (now ≡ after) → (not (before == after) && not (before == former)) ≡ false
    → bit (not (former == now)) + gap after now ≡ bit (not (before == after)) + gap before former
unit former now before after (inl same) calm = grind (arith, nat_tests)
unit former now before after (inr same) calm = grind (arith, nat_tests)

both_bubbled : (a b : ℕ) → a < 2 → b < 2 → (1 - a == 1 - b) ≡ (a == b)
both_bubbled a b low other = grind (arith, nat_tests)

same_test : (bubble : Bool) (a b : ℕ) → a < 2 → b < 2 → (bubbled bubble a == bubbled bubble b) ≡ (a == b)
same_test true a b low other = both_bubbled a b low other
same_test false a b low other = refl

module _ (out level : ℕ → ℕ) (bubble : Bool) (low : (t : ℕ) → level t < 2) where
  abbrev Follows : ℕ → Type 0
  Follows t = (out (suc t) ≡ out t) ⊎ (out (suc t) ≡ bubbled bubble (level (suc t)))

  -- it does not change where it waited
  abbrev IsCalm : ℕ → Type 0
  IsCalm t = (not (level t == level (suc t)) && not (bubbled bubble (level t) == out t)) ≡ false

  counted : (t : ℕ) → ((u : ℕ) → u < t → Follows u) → ((u : ℕ) → u < t → IsCalm u)
      → events out t + gap (bubbled bubble (level t)) (out t) ≡ events level t + gap (bubbled bubble (level 0)) (out 0)
  counted zero follows calm = refl
  counted (suc t) follows calm =
      let earlier = counted t (λ u below. follows u (omega arith)) (λ u below. calm u (omega arith)) in
      let same = same_test bubble (level t) (level (suc t)) (low t) (low (suc t)) in
      let still = ap (λ (test : Bool). not test && not (bubbled bubble (level t) == out t)) same ∙ calm t (omega arith) in
      let here = unit (out t) (out (suc t)) (bubbled bubble (level t)) (bubbled bubble (level (suc t))) (follows t (omega arith)) still in
      let change = ap (λ (test : Bool). bit (not test)) same in
      omega arith

-- ---- two levels and whether they differ

abbrev differ : Bool → Bool → Bool
differ p q = cond p (not q) q

differ_says : (p q : Bool) → IsTrue (differ p q) ↔ (p ≢ q)
differ_says true true = (λ fails. absurd (true≢false (sym fails)), λ other. absurd (other refl))
differ_says true false = (λ _. true≢false, λ _. refl)
differ_says false true = (λ _. λ same. true≢false (sym same), λ _. refl)
differ_says false false = (λ fails. absurd (true≢false (sym fails)), λ other. absurd (other refl))

-- 1 where two levels differ, as an XOR gives it
abbrev merged : List ℕ → ℕ
merged x = bit (not (slice_index x 0 == slice_index x 1))

-- the levels of two inputs differ anew exactly where one of them changes
differ_anew : (a b c d : ℕ) → a < 2 → b < 2 → c < 2 → d < 2 → not (bit (not (a == b)) == bit (not (c == d))) ≡ differ (not (a == c)) (not (b == d))
differ_anew a b c d low_a low_b low_c low_d = grind (arith, nat_tests)

-- ---- a module of a netlist over time

module _ (n : Circuit) (ok : IsCircuit n) (m : ℕ) (r : ModuleRecord) (at : module_at n m ≡ Some r) where
  abbrev x : ℕ → List ℕ
  x t = inputs_by n (level n) r t

  low_inputs : ((p : ℕ) → input_width r.kind (module_width n r) p ≡ 1) → (p t : ℕ) → input n r p t < 2
  low_inputs narrow p t = ⊎_elim within past (cases_lt p (length r.inputs))
    where
      past : length r.inputs ≤ p → input n r p t < 2
      past over =
          let none = get_or_past (x t) p 0 (omega (arith, length-map r.inputs (λ i. input_by n (level n) i t), over)) in
          omega (arith, none)

      within : p < length r.inputs → input n r p t < 2
      within below =
          let i = slice_index_or r.inputs p no_input in
          let is = get_or-map (λ i. input_by n (level n) i t) r.inputs p no_input 0 below ∙ input_is n ok i t in
          let fits = level_fits n ok i.wire.0 (t - i.delay) in
          let width = ((ok.modules_ok m r at).reads p no_input below).1 ∙ narrow p in
          let few : level n i.wire.0 (t - i.delay) < 2 = subst (λ k. level n i.wire.0 (t - i.delay) < 2 ^ k) width fits in
          omega (arith, few, is)

  module _ (part : CoreModule) (is : built n r ≡ Core part) where
    first_state : state n m 0 ≡ tables.settle part (x 0)
    unfolding settle
    first_state = (satisfies n ok).settled m r at ∙ ap (λ (b : AnyModule). settle b (x 0)) is

    next_state : (t : ℕ) → state n m (suc t) ≡ tables.step part (state n m t) (x (suc t))
    unfolding step
    next_state t =
        subst (λ k. state n m k ≡ step (built n r) (state n m t) (x k)) (add-one t) ((satisfies n ok).stepped m t r at)
        ∙ ap (λ (b : AnyModule). step b (state n m t) (x (suc t))) is

  narrow_at : (kind : Kind) → r.kind ≡ kind → ((w p : ℕ) → input_width kind w p ≡ 1) → (p : ℕ) → input_width r.kind (module_width n r) p ≡ 1
  narrow_at kind is narrow p = ap (λ k. input_width k (module_width n r) p) is ∙ narrow (module_width n r) p

  abbrev built_at : (kind : Kind) → r.kind ≡ kind → built n r ≡ any_part_of kind r.params (module_width n r)
  built_at kind is = ap (λ k. any_part_of k r.params (module_width n r)) is

  -- ---- XOR

  module _ (xor : r.kind ≡ kinds.Function Xor) where
    xor_output : (t : ℕ) → output n m 0 t ≡ merged (x t)
    unfolding any_part_of settle step
    xor_output zero =
        ap (λ (s : Memory). output_of s 0) ((satisfies n ok).settled m r at ∙ ap (λ (b : AnyModule). settle b (x 0)) (built_at (kinds.Function Xor) xor))
    xor_output (suc t) =
        let is = subst (λ k. state n m k ≡ step (built n r) (state n m t) (x k)) (add-one t) ((satisfies n ok).stepped m t r at) in
        ap (λ (s : Memory). output_of s 0) (is ∙ ap (λ (b : AnyModule). step b (state n m t) (x (suc t))) (built_at (kinds.Function Xor) xor))

    xor_event : (t : ℕ) → IsTrue (has_event (output n m 0) t) ↔ (has_event (input n r 0) t ≢ has_event (input n r 1) t)
    xor_event zero = differ_says false false
    xor_event (suc t) =
        let low = low_inputs (narrow_at (kinds.Function Xor) xor (λ w p. ap (λ test. cond test w 1) (le-ltb p 0 (omega arith)))) in
        let is : not (output n m 0 t == output n m 0 (suc t)) ≡ differ (has_event (input n r 0) (suc t)) (has_event (input n r 1) (suc t)) =
        ap (λ a. not (a == output n m 0 (suc t))) (xor_output t) ∙ ap (λ b. not (merged (x t) == b)) (xor_output (suc t))
        ∙ differ_anew (input n r 0 t) (input n r 1 t) (input n r 0 (suc t)) (input n r 1 (suc t)) (low 0 t) (low 1 t) (low 0 (suc t)) (low 1 (suc t)) in
        let says = differ_says (has_event (input n r 0) (suc t)) (has_event (input n r 1) (suc t)) in
        (λ event. says.0 (sym is ∙ event), λ other. is ∙ says.1 other)

  -- ---- C

  module _ (rendezvous_of : r.kind ≡ kinds.C) where
    abbrev c : Rendezvous
    c = rendezvous r.params

    c_built : built n r ≡ Core (core.C c)
    unfolding any_part_of
    c_built = built_at kinds.C rendezvous_of

    pub c_first : output n m 0 0 ≡ joined c (first_output (core.C c)) (x 0)
    c_first = ap (λ (s : Memory). output_of s 0) (first_state (core.C c) c_built)

    pub c_next : (t : ℕ) → output n m 0 (suc t) ≡ joined c (output n m 0 t) (x (suc t))
    c_next t = ap (λ (s : Memory). output_of s 0) (next_state (core.C c) c_built t)

    c_inputs : (t : ℕ) → (state n m t).inputs ≡ input_levels (x t)
    c_inputs zero = ap (λ (s : Memory). s.inputs) (first_state (core.C c) c_built)
    c_inputs (suc t) = ap (λ (s : Memory). s.inputs) (next_state (core.C c) c_built t)

    chosen_first : (a b former now : ℕ) → now ≡ cond (a == b) a former → (now ≡ former) ⊎ (now ≡ a)
    chosen_first a b former now is =
        ⊎_elim (λ yes. inr (is ∙ ap (λ test. cond test a former) yes)) (λ no. inl (is ∙ ap (λ test. cond test a former) no)) (cases_Bool (a == b))

    chosen_second : (a b former now : ℕ) → now ≡ cond (a == b) a former → (now ≡ former) ⊎ (now ≡ b)
    chosen_second a b former now is =
        ⊎_elim (λ yes. inr (is ∙ ap (λ test. cond test a former) yes ∙ eqb-true a b yes)) (λ no. inl (is ∙ ap (λ test. cond test a former) no)) (cases_Bool (a == b))

    code_told : (test : Bool) → has_code (with_code_if Withdrawn test no_findings) Withdrawn ≡ test
    code_told true = refl
    code_told false = refl

    -- what is withdrawn is found
    none_withdrawn : (t u : ℕ) → t < n.horizon → FindsNothingAt n m t → u < t → is_withdrawn c (state n m u) (x (suc u)) ≡ false
    unfolding found
    none_withdrawn t u within nothing below =
        ⊎_elim (λ withdrawn. absurd (nothing (record { time = suc u; place = module_place m; code = Withdrawn }) (told withdrawn) refl (omega arith))) (λ none. none)
        (cases_Bool (is_withdrawn c (state n m u) (x (suc u))))
      where
        told : is_withdrawn c (state n m u) (x (suc u)) ≡ true → Contains (findings n) (record { time = suc u; place = module_place m; code = Withdrawn })
        told withdrawn =
            let code = ap (λ (b : AnyModule). has_code (found b (state n m u) (x (suc u))) Withdrawn) c_built ∙ code_told (is_withdrawn c (state n m u) (x (suc u))) ∙ withdrawn in
            let back : suc u - 1 ≡ u = omega arith in
            (finds_by_rule n (record { time = suc u; place = module_place m; code = Withdrawn })).1
            (omega arith, omega arith, (r, at, subst (λ k. has_code (found (built n r) (state n m k) (x (suc u))) Withdrawn ≡ true) (sym back) code))

    calm_at : (bubble : Bool) (p t : ℕ) → slice_index (state n m t).inputs p ≡ input n r p t → is_withdrawn_at bubble (state n m t) (x (suc t)) p ≡ false
        → (not (input n r p t == input n r p (suc t)) && not (bubbled bubble (input n r p t) == output n m 0 t)) ≡ false
    calm_at bubble p t is none =
        ap (λ v. not (v == input n r p (suc t)) && not (bubbled bubble v == output n m 0 t)) (sym is) ∙ none

    pub low_c : (p t : ℕ) → input n r p t < 2
    low_c = low_inputs (narrow_at kinds.C rendezvous_of (λ w p. ap (λ test. cond test w 1) (le-ltb p 0 (omega arith))))

    joins : (t : ℕ) → t < n.horizon → FindsNothingAt n m t → CountsEvents n m r c.bubble_a 0 t × CountsEvents n m r c.bubble_b 1 t
    joins t within nothing = (
      counted (output n m 0) (input n r 0) c.bubble_a (low_c 0) t
          (λ u below. chosen_first (bubbled c.bubble_a (input n r 0 (suc u))) (bubbled c.bubble_b (input n r 1 (suc u))) (output n m 0 u) (output n m 0 (suc u)) (c_next u))
          (λ u below. calm_at c.bubble_a 0 u (ap (λ (xs : List ℕ). slice_index xs 0) (c_inputs u)) (parts u below).0),
      counted (output n m 0) (input n r 1) c.bubble_b (low_c 1) t
          (λ u below. chosen_second (bubbled c.bubble_a (input n r 0 (suc u))) (bubbled c.bubble_b (input n r 1 (suc u))) (output n m 0 u) (output n m 0 (suc u)) (c_next u))
          (λ u below. calm_at c.bubble_b 1 u (ap (λ (xs : List ℕ). slice_index xs 1) (c_inputs u)) (parts u below).1),
    )
      where
        parts : (u : ℕ) → u < t → (is_withdrawn_at c.bubble_a (state n m u) (x (suc u)) 0 ≡ false) × (is_withdrawn_at c.bubble_b (state n m u) (x (suc u)) 1 ≡ false)
        parts u below =
            or_parts (is_withdrawn_at c.bubble_a (state n m u) (x (suc u)) 0) (is_withdrawn_at c.bubble_b (state n m u) (x (suc u)) 1) (none_withdrawn t u within nothing below)

    at_most_one : (b : Bool) → cond b 0 1 ≤ 1
    at_most_one true = omega arith
    at_most_one false = omega arith

    -- where an input has the output's level at time 0
    pace : (bubble : Bool) (p t : ℕ) → CountsEvents n m r bubble p t → bubbled bubble (input n r p 0) ≡ output n m 0 0
        → (events (output n m 0) t ≤ events (input n r p) t) × (events (input n r p) t ≤ events (output n m 0) t + 1)
    pace bubble p t counts same =
        let none : waiting n m r bubble p 0 ≡ 0 = ap (λ (test : Bool). cond test 0 1) (eq-eqb _ _ same) in
        let few = at_most_one (bubbled bubble (input n r p t) == output n m 0 t) in
        (omega (arith, counts, none), omega (arith, counts, none, few))

    first_agreed : AgreeFirst n r → output n m 0 0 ≡ bubbled c.bubble_a (input n r 0 0)
    first_agreed same =
        c_first ∙ ap (λ test. cond test (bubbled c.bubble_a (input n r 0 0)) (first_output (core.C c))) (eq-eqb (bubbled c.bubble_a (input n r 0 0)) (bubbled c.bubble_b (input n r 1 0)) same)

pub merges_events : MergesEvents
merges_events n ok m t of = xor_event n ok m of.part of.stands of.made t

pub joins_events : JoinsEvents
joins_events n ok m t of within nothing = joins n ok m of.part of.stands of.made t within nothing

pub keeps_pace : KeepsPace
keeps_pace n ok m t of within nothing same =
    let r = of.part in
    let counts = joins_events n ok m t of within nothing in
    let first = first_agreed n ok m r of.stands of.made same in (
      pace n ok m r of.stands of.made (rendezvous r.params).bubble_a 0 t counts.0 (sym first),
      pace n ok m r of.stands of.made (rendezvous r.params).bubble_b 1 t counts.1 (sym same ∙ sym first),
    )
