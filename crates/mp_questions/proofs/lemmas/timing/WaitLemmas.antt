-- The lines of modules and bundles that wait, by what becomes of them.
use Rattle.std.proofs.Common.{◌≡◌, ◌≢◌, ℕ, ◌<◌, false, cond, ◌==◌, List, [], ◌++◌, codes, decimal, Some, None, refl, sym, ap, ◌∙◌, arith}
use Rattle.mp_modules.specs.CElement.{bubbled}
use Rattle.mp_modules.specs.declared.memory.Client.{Client}
use Rattle.mp_modules.specs.declared.memory.Client.TheVariants.{First, Second}
use Rattle.mp_modules.specs.declared.memory.Memory.{Memory}
use Rattle.mp_modules.specs.Tables.{rendezvous}
use Rattle.mp_records.specs.declared.module_record.ModuleRecord.{ModuleRecord}
use Rattle.mp_records.specs.declared.bundle_record.BundleRecord.{BundleRecord}
use Rattle.mp_netlist.specs.Circuit.{Circuit}
use Rattle.mp_model.specs.Waves.{level, state}
use Rattle.mp_text.specs.Written.{wire_name}
use Rattle.mp_questions.specs.timing.Events.{since}
use Rattle.mp_questions.specs.timing.Waits.{heard, given, since_line, input_line, missing_input, missing_line, rendezvous_wait, call_wait, owner_wait, kept_request, register_wait, busy_wait, held}
use Rattle.mp_questions.specs.timing.Hearing.{IsWatch}
use Rattle.mp_questions.specs.declared.timing.client_watch.ClientWatch.{ClientWatch}
use Rattle.mp_questions.proofs.lemmas.timing.EventLemmas.{same_true, same_false}

module _ (n : Circuit) (m : ℕ) (r : ModuleRecord) (t : ℕ) where
  -- ---- C

  abbrev first : ℕ
  first = bubbled (rendezvous r.params).bubble_a (heard n r 0 t)

  abbrev second : ℕ
  second = bubbled (rendezvous r.params).bubble_b (heard n r 1 t)

  module _ (a b : ℕ) (is_a : a ≡ first) (is_b : b ≡ second) where
    pub agreed : a ≡ b → None ≡ missing_input n m r t
    agreed same = rw (same_true first second (sym is_a ∙ same ∙ is_b)) refl

    module _ (differ : a ≢ b) (q : ℕ) (is_q : q ≡ given n m 0 t) where
      apart : (first == second) ≡ false
      apart = same_false first second (λ same. differ (is_a ∙ same ∙ sym is_b))

      pub first_missing : a ≡ q → Some 0 ≡ missing_input n m r t
      first_missing same = rw (apart, same_true first (given n m 0 t) (sym is_a ∙ same ∙ is_q)) refl

      pub second_missing : a ≢ q → Some 1 ≡ missing_input n m r t
      second_missing other = rw (apart, same_false first (given n m 0 t) (λ same. other (is_a ∙ same ∙ sym is_q))) refl

  -- a C waits for the input that hasn't come
  pub first_line : (port since_other : ℕ) → Some port ≡ missing_input n m r t → port ≡ 0 → since_other ≡ since (heard n r 1) t → input_line n r (codes " C waits for ") 0 since_other ≡ rendezvous_wait n m r t
  first_line port since_other missing same is =
      ap (input_line n r (codes " C waits for ") 0) is ∙ ap (λ (p : ℕ). missing_line n r t (Some p)) (sym same) ∙ ap (missing_line n r t) missing

  pub second_line : (port since_other : ℕ) → Some port ≡ missing_input n m r t → port ≢ 0 → port < 2 → since_other ≡ since (heard n r 0) t → input_line n r (codes " C waits for ") 1 since_other ≡ rendezvous_wait n m r t
  second_line port since_other missing other low is =
      let same : port ≡ 1 = omega (arith, low, other) in
      ap (input_line n r (codes " C waits for ") 1) is ∙ ap (λ (p : ℕ). missing_line n r t (Some p)) (sym same) ∙ ap (missing_line n r t) missing

  -- ---- CALL and ARBITER

  module _ (w : ClientWatch) (is : IsWatch n m r t w) where
    served : (client : Client) → w.memory.served ≡ client → (state n m t).served ≡ client
    served client at = ap (λ (s : Memory). s.served) (sym is.memory) ∙ at

    pub call_first : w.memory.served ≡ First → input_line n r (codes " CALL waits for ") 2 w.marks.first_output ≡ call_wait n m r t
    call_first at = rw (served First at) (ap (input_line n r (codes " CALL waits for ") 2) is.marks.first_output)

    pub call_second : w.memory.served ≡ Second → input_line n r (codes " CALL waits for ") 2 w.marks.first_output ≡ call_wait n m r t
    call_second at = rw (served Second at) (ap (input_line n r (codes " CALL waits for ") 2) is.marks.first_output)

    -- what is written of a client that waits
    abbrev pub first_kept : List ℕ
    first_kept = cond w.memory.waiting.first (input_line n r (codes " ARBITER keeps ") 0 w.marks.first_waiting) []

    abbrev pub second_kept : List ℕ
    second_kept = cond w.memory.waiting.second (input_line n r (codes " ARBITER keeps ") 1 w.marks.second_waiting) []

    first_kept_is : first_kept ≡ kept_request n m r t First 0
    first_kept_is =
        ap (λ (s : Memory). cond s.waiting.first (input_line n r (codes " ARBITER keeps ") 0 w.marks.first_waiting) []) is.memory
        ∙ ap (λ (u : ℕ). cond (state n m t).waiting.first (input_line n r (codes " ARBITER keeps ") 0 u) []) is.marks.first_waiting

    second_kept_is : second_kept ≡ kept_request n m r t Second 1
    second_kept_is =
        ap (λ (s : Memory). cond s.waiting.second (input_line n r (codes " ARBITER keeps ") 1 w.marks.second_waiting) []) is.memory
        ∙ ap (λ (u : ℕ). cond (state n m t).waiting.second (input_line n r (codes " ARBITER keeps ") 1 u) []) is.marks.second_waiting

    pub owner_first : w.memory.served ≡ First → input_line n r (codes " ARBITER waits for ") 2 w.marks.first_output ++ second_kept ≡ owner_wait n m r t (state n m t).served
    owner_first at =
        ap (λ (u : ℕ). input_line n r (codes " ARBITER waits for ") 2 u ++ second_kept) is.marks.first_output
        ∙ ap (λ (l : List ℕ). input_line n r (codes " ARBITER waits for ") 2 (since (given n m 0) t) ++ l) second_kept_is
        ∙ sym (ap (owner_wait n m r t) (served First at))

    pub owner_second : w.memory.served ≡ Second → input_line n r (codes " ARBITER waits for ") 3 w.marks.second_output ++ first_kept ≡ owner_wait n m r t (state n m t).served
    owner_second at =
        ap (λ (u : ℕ). input_line n r (codes " ARBITER waits for ") 3 u ++ first_kept) is.marks.second_output
        ∙ ap (λ (l : List ℕ). input_line n r (codes " ARBITER waits for ") 3 (since (given n m 1) t) ++ l) first_kept_is
        ∙ sym (ap (owner_wait n m r t) (served Second at))

  -- ---- REG

  pub register_held : (a b v u : ℕ) → a ≡ heard n r 1 t → b ≡ heard n r 2 t → a ≢ b → v ≡ given n m 0 t → u ≡ since (held n r) t
      → since_line r.name (codes " REG holds ") (decimal v) u ≡ register_wait n m r t
  register_held a b v u is_a is_b differ is_v is_u =
      rw (same_false (heard n r 1 t) (heard n r 2 t) (λ same. differ (is_a ∙ same ∙ sym is_b)))
      (ap (λ (k : ℕ). since_line r.name (codes " REG holds ") (decimal k) u) is_v ∙ ap (since_line r.name (codes " REG holds ") (decimal (given n m 0 t))) is_u)

  pub register_open : (a b : ℕ) → a ≡ heard n r 1 t → b ≡ heard n r 2 t → a ≡ b → [] ≡ register_wait n m r t
  register_open a b is_a is_b same = rw (same_true (heard n r 1 t) (heard n r 2 t) (sym is_a ∙ same ∙ is_b)) refl

-- ---- bundles

module _ (n : Circuit) (b : BundleRecord) (t k a : ℕ) (is_k : k ≡ level n b.request.0 t) (is_a : a ≡ level n b.acknowledge.0 t) where
  pub idle : k ≡ a → [] ≡ busy_wait n b t
  idle same = rw (same_true (level n b.request.0 t) (level n b.acknowledge.0 t) (sym is_k ∙ same ∙ is_a)) refl

  pub busy : (what : List ℕ) (u : ℕ) → k ≢ a → what ≡ wire_name n b.acknowledge → u ≡ since (level n b.request.0) t → since_line b.name (codes " bundle waits for ") what u ≡ busy_wait n b t
  busy what u differ is_what is_u =
      rw (same_false (level n b.request.0 t) (level n b.acknowledge.0 t) (λ same. differ (is_k ∙ same ∙ sym is_a)))
      (ap (λ (l : List ℕ). since_line b.name (codes " bundle waits for ") l u) is_what ∙ ap (since_line b.name (codes " bundle waits for ") (wire_name n b.acknowledge)) is_u)
