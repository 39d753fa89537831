-- The states of modules, from what they hear.
use Rattle.std.proofs.Common.{◌≡◌, ℕ, ◌+◌, ◌-◌, ◌<◌, ◌≤◌, ◌==◌, ◌⊎◌, inl, inr, Bool, true, false, cond, List, length, drop, get_or, ◌&&◌, Some, zero, suc, refl, ap, sym, subst, ◌∙◌, arith}
use Rattle.std.specs.List.{list_all}
use Rattle.std.proofs.lemmas.Bool.{cases_Bool, ne_eqb}
use Rattle.std.proofs.lemmas.List.{at_drop_all, at_drop_more}
use Rattle.mp_wave.specs.Waveform.{Waveform, between, level_of}
use Rattle.mp_wave.proofs.PrefixLemmas.{cut_levels}
use Rattle.mp_wave.proofs.ChangesLemmas.{form_of_wave, levels_of_wave}
use Rattle.mp_modules.specs.declared.kind.Kind.{Kind}
use Rattle.mp_modules.specs.declared.kind.Kind.TheVariants as kinds
use Rattle.mp_modules.specs.declared.memory.Memory.{Memory}
use Rattle.mp_modules.specs.storage.AnyModules.{any_part_of, settle, start, step}
use Rattle.mp_records.specs.declared.ids.WireId.{WireId}
use Rattle.mp_records.specs.declared.module_record.ModuleRecord.{ModuleRecord}
use Rattle.mp_records.specs.declared.ports.Input.{Input}
use Rattle.mp_netlist.specs.Circuit.{Circuit, IsCircuit, module_at, module_width}
use Rattle.mp_model.specs.Levels.{built, input_by, inputs_by}
use Rattle.mp_model.specs.Waves.{level, state, wave}
use Rattle.mp_model.specs.response.Delays.{state_before}
use Rattle.mp_model.specs.response.Pieces.{later_by, piece_level, put_off}
use Rattle.mp_model.specs.response.Span.{IsSpan, next_state, state_after}
use Rattle.mp_model.specs.declared.response.in_piece.InPiece.{InPiece}
use Rattle.mp_model.specs.declared.response.piece.Piece.{Piece}
use Rattle.mp_model.proofs.BehaviourLemmas.{satisfies}
use Rattle.mp_model.proofs.InputLemmas.{input_is}
use Rattle.mp_model.proofs.lemmas.response.DelayLemmas.{ends_in_state}
use Rattle.mp_model.proofs.lemmas.response.JoinLemmas.{inside_alone}
use Rattle.mp_model.proofs.lemmas.response.LateLemmas.{late_level_of, IsWaveform-later_by}
use Rattle.mp_model.proofs.lemmas.response.SpanLemmas.{state_more, state_none}
use Rattle.mp_questions.specs.late.Sources.{has_memory}
use Rattle.mp_steady.specs.WireSets.{numbers}

-- what an input hears, cut from its wire's wave
pub heard_piece : (n : Circuit) → IsCircuit n → (i : Input) (from to : ℕ) (found : Waveform) (piece : InPiece) → found ≡ wave n i.wire.0
    → piece ≡ record { at_from = level_of (later_by i.delay found) from; changes = between from to (put_off i.delay found.changes) } → to ≤ n.horizon
    → (t : ℕ) → from ≤ t → t < to → piece_level piece t ≡ input_by n (level n) i t
heard_piece n ok i from to found piece is made within t low high =
    let form = form_of_wave (level n i.wire.0) (n.horizon - 1) in
    ap (λ (p : InPiece). piece_level p t) made ∙ ap (λ (v : Waveform). piece_level (record { at_from = level_of (later_by i.delay v) from; changes = between from to (put_off i.delay v.changes) }) t) is
    ∙ cut_levels (later_by i.delay (wave n i.wire.0)) from to t (IsWaveform-later_by i.delay (wave n i.wire.0) form) low high ∙ late_level_of i.delay t (wave n i.wire.0) form
    ∙ levels_of_wave (level n i.wire.0) (n.horizon - 1) (t - i.delay) (omega (arith, within, high)) ∙ sym (input_is n ok i t)

-- without memory a step comes to the same state from any
memoryless : (kind : Kind) (params : List ℕ) (width : ℕ) (s t : Memory) (x : List ℕ) → has_memory kind ≡ false → step (any_part_of kind params width) s x ≡ step (any_part_of kind params width) t x
unfolding any_part_of step
memoryless (kinds.Function f) params width s t x none = refl
memoryless kinds.C params width s t x none = let no : ⊥ = cc in absurd no
memoryless kinds.Toggle params width s t x none = let no : ⊥ = cc in absurd no
memoryless kinds.Select params width s t x none = let no : ⊥ = cc in absurd no
memoryless kinds.Call params width s t x none = let no : ⊥ = cc in absurd no
memoryless kinds.Arbiter params width s t x none = let no : ⊥ = cc in absurd no
memoryless kinds.Reg params width s t x none = let no : ⊥ = cc in absurd no

module _ (n : Circuit) (ok : IsCircuit n) (m : ℕ) (r : ModuleRecord) (at : module_at n m ≡ Some r) where
  -- the state after a unit of a module without memory
  once : has_memory r.kind ≡ false → (s : Memory) (t : ℕ) → next_state (built n r) s (inputs_by n (level n) r t) t ≡ state n m t
  once none s zero = sym ((satisfies n ok).settled m r at)
  once none s (suc t) =
      let later : (suc t == 0) ≡ false = ne_eqb (suc t) 0 (λ e. omega (arith, e)) in
      let e : t + 1 ≡ suc t = omega arith in
      ap (λ b. cond b (settle (built n r) (inputs_by n (level n) r (suc t))) (step (built n r) s (inputs_by n (level n) r (suc t)))) later
      ∙ memoryless r.kind r.params (module_width n r) s (state n m t) (inputs_by n (level n) r (suc t)) none
      ∙ sym (subst (λ k. state n m k ≡ step (built n r) (state n m t) (inputs_by n (level n) r k)) e ((satisfies n ok).stepped m t r at))

  module _ (x : ℕ → List ℕ) (time : ℕ) (piece : Piece) where
    run_whole : ((t : ℕ) → 0 ≤ t → t < time + 1 → x t ≡ inputs_by n (level n) r t) → IsSpan (built n r) x (start (built n r)) 0 (time + 1) piece → piece.memory ≡ state n m time
    run_whole hears span =
        let e : time + 1 ≡ suc time = omega arith in
        ends_in_state n (level n) (state n) (satisfies n ok) m 0 (time + 1) r piece at (omega arith) (inside_alone (built n r) x (inputs_by n (level n) r) (start (built n r)) 0 (time + 1) piece hears span)
        ∙ ap (state_before (built n r) (state n m)) e

    run_once : has_memory r.kind ≡ false → ((t : ℕ) → time ≤ t → t < time + 1 → x t ≡ inputs_by n (level n) r t) → IsSpan (built n r) x (start (built n r)) time (time + 1) piece → piece.memory ≡ state n m time
    run_once none hears span =
        let s = start (built n r) in
        let units : time + 1 - time ≡ 0 + 1 = omega arith in
        let here : time + 0 ≡ time = omega arith in
        span.memory ∙ ap (state_after (built n r) x s time) units ∙ state_more (built n r) x s time 0
        ∙ ap (λ (q : Memory). next_state (built n r) q (x (time + 0)) (time + 0)) (state_none (built n r) x s time) ∙ ap (λ k. next_state (built n r) s (x k) k) here
        ∙ ap (λ l. next_state (built n r) s l time) (hears time (omega arith) (omega arith)) ∙ once none s time

    -- from when on a module is run for its state at a time
    pub state_found : (from : ℕ) → from ≡ cond (has_memory r.kind) 0 time → ((t : ℕ) → from ≤ t → t < time + 1 → x t ≡ inputs_by n (level n) r t)
        → IsSpan (built n r) x (start (built n r)) from (time + 1) piece → piece.memory ≡ state n m time
    state_found from is hears span = by (cases_Bool (has_memory r.kind))
      where
        by : (has_memory r.kind ≡ true) ⊎ (has_memory r.kind ≡ false) → piece.memory ≡ state n m time
        by (inl has) =
            let e : from ≡ 0 = is ∙ ap (λ b. cond b 0 time) has in
            run_whole (λ t low high. hears t (omega (arith, e)) high) (subst (λ k. IsSpan (built n r) x (start (built n r)) k (time + 1) piece) e span)
        by (inr none) =
            let e : from ≡ time = is ∙ ap (λ b. cond b 0 time) none in
            run_once none (λ t low high. hears t (omega (arith, e, low)) high) (subst (λ k. IsSpan (built n r) x (start (built n r)) k (time + 1) piece) e span)

-- ---- a test of all wires, one after the other

module _ (p : ℕ → Bool) (wires : List WireId) (i : ℕ) where
  pub all_later : (d : WireId) → i < length wires → list_all p (numbers (drop i wires)) ≡ list_all p (numbers wires) → p (get_or wires i d).0 ≡ true
      → list_all p (numbers (drop (i + 1) wires)) ≡ list_all p (numbers wires)
  all_later d low so_far is = sym (at_drop_more (λ ws. list_all p (numbers ws)) wires i d low ∙ ap (λ b. b && list_all p (numbers (drop (i + 1) wires))) is) ∙ so_far

  pub one_fails : (d : WireId) → i < length wires → list_all p (numbers (drop i wires)) ≡ list_all p (numbers wires) → p (get_or wires i d).0 ≡ false → false ≡ list_all p (numbers wires)
  one_fails d low so_far not_so = sym (at_drop_more (λ ws. list_all p (numbers ws)) wires i d low ∙ ap (λ b. b && list_all p (numbers (drop (i + 1) wires))) not_so) ∙ so_far

  pub all_over : length wires ≤ i → list_all p (numbers (drop i wires)) ≡ list_all p (numbers wires) → true ≡ list_all p (numbers wires)
  all_over past so_far = sym (at_drop_all (λ ws. list_all p (numbers ws)) wires i past) ∙ so_far
