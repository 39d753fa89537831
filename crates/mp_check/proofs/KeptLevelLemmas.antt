-- Outputs that keep their level, of modules whose next state follows from the level of the first output.
use Rattle.std.proofs.Common.{◌≡◌, ℕ, ◌+◌, ◌<◌, ◌≤◌, ◌⊎◌, inl, inr, Bool, true, false, List, [], ◌∷◌, length, get_or, slice_index, Some, zero, suc, refl, ap, sym, subst, ◌∙◌, arith}
use Rattle.std.proofs.lemmas.Bool.{cases_lt, leb-true, le-leb}
use Rattle.mp_modules.specs.declared.kind.Kind.{Kind}
use Rattle.mp_modules.specs.declared.kind.Kind.TheVariants as kinds
use Rattle.mp_modules.specs.declared.memory.Memory.{Memory}
use Rattle.mp_modules.proofs.KindLemmas.{one_function_output}
use Rattle.mp_modules.specs.CElement.{joined}
use Rattle.mp_modules.specs.Kinds.{output_count}
use Rattle.mp_modules.specs.Memories.{input_levels, output_of, with_one_output, with_outputs}
use Rattle.mp_modules.specs.Tables.{rendezvous}
use Rattle.mp_modules.specs.storage.AnyModules.{any_part_of, step}
use Rattle.mp_modules.specs.storage.Reg.{latched}
use Rattle.mp_records.specs.declared.module_record.ModuleRecord.{ModuleRecord}
use Rattle.mp_records.specs.declared.ports.Input.{Input}
use Rattle.mp_netlist.specs.Circuit.{Circuit, IsCircuit, module_at, module_width}
use Rattle.mp_model.specs.Levels.{built, input_by, inputs_by}
use Rattle.mp_model.specs.Waves.{level, state}
use Rattle.mp_model.proofs.StepLemmas.{step_padded}
use Rattle.mp_questions.specs.timing.Events.{since}
use Rattle.mp_questions.specs.timing.Waits.{given}
use Rattle.mp_questions.proofs.lemmas.timing.EarLemmas.{map_at}
use Rattle.mp_questions.proofs.lemmas.timing.WatchLemmas.{state_stays}
use Rattle.mp_check.specs.Dead.{is_still, last_unit}
use Rattle.mp_check.specs.Quiet.{is_told_by_output}
use Rattle.mp_check.proofs.StateLemmas.{next_state, after_step}
use Rattle.mp_check.proofs.StillLemmas.{since_still, still_since}

told_alike : (kind : Kind) (params : List ℕ) (width : ℕ) → is_told_by_output kind ≡ true → (s t : Memory) (x : List ℕ) → output_of s 0 ≡ output_of t 0
    → step (any_part_of kind params width) s x ≡ step (any_part_of kind params width) t x
unfolding any_part_of step
told_alike kinds.C params width told s t x same = ap (λ q. with_one_output x (joined (rendezvous params) q x)) same
told_alike kinds.Reg params width told s t x same = ap (λ q. with_outputs x (latched q x ∷ slice_index x 1 ∷ slice_index x 2 ∷ [])) same
told_alike (kinds.Function f) params width told s t x same = refl
told_alike kinds.Toggle params width told s t x same = let no : ⊥ = cc in absurd no
told_alike kinds.Select params width told s t x same = let no : ⊥ = cc in absurd no
told_alike kinds.Call params width told s t x same = let no : ⊥ = cc in absurd no
told_alike kinds.Arbiter params width told s t x same = let no : ⊥ = cc in absurd no

-- of these kinds a REG alone has a further output
pub only_reg : (kind : Kind) (p : ℕ) → is_told_by_output kind ≡ true → 0 < p → p < output_count kind → kind ≡ kinds.Reg
only_reg kinds.Reg p told some low = refl
only_reg kinds.C p told some low = absurd (omega (arith, some, low))
only_reg (kinds.Function f) p told some low = absurd (omega (arith, some, low, one_function_output f))
only_reg kinds.Toggle p told some low = let no : ⊥ = cc in absurd no
only_reg kinds.Select p told some low = let no : ⊥ = cc in absurd no
only_reg kinds.Call p told some low = let no : ⊥ = cc in absurd no
only_reg kinds.Arbiter p told some low = let no : ⊥ = cc in absurd no

-- a REG's further outputs are its inputs of the same place
reg_passes : (params : List ℕ) (width : ℕ) (s : Memory) (x : List ℕ) (p : ℕ) → 0 < p → p < 3 → output_of (step (any_part_of kinds.Reg params width) s x) p ≡ slice_index x p
unfolding any_part_of step
reg_passes params width s x zero some low = absurd (omega (arith, some))
reg_passes params width s x (suc zero) some low = refl
reg_passes params width s x (suc (suc zero)) some low = refl
reg_passes params width s x (suc (suc (suc p))) some low = absurd (omega (arith, low))

-- a level that isn't for ever what it is at a time has an event after it
pub moved_later : (n : Circuit) (f : ℕ → ℕ) (after u : ℕ) → after ≤ u → u ≤ last_unit n → (f u ≡ f after → ⊥) → false ≡ is_still n f after
moved_later n f after u from upto other = by (is_still n f after) refl
  where
    by : (b : Bool) → is_still n f after ≡ b → false ≡ b
    by false is = refl
    by true is =
        let still = leb-true (since f (last_unit n)) after is in
        absurd (other (since_still f (last_unit n) after u still from upto ∙ sym (since_still f (last_unit n) after after still (omega arith) (omega (arith, from, upto)))))

pub still_while : (n : Circuit) (f : ℕ → ℕ) (after v : ℕ) → after ≤ last_unit n → ((u : ℕ) → after ≤ u → u ≤ last_unit n → f u ≡ v) → true ≡ is_still n f after
still_while n f after v low keeps =
    sym (le-leb (since f (last_unit n)) after (still_since f (last_unit n) after (λ s from upto. keeps s from upto ∙ sym (keeps (last_unit n) low (omega arith)))))

-- the first output of a module has this level from a time on to another
abbrev pub Keeps : Circuit → ℕ → ℕ → ℕ → ℕ → Type 0
Keeps n m v after t = (u : ℕ) → after ≤ u → u ≤ t → given n m 0 u ≡ v

module _ (n : Circuit) (ok : IsCircuit n) (m : ℕ) (r : ModuleRecord) (at : module_at n m ≡ Some r) (told : is_told_by_output r.kind ≡ true) where
  abbrev x : ℕ → List ℕ
  x t = inputs_by n (level n) r t

  -- it keeps it while no input has an event
  pub keeps_between : (v after t k : ℕ) → after ≤ t → Keeps n m v after t → ((u : ℕ) → t ≤ u → u ≤ t + k → input_levels (x u) ≡ input_levels (x t)) → Keeps n m v after (t + k)
  keeps_between v after t zero low keeps quiet u from upto = keeps u from (omega (arith, upto))
  keeps_between v after t (suc k) low keeps quiet u from upto = by (cases_lt u (t + suc k)) (keeps_between v after t k low keeps (λ w since till. quiet w since (omega (arith, till))))
    where
      last : state n m (t + k + 1) ≡ state n m (t + k)
      last = state_stays n ok m r at (t + k) (quiet (t + k + 1) (omega arith) (omega arith) ∙ sym (quiet (t + k) (omega arith) (omega arith)))

      by : (u < t + suc k) ⊎ (t + suc k ≤ u) → Keeps n m v after (t + k) → given n m 0 u ≡ v
      by (inl sooner) before = before u from (omega (arith, sooner))
      by (inr here) before =
          let is : t + k + 1 ≡ u = omega (arith, here, upto) in
          ap (given n m 0) (sym is) ∙ ap (λ (s : Memory). output_of s 0) last ∙ before (t + k) (omega (arith, low)) (omega arith)

  -- its next level is that after a step from any state with this output
  pub next_given : (v t : ℕ) (s : Memory) → given n m 0 t ≡ v → output_of s 0 ≡ v → output_of (step (built n r) s (input_levels (x (suc t)))) 0 ≡ given n m 0 (suc t)
  next_given v t s was is =
      ap (λ (k : Memory). output_of k 0)
      (step_padded (built n r) s (x (suc t)) ∙ told_alike r.kind r.params (module_width n r) told s (state n m t) (x (suc t)) (is ∙ sym was) ∙ sym (next_state n ok m r at t))

  pub keeps_next : (v after t : ℕ) → Keeps n m v after t → given n m 0 (suc t) ≡ v → Keeps n m v after (suc t)
  keeps_next v after t keeps is u from upto = by (cases_lt u (suc t))
    where
      by : (u < suc t) ⊎ (suc t ≤ u) → given n m 0 u ≡ v
      by (inl sooner) = keeps u from (omega (arith, sooner))
      by (inr here) = let same : suc t ≡ u = omega (arith, here, upto) in ap (given n m 0) (sym same) ∙ is

  -- a further output is the input of the same place
  pub passes : (p : ℕ) → 0 < p → p < output_count r.kind → (i : Input) → p < length r.inputs → i ≡ get_or r.inputs p i → given n m p ≡ input_by n (level n) i
  passes p some low i within is = λ j t. one t j
    where
      reg : r.kind ≡ kinds.Reg
      reg = only_reg r.kind p told some low

      three : p < 3
      three = subst (λ kind. p < output_count kind) reg low

      one : (t : ℕ) → given n m p t ≡ input_by n (level n) i t
      one t =
          let step_before = after_step n ok m r at t in
          ap (λ (s : Memory). output_of s p) step_before.1
          ∙ subst (λ kind. output_of (step (any_part_of kind r.params (module_width n r)) step_before.0 (x t)) p ≡ slice_index (x t) p) (sym reg)
          (reg_passes r.params (module_width n r) step_before.0 (x t) p some three)
          ∙ map_at (λ j. input_by n (level n) j t) r.inputs p i within ∙ ap (λ j. input_by n (level n) j t) (sym is)
