-- Levels and states that satisfy the equations of a netlist below a time are its own there.
use Rattle.std.proofs.Common.{◌≡◌, ℕ, ◌+◌, ◌-◌, ◌<◌, ◌≤◌, cond, nat_lt, List, [], ◌∷◌, Some, map, zero, suc, refl, ap, sym, subst, ◌∙◌, arith, inl, inr}
use Rattle.std.proofs.lemmas.Bool.{cases_lt}
use Rattle.mp_modules.specs.declared.memory.Memory.{Memory}
use Rattle.mp_modules.specs.storage.AnyModules.{settle, step}
use Rattle.mp_records.specs.declared.module_record.ModuleRecord.{ModuleRecord}
use Rattle.mp_records.specs.declared.ports.Input.{Input}
use Rattle.mp_netlist.specs.Circuit.{Circuit, IsCircuit, wire_at, module_at}
use Rattle.mp_model.specs.Levels.{initial_of, input_by, inputs_by, built}
use Rattle.mp_model.specs.Waves.{level, state}
use Rattle.mp_model.proofs.BehaviourLemmas.{satisfies}
use Rattle.mp_model.proofs.HistoryLemmas.{SameBelow, level_by_same}
use Rattle.mp_near.specs.laws.Below.{IsBehaviourBelow, IsOnlyOneBelow}

-- the inputs of a module rest on the levels of wires up to their time
input_same : (n : Circuit) (f g : ℕ → ℕ → ℕ) (i : Input) (t : ℕ) → ((w u : ℕ) → u ≤ t → f w u ≡ g w u) → input_by n f i t ≡ input_by n g i t
input_same n f g i t same = ap (cond (nat_lt t i.delay) (initial_of (wire_at n i.wire.0))) (same i.wire.0 (t - i.delay) (omega arith))

map_same : (f g : Input → ℕ) (is : List Input) → ((i : Input) → f i ≡ g i) → map f is ≡ map g is
map_same f g [] same = refl
map_same f g (i ∷ is) same = ap (λ x. x ∷ map f is) (same i) ∙ ap (λ xs. g i ∷ xs) (map_same f g is same)

inputs_same : (n : Circuit) (f g : ℕ → ℕ → ℕ) (r : ModuleRecord) (t : ℕ) → ((w u : ℕ) → u ≤ t → f w u ≡ g w u) → inputs_by n f r t ≡ inputs_by n g r t
inputs_same n f g r t same = map_same (λ i. input_by n f i t) (λ i. input_by n g i t) r.inputs (λ i. input_same n f g i t same)

module _ (n : Circuit) (ok : IsCircuit n) (h : ℕ) (f : ℕ → ℕ → ℕ) (s : ℕ → ℕ → Memory) (is : IsBehaviourBelow n h f s) where
  -- levels are the netlist's where the states before are
  levels_at : (t : ℕ) → t < h → SameBelow n t s (state n) → (w k : ℕ) → k ≤ t → f w k ≡ level n w k
  levels_at t low same w k within =
      is.driven w k (omega (arith, low, within))
      ∙ level_by_same n ok s (state n) w k (λ m j r below at. same m j r (omega (arith, below, within)) at)
      ∙ sym ((satisfies n ok).levels w k)

  states_at : (t : ℕ) → t < h → SameBelow n t s (state n) → (m : ℕ) (r : ModuleRecord) → module_at n m ≡ Some r → s m t ≡ state n m t
  states_at zero low same m r at =
      is.settled m r low at ∙ ap (settle (built n r)) (inputs_same n f (level n) r 0 (levels_at 0 low same)) ∙ sym ((satisfies n ok).settled m r at)
  states_at (suc t) low same m r at =
      let e : t + 1 ≡ suc t = omega arith in
      let next_low : t + 1 < h = omega (arith, low) in
      let earlier : SameBelow n (t + 1) s (state n) = λ k j q below stands. same k j q (omega (arith, below)) stands in
      let next : s m (t + 1) ≡ state n m (t + 1) =
      is.stepped m t r next_low at
      ∙ ap (step (built n r) (s m t)) (inputs_same n f (level n) r (t + 1) (levels_at (t + 1) next_low earlier))
      ∙ ap (λ (x : Memory). step (built n r) x (inputs_by n (level n) r (t + 1))) (same m t r (omega arith) at)
      ∙ sym ((satisfies n ok).stepped m t r at)
      in subst (λ k. s m k ≡ state n m k) e next

  same_below : (t : ℕ) → t ≤ h → SameBelow n t s (state n)
  same_below zero low m k r below at = absurd (omega arith)
  same_below (suc t) low m k r below at =
      let earlier = same_below t (omega (arith, low)) in
      elim (cases_lt k t) as (λ _. s m k ≡ state n m k) [
        | inl less ↦ earlier m k r less at
        | inr last ↦ let e : t ≡ k = omega (arith, last, below) in subst (λ j. s m j ≡ state n m j) e (states_at t (omega (arith, low)) earlier m r at)
      ]

pub only_one_below : IsOnlyOneBelow
only_one_below n ok h f s is = (
  λ w t low. levels_at n ok h f s is t low (same_below n ok h f s is t (omega (arith, low))) w t (omega arith),
  λ m t r low at. same_below n ok h f s is h (omega arith) m t r low at,
)
