-- The levels and states of a netlist are those that satisfy the equations.
use Rattle.std.proofs.Common.{◌≡◌, ℕ, ◌+◌, ◌-◌, ◌<◌, ◌≤◌, false, cond, nat_lt, List, [], ◌∷◌, Option, Some, None, map, slice_index_or, ◌==◌, zero, suc, refl, ap, sym, subst, ◌∙◌, arith, inl, inr}
use Rattle.std.proofs.lemmas.Bool.Decides.{nat_tests}
use Rattle.std.proofs.lemmas.Bool.{cases_lt}
use Rattle.mp_modules.specs.declared.memory.Memory.{Memory}
use Rattle.mp_modules.specs.storage.AnyModules.{settle, step}
use Rattle.mp_modules.specs.Memories.{blank}
use Rattle.mp_records.specs.declared.module_record.ModuleRecord.{ModuleRecord}
use Rattle.mp_records.specs.declared.ports.Input.{Input}
use Rattle.mp_netlist.specs.Circuit.{Circuit, IsCircuit, wire_at, module_at}
use Rattle.mp_model.specs.Levels.{IsBehaviour, initial_of, level_by, input_by, inputs_by, built}
use Rattle.mp_model.specs.Histories.{state_in, level_in, inputs_in, next_state, slot_state, row_from, next_row, history}
use Rattle.mp_model.specs.Waves.{level, state}
use Rattle.mp_model.specs.Laws.{Satisfies, IsOnlyOne}
use Rattle.mp_model.proofs.HistoryLemmas.{history_row, SameBelow, level_by_same, level_in_longer}

-- the state at a place of a row
row_at : (n : Circuit) (past : List (List Memory)) (t m : ℕ) (slots : List (Option ModuleRecord)) (i : ℕ) → slice_index_or (row_from n past t m slots) i blank ≡ slot_state n past t (m + i) (slice_index_or slots i None)
row_at n past t m [] i = refl
row_at n past t m (slot ∷ slots) zero = let e : m + 0 ≡ m = omega arith in rw e refl
row_at n past t m (slot ∷ slots) (suc i) = let e : m + suc i ≡ m + 1 + i = omega arith in rw e (row_at n past t (m + 1) slots i)

-- a state is made of what stands before it
pub state_is : (n : Circuit) (m t : ℕ) (r : ModuleRecord) → module_at n m ≡ Some r → state n m t ≡ next_state n (history n t) t m r
unfolding state
state_is n m t r at =
    let row = ap (λ (xs : List Memory). slice_index_or xs m blank) (history_row n (t + 1) t (omega arith)) in
    let place : slice_index_or (next_row n (history n t) t) m blank ≡ slot_state n (history n t) t (0 + m) (module_at n m) = row_at n (history n t) t 0 n.modules m in
    let e : 0 + m ≡ m = omega arith in
    row ∙ place ∙ ap (λ k. slot_state n (history n t) t k (module_at n m)) e ∙ ap (slot_state n (history n t) t m) at

-- an earlier state stands in every longer history
pub state_in_is : (n : Circuit) (m s t : ℕ) → s < t → state_in (history n t) m s ≡ state n m s
unfolding state
state_in_is n m s t below = ap (λ (xs : List Memory). slice_index_or xs m blank) (history_row n t s below ∙ sym (history_row n (s + 1) s (omega arith)))

level_is : (n : Circuit) → IsCircuit n → (w t : ℕ) → level n w t ≡ level_by n (state n) w t
unfolding level
level_is n ok w t = level_by_same n ok (λ m u. state_in (history n t) m u) (state n) w t (λ m u r below at. state_in_is n m u t below)

-- the inputs of a module rest on the levels of wires
input_same : (n : Circuit) (f g : ℕ → ℕ → ℕ) (i : Input) (t : ℕ) → ((w u : ℕ) → u ≤ t → f w u ≡ g w u) → input_by n f i t ≡ input_by n g i t
input_same n f g i t same = ap (cond (nat_lt t i.delay) (initial_of (wire_at n i.wire.0))) (same i.wire.0 (t - i.delay) (omega arith))

map_same : (f g : Input → ℕ) (is : List Input) → ((i : Input) → f i ≡ g i) → map f is ≡ map g is
map_same f g [] same = refl
map_same f g (i ∷ is) same = ap (λ x. x ∷ map f is) (same i) ∙ ap (λ xs. g i ∷ xs) (map_same f g is same)

inputs_same : (n : Circuit) (f g : ℕ → ℕ → ℕ) (r : ModuleRecord) (t : ℕ) → ((w u : ℕ) → u ≤ t → f w u ≡ g w u) → inputs_by n f r t ≡ inputs_by n g r t
inputs_same n f g r t same = map_same (λ i. input_by n f i t) (λ i. input_by n g i t) r.inputs (λ i. input_same n f g i t same)

inputs_are : (n : Circuit) → IsCircuit n → (r : ModuleRecord) (t : ℕ) → inputs_in n (history n t) r t ≡ inputs_by n (level n) r t
inputs_are n ok r t = inputs_same n (λ w u. level_in n (history n t) w u) (level n) r t (λ w u within. level_in_longer n ok t w u within)

settled : (n : Circuit) → IsCircuit n → (m : ℕ) (r : ModuleRecord) → module_at n m ≡ Some r → state n m 0 ≡ settle (built n r) (inputs_by n (level n) r 0)
settled n ok m r at = state_is n m 0 r at ∙ ap (settle (built n r)) (inputs_are n ok r 0)

next_later : (n : Circuit) (past : List (List Memory)) (t m : ℕ) (r : ModuleRecord) → next_state n past (t + 1) m r ≡ step (built n r) (state_in past m t) (inputs_in n past r (t + 1))
next_later n past t m r =
    let later : (t + 1 == 0) ≡ false = grind (arith, nat_tests) in
    let before : t + 1 - 1 ≡ t = omega arith in
    rw (later, before) refl

stepped : (n : Circuit) → IsCircuit n → (m t : ℕ) (r : ModuleRecord) → module_at n m ≡ Some r → state n m (t + 1) ≡ step (built n r) (state n m t) (inputs_by n (level n) r (t + 1))
stepped n ok m t r at =
    let x = inputs_in n (history n (t + 1)) r (t + 1) in
    state_is n m (t + 1) r at
    ∙ next_later n (history n (t + 1)) t m r
    ∙ ap (λ (s : Memory). step (built n r) s x) (state_in_is n m t (t + 1) (omega arith))
    ∙ ap (step (built n r) (state n m t)) (inputs_are n ok r (t + 1))

pub satisfies : Satisfies
satisfies n ok = record { levels = level_is n ok; settled = settled n ok; stepped = stepped n ok }

-- levels are the same where the states before are
levels_at : (n : Circuit) → IsCircuit n → (f g : ℕ → ℕ → ℕ) (s u : ℕ → ℕ → Memory) → IsBehaviour n f s → IsBehaviour n g u → (t : ℕ) → SameBelow n t s u → (w k : ℕ) → k ≤ t → f w k ≡ g w k
levels_at n ok f g s u a b t same w k within =
    a.levels w k ∙ level_by_same n ok s u w k (λ m j r below at. same m j r (omega arith) at) ∙ sym (b.levels w k)

states_at : (n : Circuit) → IsCircuit n → (f g : ℕ → ℕ → ℕ) (s u : ℕ → ℕ → Memory) → IsBehaviour n f s → IsBehaviour n g u → (t : ℕ) → SameBelow n t s u → (m : ℕ) (r : ModuleRecord) → module_at n m ≡ Some r → s m t ≡ u m t
states_at n ok f g s u a b zero same m r at =
    a.settled m r at ∙ ap (settle (built n r)) (inputs_same n f g r 0 (levels_at n ok f g s u a b 0 same)) ∙ sym (b.settled m r at)
states_at n ok f g s u a b (suc t) same m r at =
    let e : t + 1 ≡ suc t = omega arith in
    let earlier : SameBelow n (t + 1) s u = λ k j q below stands. same k j q (omega arith) stands in
    let next : s m (t + 1) ≡ u m (t + 1) =
    a.stepped m t r at
    ∙ ap (step (built n r) (s m t)) (inputs_same n f g r (t + 1) (levels_at n ok f g s u a b (t + 1) earlier))
    ∙ ap (λ (x : Memory). step (built n r) x (inputs_by n g r (t + 1))) (same m t r (omega arith) at)
    ∙ sym (b.stepped m t r at)
    in rw e at next

same_below : (n : Circuit) → IsCircuit n → (f g : ℕ → ℕ → ℕ) (s u : ℕ → ℕ → Memory) → IsBehaviour n f s → IsBehaviour n g u → (t : ℕ) → SameBelow n t s u
same_below n ok f g s u a b zero m k r below at = absurd (omega arith)
same_below n ok f g s u a b (suc t) m k r below at =
    let earlier = same_below n ok f g s u a b t in
    elim (cases_lt k t) as (λ _. s m k ≡ u m k) [
      | inl less ↦ earlier m k r less at
      | inr last ↦ let e : t ≡ k = omega arith in subst (λ j. s m j ≡ u m j) e (states_at n ok f g s u a b t earlier m r at)
    ]

pub is_only_one : IsOnlyOne
is_only_one n ok f s behaves =
    let same = same_below n ok f (level n) s (state n) behaves (satisfies n ok) in (
      λ w t. levels_at n ok f (level n) s (state n) behaves (satisfies n ok) t (same t) w t (omega arith),
      λ m t r at. same (t + 1) m t r (omega arith) at,
    )
