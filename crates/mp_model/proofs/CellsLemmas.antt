-- The cells of all modules, while they answer one after the other.
use Rattle.std.proofs.Common.{◌≡◌, ℕ, ◌+◌, ◌<◌, false, ◌==◌, List, Option, Some, None, option_map, map, length, slice_set, zero, suc, refl, ap, sym, subst, ◌∙◌, arith, inl, inr}
use Rattle.std.proofs.lemmas.Bool.{cases_eq}
use Rattle.std.proofs.lemmas.Bool.Decides.{nat_tests}
use Rattle.std.proofs.lemmas.List.{get_or-set_same, get_or-set_other, length-map}
use Rattle.std.proofs.Math.ListN.{length-set}
use Rattle.mp_modules.specs.declared.memory.Memory.{Memory}
use Rattle.mp_modules.specs.storage.AnyModules.{settle, step}
use Rattle.mp_records.specs.declared.module_record.ModuleRecord.{ModuleRecord}
use Rattle.mp_netlist.specs.Slots.{slot_at}
use Rattle.mp_netlist.specs.Circuit.{Circuit, IsCircuit, module_at}
use Rattle.mp_model.specs.declared.cell.Cell.{Cell}
use Rattle.mp_model.specs.Levels.{built, inputs_by}
use Rattle.mp_model.specs.Cells.{answered, after_answer}
use Rattle.mp_model.specs.Evaluations.{IsInState, IsCellOf, AreCells, delivered, with_answer, memory_at, first_cell}
use Rattle.mp_model.specs.Waves.{level, state}
use Rattle.mp_model.proofs.BehaviourLemmas.{satisfies}
use Rattle.mp_model.proofs.SlotLemmas.{slot_at-map, slot_within}
use Rattle.mp_model.proofs.EvaluationLemmas as units

-- a module's answer is its state
pub answered_is : (n : Circuit) → IsCircuit n → (m t : ℕ) (r : ModuleRecord) (cell : Cell) (levels : List ℕ) → module_at n m ≡ Some r → IsInState n m t r cell
    → levels ≡ inputs_by n (level n) r t → answered cell t levels ≡ state n m t
answered_is n ok m zero r cell levels at in_state inputs =
    ap (λ part. settle part levels) in_state.part ∙ ap (settle (built n r)) inputs ∙ sym ((satisfies n ok).settled m r at)
answered_is n ok m (suc u) r cell levels at in_state inputs =
    let later : (suc u == 0) ≡ false = grind (arith, nat_tests) in
    let e : u + 1 ≡ suc u = omega arith in
    let next : step (built n r) (state n m u) (inputs_by n (level n) r (suc u)) ≡ state n m (suc u) = rw e at (sym ((satisfies n ok).stepped m u r at)) in
    rw later (
    ap (λ part. step part cell.memory levels) in_state.part
    ∙ ap (λ (memory : Memory). step (built n r) memory levels) (in_state.memory u e)
    ∙ ap (step (built n r) (state n m u)) inputs
    ∙ next)

pub IsCellOf-same : (n : Circuit) (m k j : ℕ) (slot : Option ModuleRecord) (cell : Option Cell) → k ≡ j → IsCellOf n m k slot cell → IsCellOf n m j slot cell
IsCellOf-same n m k j None None same is = tt
IsCellOf-same n m k j None (Some cell) same is = absurd is
IsCellOf-same n m k j (Some r) None same is = absurd is
IsCellOf-same n m k j (Some r) (Some cell) same is = record { part = is.part; memory = λ u e. is.memory u (e ∙ sym same) }

-- a cell after its answer
IsCellOf-answered : (n : Circuit) → IsCircuit n → (m t : ℕ) (r : ModuleRecord) (cell : Option Cell) (levels : List ℕ) → module_at n m ≡ Some r → levels ≡ inputs_by n (level n) r t
    → IsCellOf n m t (Some r) cell → IsCellOf n m (t + 1) (Some r) (option_map (λ x. after_answer x t levels) cell)
IsCellOf-answered n ok m t r None levels at inputs is = absurd is
IsCellOf-answered n ok m t r (Some cell) levels at inputs is = record {
  part = is.part;
  memory = λ u e. let same : t ≡ u = omega arith in answered_is n ok m t r cell levels at is inputs ∙ ap (state n m) same;
}

-- one more module has answered
pub cells_answered : (n : Circuit) → IsCircuit n → (m t : ℕ) (r : ModuleRecord) (cells : List (Option Cell)) (levels : List ℕ) → module_at n m ≡ Some r → levels ≡ inputs_by n (level n) r t
    → AreCells n t m cells → AreCells n t (m + 1) (with_answer cells m t levels)
cells_answered n ok m t r cells levels at inputs are = record { places = length-set cells m slot ∙ are.places; each = each }
  where
    slot : Option Cell
    slot = option_map (λ x. after_answer x t levels) (slot_at cells m)

    within : m < length cells
    within = let stands = slot_within n.modules m r at in omega (arith, stands, are.places)

    now : IsCellOf n m t (module_at n m) (slot_at cells m)
    now = IsCellOf-same n m (delivered t m 0 m 0) t (module_at n m) (slot_at cells m) (units.delivered_not_yet t m 0 m 0 refl (omega arith)) (are.each m)

    here : IsCellOf n m (delivered t (m + 1) 0 m 0) (module_at n m) slot
    here =
        let later : IsCellOf n m (t + 1) (Some r) slot = IsCellOf-answered n ok m t r (slot_at cells m) levels at inputs (subst (λ s. IsCellOf n m t s (slot_at cells m)) at now) in
        IsCellOf-same n m (t + 1) (delivered t (m + 1) 0 m 0) (module_at n m) slot (sym (units.delivered_done t (m + 1) 0 m 0 (omega arith))) (subst (λ s. IsCellOf n m (t + 1) s slot) (sym at) later)

    each : (k : ℕ) → IsCellOf n k (delivered t (m + 1) 0 k 0) (module_at n k) (slot_at (slice_set cells m slot) k)
    each k = elim (cases_eq k m) as (λ _. IsCellOf n k (delivered t (m + 1) 0 k 0) (module_at n k) (slot_at (slice_set cells m slot) k)) [
      | inl same ↦
          subst (λ j. IsCellOf n j (delivered t (m + 1) 0 j 0) (module_at n j) (slot_at (slice_set cells m slot) j)) (sym same)
          (subst (IsCellOf n m (delivered t (m + 1) 0 m 0) (module_at n m)) (sym (get_or-set_same cells m slot None within)) here)
      | inr other ↦
          subst (IsCellOf n k (delivered t (m + 1) 0 k 0) (module_at n k)) (sym (get_or-set_other cells m k slot None other))
          (IsCellOf-same n k (delivered t m 0 k 0) (delivered t (m + 1) 0 k 0) (module_at n k) (slot_at cells k) (units.delivered_next t m 0 k 0 (λ same. absurd (other same))) (are.each k))
    ]

-- where no module stands nothing answers
pub cells_without_module : (n : Circuit) (m t : ℕ) (cells : List (Option Cell)) → module_at n m ≡ None → AreCells n t m cells → AreCells n t (m + 1) cells
cells_without_module n m t cells none are = record {
  places = are.places;
  each = λ k. elim (cases_eq k m) as (λ _. IsCellOf n k (delivered t (m + 1) 0 k 0) (module_at n k) (slot_at cells k)) [
    | inl same ↦ subst (λ j. IsCellOf n j (delivered t (m + 1) 0 j 0) (module_at n j) (slot_at cells j)) (sym same) (nothing (slot_at cells m) (subst (λ s. IsCellOf n m (delivered t m 0 m 0) s (slot_at cells m)) none (are.each m)))
    | inr other ↦ IsCellOf-same n k (delivered t m 0 k 0) (delivered t (m + 1) 0 k 0) (module_at n k) (slot_at cells k) (units.delivered_next t m 0 k 0 (λ same. absurd (other same))) (are.each k)
  ];
}
  where
    nothing : (cell : Option Cell) → IsCellOf n m (delivered t m 0 m 0) None cell → IsCellOf n m (delivered t (m + 1) 0 m 0) (module_at n m) cell
    nothing None is = subst (λ s. IsCellOf n m (delivered t (m + 1) 0 m 0) s None) (sym none) tt
    nothing (Some cell) is = absurd is

-- when all have answered at a time, they stand before the next
pub cells_next : (n : Circuit) (t : ℕ) (cells : List (Option Cell)) → AreCells n t (length n.modules) cells → AreCells n (t + 1) 0 cells
cells_next n t cells are = record { places = are.places; each = λ m. by m (module_at n m) refl (are.each m) }
  where
    by : (m : ℕ) (slot : Option ModuleRecord) → module_at n m ≡ slot → IsCellOf n m (delivered t (length n.modules) 0 m 0) (module_at n m) (slot_at cells m) → IsCellOf n m (delivered (t + 1) 0 0 m 0) (module_at n m) (slot_at cells m)
    by m None at is = subst (λ s. IsCellOf n m (delivered (t + 1) 0 0 m 0) s (slot_at cells m)) (sym at) (empty m (slot_at cells m) (subst (λ s. IsCellOf n m (delivered t (length n.modules) 0 m 0) s (slot_at cells m)) at is))
      where
        empty : (m : ℕ) (cell : Option Cell) → IsCellOf n m (delivered t (length n.modules) 0 m 0) None cell → IsCellOf n m (delivered (t + 1) 0 0 m 0) None cell
        empty m None is = tt
        empty m (Some cell) is = absurd is
    by m (Some r) at is = IsCellOf-same n m (delivered t (length n.modules) 0 m 0) (delivered (t + 1) 0 0 m 0) (module_at n m) (slot_at cells m) (units.delivered_done t (length n.modules) 0 m 0 (slot_within n.modules m r at) ∙ sym (units.delivered_none (t + 1) m 0)) is

-- before time 0
pub first_cells_are : (n : Circuit) → AreCells n 0 0 (map (option_map (first_cell n)) n.modules)
first_cells_are n = record {
  places = length-map n.modules (option_map (first_cell n));
  each = λ m. subst (IsCellOf n m (delivered 0 0 0 m 0) (module_at n m)) (sym (slot_at-map (first_cell n) n.modules m)) (by m (module_at n m));
}
  where
    by : (m : ℕ) (slot : Option ModuleRecord) → IsCellOf n m (delivered 0 0 0 m 0) slot (option_map (first_cell n) slot)
    by m None = tt
    by m (Some r) = record { part = refl; memory = λ u e. let none = units.delivered_none 0 m 0 in absurd (omega (arith, e, none)) }

-- the state of a module that has answered
pub memory_is : (n : Circuit) → IsCircuit n → (m t : ℕ) (r : ModuleRecord) (cells : List (Option Cell)) (memory : Memory) → module_at n m ≡ Some r → AreCells n t (m + 1) cells → memory_at cells m ≡ Some memory → memory ≡ state n m t
memory_is n ok m t r cells memory at are found = by (slot_at cells m) (subst (λ s. IsCellOf n m (delivered t (m + 1) 0 m 0) s (slot_at cells m)) at (are.each m)) found
  where
    by : (slot : Option Cell) → IsCellOf n m (delivered t (m + 1) 0 m 0) (Some r) slot → option_map (λ (cell : Cell). cell.memory) slot ≡ Some memory → memory ≡ state n m t
    by None is same = absurd is
    by (Some cell) is same =
        let here : cell.memory ≡ memory = cc in
        sym here ∙ is.memory t (sym (units.delivered_done t (m + 1) 0 m 0 (omega arith)))

-- a module that stands has a state
pub memory_some : (n : Circuit) (m t done : ℕ) (r : ModuleRecord) (cells : List (Option Cell)) → module_at n m ≡ Some r → AreCells n t done cells → memory_at cells m ≡ None → ⊥
memory_some n m t done r cells at are none = by (slot_at cells m) (subst (λ s. IsCellOf n m (delivered t done 0 m 0) s (slot_at cells m)) at (are.each m)) none
  where
    by : (slot : Option Cell) → IsCellOf n m (delivered t done 0 m 0) (Some r) slot → option_map (λ (cell : Cell). cell.memory) slot ≡ None → ⊥
    by None is same = is
    by (Some cell) is same = cc
