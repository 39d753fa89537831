-- The touched modules, looked for by number.
use Rattle.std.proofs.Common.{◌≡◌, ℕ, ◌+◌, ◌-◌, ◌<◌, List, [], ◌∷◌, ◌++◌, Contains, All, length, map, slice_index, ap, sym, subst, arith, inl, inr}
use Rattle.std.specs.List.Sorted.{IsStrictlyIncreasing}
use Rattle.std.proofs.lemmas.Bool.{cases_lt, cases_eq}
use Rattle.std.proofs.lemmas.List.{get_or_append_left, get_or_push, length_push, map-append}
use Rattle.std.proofs.lemmas.List.Elements.{All-push, All-weaker, All-map, Contains-append_left, Contains-push, Contains-push_cases}
use Rattle.mp_records.specs.declared.ids.ModuleId.{ModuleId}
use Rattle.mp_netlist.specs.Circuit.{Circuit}
use Rattle.mp_model.specs.Reach.{IsTouched}
use Rattle.mp_depend.specs.Touched.{IsSameStanding}

-- a list that rises goes on rising with a number above all
rises_more : (xs : List ℕ) (y : ℕ) → IsStrictlyIncreasing xs → All (λ x. x < y) xs → IsStrictlyIncreasing (xs ++ y ∷ [])
rises_more xs y rises below k within =
    let size = length_push xs y in
    let here : k < length xs = omega (arith, size, within) in
    let first : slice_index (xs ++ y ∷ []) k ≡ slice_index xs k = get_or_append_left xs (y ∷ []) 0 k here in
    elim (cases_lt (k + 1) (length xs)) as (λ _. slice_index (xs ++ y ∷ []) k < slice_index (xs ++ y ∷ []) (k + 1)) [
      | inl less ↦ let next : slice_index (xs ++ y ∷ []) (k + 1) ≡ slice_index xs (k + 1) = get_or_append_left xs (y ∷ []) 0 (k + 1) less in omega (arith, first, next, rises k less)
      | inr last ↦
          let next : slice_index (xs ++ y ∷ []) (k + 1) ≡ y = get_or_push xs y 0 (k + 1) (omega arith) in
          omega (arith, first, next, below k 0 here)
    ]

-- what is known of the modules below m
pub record AreFound (old new : Circuit) (m : ℕ) (ids : List ModuleId) : Type 0 where
  pub order : IsStrictlyIncreasing (map (λ (id : ModuleId). id.0) ids)
  pub below : All (λ (id : ModuleId). id.0 < m) ids
  pub listed : (k : ℕ) → Contains ids (record { 0 = k }) → IsTouched old new k
  pub all : (k : ℕ) → k < m → IsTouched old new k → Contains ids (record { 0 = k })
  pub others : (k : ℕ) → k < m → (Contains ids (record { 0 = k }) → ⊥) → IsSameStanding old new k

pub found_more : (old new : Circuit) (m : ℕ) (ids : List ModuleId) → IsTouched old new m → AreFound old new m ids → AreFound old new (m + 1) (ids ++ record { 0 = m } ∷ [])
found_more old new m ids touched are = record {
  order = subst IsStrictlyIncreasing (sym (map-append (λ (id : ModuleId). id.0) ids (id ∷ []))) (rises_more (map (λ (id : ModuleId). id.0) ids) m are.order (All-map (λ x. x < m) (λ (id : ModuleId). id.0) ids are.below));
  below = All-push (λ (x : ModuleId). x.0 < m + 1) ids id (All-weaker (λ (x : ModuleId). x.0 < m) (λ (x : ModuleId). x.0 < m + 1) (λ x less. omega arith) ids are.below) (omega arith);
  listed = λ k has. elim (Contains-push_cases ids id (record { 0 = k }) has) as (λ _. IsTouched old new k) [
    | inl earlier ↦ are.listed k earlier
    | inr last ↦ subst (IsTouched old new) (ap (λ (x : ModuleId). x.0) last) touched
  ];
  all = λ k low is. elim (cases_eq k m) as (λ _. Contains (ids ++ id ∷ []) (record { 0 = k })) [
    | inl one ↦ subst (λ j. Contains (ids ++ id ∷ []) (record { 0 = j })) (sym one) (Contains-push ids id)
    | inr other ↦ Contains-append_left ids (id ∷ []) (record { 0 = k }) (are.all k (omega arith) is)
  ];
  others = λ k low not. elim (cases_eq k m) as (λ _. IsSameStanding old new k) [
    | inl one ↦ absurd (not (subst (λ j. Contains (ids ++ id ∷ []) (record { 0 = j })) (sym one) (Contains-push ids id)))
    | inr other ↦ are.others k (omega arith) (λ has. not (Contains-append_left ids (id ∷ []) (record { 0 = k }) has))
  ];
}
  where
    id : ModuleId
    id = record { 0 = m }

pub found_same : (old new : Circuit) (m : ℕ) (ids : List ModuleId) → (IsTouched old new m → ⊥) → IsSameStanding old new m → AreFound old new m ids → AreFound old new (m + 1) ids
found_same old new m ids not same are = record {
  order = are.order;
  below = All-weaker (λ (x : ModuleId). x.0 < m) (λ (x : ModuleId). x.0 < m + 1) (λ x less. omega arith) ids are.below;
  listed = are.listed;
  all = λ k low is. elim (cases_eq k m) as (λ _. Contains ids (record { 0 = k })) [
    | inl one ↦ absurd (not (subst (IsTouched old new) one is))
    | inr other ↦ are.all k (omega arith) is
  ];
  others = λ k low none. elim (cases_eq k m) as (λ _. IsSameStanding old new k) [
    | inl one ↦ subst (IsSameStanding old new) (sym one) same
    | inr other ↦ are.others k (omega arith) none
  ];
}
