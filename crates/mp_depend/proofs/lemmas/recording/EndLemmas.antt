-- What is kept of modules before all borders.
use Rattle.std.proofs.Common.{◌≡◌, ℕ, ◌+◌, ◌<◌, List, [], ◌∷◌, ◌++◌, map, Option, None, option_map, length, ap, sym, subst, ◌∙◌, arith, inl, inr}
use Rattle.std.proofs.lemmas.Bool.{cases_lt, cases_eq}
use Rattle.std.proofs.lemmas.List.{get_or_past, get_or_push, get_or_append_left, map-append, length-map}
use Rattle.mp_modules.specs.Memories.{blank}
use Rattle.mp_records.specs.declared.module_record.ModuleRecord.{ModuleRecord}
use Rattle.mp_netlist.specs.Slots.{slot_at}
use Rattle.mp_netlist.specs.Circuit.{Circuit, module_at}
use Rattle.mp_partition.specs.declared.runs.checkpoint.Checkpoint.{Checkpoint}
use Rattle.mp_partition.specs.runs.Checkpoints.{kept_at, state_before}
use Rattle.mp_partition.specs.runs.Runs.{AreCheckpoints}
use Rattle.mp_partition.proofs.lemmas.runs.OutcomeLemmas.{no_module}
use Rattle.mp_depend.specs.recording.Endings.{HasCheckpoints}

-- what is kept of one module more
pub kept_more : {X : Type 0} (n : Circuit) (m : ℕ) (f : X → Option (List Checkpoint)) (xs : List X) (x : X) → length xs ≡ m → ((k : ℕ) → k < m → HasCheckpoints n k (slot_at (map f xs) k)) → HasCheckpoints n m (f x)
    → (k : ℕ) → k < m + 1 → HasCheckpoints n k (slot_at (map f (xs ++ x ∷ [])) k)
kept_more n m f xs x size has is k low =
    subst (λ ys. HasCheckpoints n k (slot_at ys k)) (sym (map-append f xs (x ∷ [])))
    (elim (cases_eq k m) as (λ _. HasCheckpoints n k (slot_at (map f xs ++ f x ∷ []) k)) [
      | inl same ↦
          subst (HasCheckpoints n k) (sym (get_or_push (map f xs) (f x) None k (length-map xs f ∙ size ∙ sym same)))
          (subst (λ j. HasCheckpoints n j (f x)) (sym same) is)
      | inr other ↦
          subst (HasCheckpoints n k) (sym (get_or_append_left (map f xs) (f x ∷ []) None k (let count = length-map xs f in omega (arith, low, other, count, size))))
          (has k (omega (arith, low, other)))
    ])

-- what is kept of all modules
pub kept_are : (n : Circuit) (m : ℕ) (slots : List (Option (List Checkpoint))) → m ≡ length n.modules → length slots ≡ m → ((k : ℕ) → k < m → HasCheckpoints n k (slot_at slots k)) → AreCheckpoints n slots
kept_are n m slots end size has = record {
  places = size ∙ end;
  each = λ k c border low. elim (cases_lt k m) as (λ _. option_map (λ ks. kept_at ks c blank) (slot_at slots k) ≡ option_map (λ (r : ModuleRecord). state_before n k r c) (module_at n k)) [
    | inl less ↦ has k less c border low
    | inr past ↦
        ap (option_map (λ ks. kept_at ks c blank)) (get_or_past slots k None (omega (arith, past, size)))
        ∙ sym (no_module n (λ (r : ModuleRecord). state_before n k r c) k (omega (arith, past, end)))
  ];
}
