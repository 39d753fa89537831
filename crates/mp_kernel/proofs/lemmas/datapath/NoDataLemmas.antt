-- Where no module has data, none fires.
use Rattle.std.proofs.Common.{◌≡◌, ℕ, ◌++◌, List, [], ◌∷◌, Option, Some, None, length, refl, ap, ◌∙◌, arith}
use Rattle.mp_kernel.specs.declared.datapath.level_change.LevelChange.{LevelChange}
use Rattle.mp_kernel.specs.declared.datapath.data_module.DataModule.{DataModule}
use Rattle.mp_kernel.specs.datapath.DataFiring.{place_at, ArePlaced, events_in, changes_in, fired_by, changed_by}

module _ (levels : List ℕ) (places : List (Option ℕ)) (modules : List DataModule) (placed : ArePlaced places (length modules)) (none : length modules ≡ 0) where
  -- no place has a module
  no_place : (q : ℕ) (o : Option ℕ) → place_at places q ≡ o → o ≡ None
  no_place q None is = refl
  no_place q (Some k) is = let low = placed.below q k is in absurd (omega arith)

  no_event : (q : ℕ) → events_in levels modules (place_at places q) ≡ []
  no_event q = ap (λ (o : Option ℕ). events_in levels modules o) (no_place q (place_at places q) refl)

  no_change : (q : ℕ) → changes_in levels modules (place_at places q) ≡ []
  no_change q = ap (λ (o : Option ℕ). changes_in levels modules o) (no_place q (place_at places q) refl)

  pub no_events : (due : List ℕ) → fired_by levels places modules due ≡ []
  no_events [] = refl
  no_events (q ∷ due) = ap (λ (xs : List (ℕ × ℕ)). xs ++ fired_by levels places modules due) (no_event q) ∙ no_events due

  pub no_changes : (due : List ℕ) → changed_by levels places modules due ≡ []
  no_changes [] = refl
  no_changes (q ∷ due) = ap (λ (xs : List (ℕ × LevelChange)). xs ++ changed_by levels places modules due) (no_change q) ∙ no_changes due
