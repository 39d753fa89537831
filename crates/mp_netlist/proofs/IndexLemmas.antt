-- A map of names that was cloned, and whose look-ups stay so.
use Rattle.std.proofs.Common.{◌≡◌, ℕ, List, [], ◌∷◌, ◌⊎◌, inl, inr, refl, ap}
use Rattle.std.specs.Map.{lookup}
use Rattle.std.specs.List.{AllZip}
use Rattle.std.specs.Str.{bytes_eq}
use Rattle.std.specs.HashMap.{HashMap}
use Rattle.indexmap.specs.IndexMap.{get}

-- a map whose entries are clones of another's has the same look-ups
lookup-clone : {X : Type 0} (es ds : List (List ℕ × X)) (name : List ℕ) → AllZip (λ p q. (q.0 ≡ p.0) × (q.1 ≡ p.1)) es ds → lookup (bytes_eq name) ds ≡ lookup (bytes_eq name) es
lookup-clone [] [] name all = refl
lookup-clone [] (d ∷ ds) name all = absurd all
lookup-clone (e ∷ es) [] name all = absurd all
lookup-clone (e ∷ es) (d ∷ ds) name all = rw (all.0.0, all.0.1, lookup-clone es ds name all.1) refl

-- a map that is another, or a clone of it, has the same look-ups
pub get-same : {X S : Type 0} (m n : HashMap (List ℕ) X S) → (n ≡ m) ⊎ AllZip (λ p q. (q.0 ≡ p.0) × (q.1 ≡ p.1)) m.entries n.entries → (name : List ℕ) → get bytes_eq n name ≡ get bytes_eq m name
get-same m n (inl same) name = ap (λ k. get bytes_eq k name) same
get-same m n (inr clone) name = lookup-clone m.entries n.entries name clone

-- so has one with the same entries
pub get-unchanged : {X S : Type 0} (m n : HashMap (List ℕ) X S) → n.entries ≡ m.entries → (name : List ℕ) → get bytes_eq n name ≡ get bytes_eq m name
get-unchanged m n same name = ap (lookup (bytes_eq name)) same
