-- An output that inputs hold keeps its level as long as they keep theirs.
use Rattle.std.specs.Prelude.{◌≡◌, ℕ, ◌<◌, ◌⊎◌, List, [], ◌∷◌, slice_index}
use Rattle.mp_modules.specs.declared.kind.Kind.{Kind}
use Rattle.mp_modules.specs.declared.memory.Memory.{Memory}
use Rattle.mp_modules.specs.Kinds.{output_count}
use Rattle.mp_modules.specs.Memories.{output_of}
use Rattle.mp_modules.specs.storage.AnyModules.{any_part_of, step}
use Rattle.mp_holding.specs.Holding.{holding_sets}

-- a set is one of some sets
abbrev pub HasSet : List (List ℕ) → List ℕ → Type 0
HasSet [] set = ⊥
HasSet (first ∷ sets) set = (first ≡ set) ⊎ HasSet sets set

-- the inputs of a set have the same levels twice
abbrev pub AreSame : List ℕ → List ℕ → List ℕ → Type 0
AreSame [] x y = Unit {0}
AreSame (p ∷ ps) x y = (slice_index y p ≡ slice_index x p) × AreSame ps x y

-- a module takes a unit with the levels x, and then one with the levels y
abbrev pub after_one : Kind → List ℕ → ℕ → Memory → List ℕ → Memory
after_one kind params width s x = step (any_part_of kind params width) s x

abbrev pub after_two : Kind → List ℕ → ℕ → Memory → List ℕ → List ℕ → Memory
after_two kind params width s x y = step (any_part_of kind params width) (after_one kind params width s x) y

-- the output is the same after both, and the set holds it after both
pub record StaysHeld (kind : Kind) (params : List ℕ) (width : ℕ) (s : Memory) (x y : List ℕ) (p : ℕ) (set : List ℕ) : Type 0 where
  pub output : output_of (after_two kind params width s x y) p ≡ output_of (after_one kind params width s x) p
  pub holds : HasSet (holding_sets kind params (after_two kind params width s x y) p) set

abbrev pub KeepsHeldOutputs : Type 0
KeepsHeldOutputs =
    (kind : Kind) (params : List ℕ) (width : ℕ) (s : Memory) (x y : List ℕ) (p : ℕ) (set : List ℕ) → p < output_count kind
    → HasSet (holding_sets kind params (after_one kind params width s x) p) set → AreSame set x y → StaysHeld kind params width s x y p set
